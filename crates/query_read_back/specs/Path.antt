-- What the functions that read a path back promise one another.
use Rattle.std.specs.Prelude.{cond, map, ℕ, eqb, Option, Some, None}
use Rattle.std.proofs.Math.Option as maybe
use Rattle.columns.specs.declared.VertexIndex.{VertexIndex}
use Rattle.engine_walks.specs.Settling.{State, weight_at}
use Rattle.engine_walks.specs.Answers.{entry, read_back_of, step_into, taken, FoundPath}

-- Engine, Path, sentence 2: the table's entry for a previous vertex or none.
abbrev pub entry_of : maybe.Option ℕ → Option VertexIndex
entry_of (maybe.some v) = Some (record { 0 = v })
entry_of maybe.none = None

-- Engine, Path, sentence 2: one step back from v on the way to a.
abbrev pub step_back : State → (a v : ℕ) → maybe.Option ℕ
step_back s a v = cond (eqb v a) maybe.none (entry s v)

-- Engine, Path, sentences 1 and 2: the path of a to b in s, of n vertices, or none where b was not taken.
abbrev pub path_of : State → (n a b : ℕ) → maybe.Option FoundPath
path_of s n a b =
    cond (taken s b) (maybe.some (record { vertices = read_back_of s a n b; steps = map (step_into s) (read_back_of s a n b); total = weight_at s b })) maybe.none
