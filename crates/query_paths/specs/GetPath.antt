-- What `get_path` answers and leaves in the columns that it writes.
use Rattle.std.specs.Prelude.{ℕ, zero, suc, ◌≡◌, Bool, true, false, not, cond, ◌&&◌, List, length, leb, ltb, eqb, Result}
use Rattle.std.proofs.Math.Option.{Option, some, none}
use Rattle.columns.specs.Lists.{over}
use Rattle.columns.specs.Questions.{ask}
use Rattle.columns.specs.declared.refusal.Refusal.{Refusal}
use Rattle.columns_answers.specs.Said.{said, Answered}
use Rattle.engine_columns.specs.Records.{Engine}
use Rattle.engine_walks.specs.Settling.{settled}
use Rattle.engine_walks.specs.Answers.{only, FoundPath, path}
use Rattle.query_paths.specs.declared.PathCounts.{PathCounts}
use Rattle.query_questions.specs.Queries.{graph_in, weights_in, query_refusal}
use Rattle.query_questions.specs.Scratch.{ScratchColumns, scratch_fits, ScratchAfter}

-- Engine, Path, sentence 1: a path's length and total.
abbrev pub path_counts : (len total : ℕ) → PathCounts
path_counts len total = record { length = len; total = total }

-- Questions at the door, sentence 2: the length and total that a refusal reports.
abbrev pub no_path : PathCounts
no_path = path_counts 0 0

-- Expected forms by place, last paragraph: the length of a path, from the answer.
abbrev pub length_of : Result PathCounts Refusal → ℕ
length_of r = (said no_path r).values.length

-- Expected forms by place, last paragraph: the total of a path, from the answer.
abbrev pub total_of : Result PathCounts Refusal → ℕ
total_of r = (said no_path r).values.total

-- Questions at the door, 6, 7, 13 and 16, in order, of `get_path`: the number of the first that is not met, or 0; `scratch` says whether scratch is long enough.
abbrev pub path_asked : Engine → (scratch : Bool) (a b vertices steps : ℕ) → ℕ
path_asked e scratch a b vertices steps =
    query_refusal e (leb e.counts.vertices vertices && (leb e.counts.vertices steps && scratch)) (ltb a e.counts.vertices && ltb b e.counts.vertices)
    (ask (not (eqb a b)) 16 0)

-- Questions at the door, 17: whether there is a path.
abbrev pub is_found : Option FoundPath → Bool
is_found none = false
is_found (some p) = true

-- Engine, Path, sentence 1: length and total of a path, both 0 where there is none.
abbrev pub length_and_total : Option FoundPath → PathCounts
length_and_total none = no_path
length_and_total (some p) = path_counts (length p.vertices) p.total

-- Questions at the door, 17, after the earlier ones: the number of the first question that is not met, or 0.
abbrev pub path_refusal : (refusal : ℕ) → Option FoundPath → ℕ
path_refusal zero p = ask (is_found p) 17 0
path_refusal (suc n) p = suc n

-- Engine, Path, sentence 1: the answer, where the number before 17 and the path are known.
abbrev pub PathSaid : (refusal : ℕ) → Option FoundPath → Result PathCounts Refusal → Type 0
PathSaid refusal p r = Answered (said no_path r) (path_refusal refusal p) (length_and_total p) no_path

-- Engine, Path, sentence 3: the columns after a search: places past the path's length are unchanged, and all places where there is no path.
abbrev pub vertices_after : Option FoundPath → List ℕ → List ℕ
vertices_after none column = column
vertices_after (some p) column = over p.vertices column

-- Engine, Path, sentence 3: likewise the weights of the steps.
abbrev pub steps_after : Option FoundPath → List ℕ → List ℕ
steps_after none column = column
steps_after (some p) column = over p.steps column

-- Engine, Path: the answer of `get_path`, both columns, and scratch (Crossing, last sentence): after success and after 17 it holds what the search from a with the
-- end b leaves; a call that an earlier question refuses leaves it as it was.
pub record GotPath (e : Engine) (a b : ℕ) (answer : Result PathCounts Refusal) (vertices₀ vertices steps₀ steps : List ℕ) (scratch₀ scratch : ScratchColumns) : Type 0 where
  pub answers : PathSaid (path_asked e (scratch_fits e.counts scratch₀) a b (length vertices₀) (length steps₀)) (path (graph_in e) (weights_in e) a b) answer
  pub vertices_after_holds : vertices
      ≡ cond (eqb (path_asked e (scratch_fits e.counts scratch₀) a b (length vertices₀) (length steps₀)) 0) (vertices_after (path (graph_in e) (weights_in e) a b) vertices₀) vertices₀
  pub steps_after_holds : steps ≡ cond (eqb (path_asked e (scratch_fits e.counts scratch₀) a b (length vertices₀) (length steps₀)) 0) (steps_after (path (graph_in e) (weights_in e) a b) steps₀) steps₀
  pub scratch_after : ScratchAfter (said no_path answer).number (graph_in e) (settled (graph_in e) (weights_in e) (only a) (some b)) scratch₀ scratch
