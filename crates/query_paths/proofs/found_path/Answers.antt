-- `query_paths::found_path` meets its contract: where b was taken its path fits and `write_path` writes it, else there is none and 17 is said. Assumes nothing.
use mathlib.Core.Path.{◌≡◌, sym, ap, ◌∙◌, subst}
use mathlib.Core.List.{List, map}
use Prim.Native.Nat.{ℕ}
use native.Mathlib.Omega.{arith}
use borrow.Author.Rules.{rules}
use lib.ListN.{length, take}
use lib.Seq.{sets, length-take-le}
use Rattle.std.specs.Prelude.{Err}
use Rattle.engine_walks.specs.Answers.{read_back_of, step_into}
use Rattle.query_relaxing.specs.Ready.{state_of}
use Rattle.query_read_back.specs.Path.{path_of}
use Rattle.query_read_back.proofs.Back.{read_short}
use Rattle.query_paths.proofs.PathAsked.{Left, path_there, path_none}
use Rattle.query_paths.proofs.found_path.Goals as goal

pub returns-in_err-require : goal.returns-in_err-require
returns-in_err-require c =
    let a = c.args in
    let s = state_of (take a.v a.status.now) (take a.v a.weight.now) (take a.v a.previous.now) in
    let d = c.in_err-require.ensures.err in
    let r : c.from_residual.result ≡ Err c.in_err-require.field-0.0 = search rules in
    let l = path_none s a.v a.a.0 a.b.0 {vertices₀ = a.out_vertices.now} {steps₀ = a.out_steps.now} (sym (c.is_taken.ensures (take a.v a.weight.now) (take a.v a.previous.now)) ∙ d.0) in
    let m = subst (λ x. Left s a.v a.a.0 a.b.0 (path_of s a.v a.a.0 a.b.0) x a.out_vertices.now a.out_vertices.now a.out_steps.now a.out_steps.now) (sym (r ∙ ap Err d.1)) l in
    record { path_said = m.path_said; out_vertices_after = m.vertices_left; out_steps_after = m.steps_left }

pub write_path-requires : goal.write_path-requires
write_path-requires c =
    let a = c.args in
    let s = state_of (take a.v a.status.now) (take a.v a.weight.now) (take a.v a.previous.now) in
    let e = c.path_length-count.ensures (take a.v a.weight.now) in
    let n = length-take-le a.v a.status.now c.requires.lengths.0 in
    let l = read_short s a.a.0 (length (take a.v a.status.now)) a.b.0 in (e, omega (arith, e, l, n, c.requires.lengths), omega (arith, e, l, n, c.requires.lengths))

pub overflow_cast-result : goal.overflow_cast-result
overflow_cast-result c =
    let a = c.args in
    let s = state_of (take a.v a.status.now) (take a.v a.weight.now) (take a.v a.previous.now) in
    let n = length-take-le a.v a.status.now c.requires.lengths.0 in
    omega (arith, c.path_length-count.ensures (take a.v a.weight.now), read_short s a.a.0 (length (take a.v a.status.now)) a.b.0, n, c.requires.few)

pub returns : goal.returns
returns c =
    let a = c.args in
    let s = state_of (take a.v a.status.now) (take a.v a.weight.now) (take a.v a.previous.now) in
    let n = length-take-le a.v a.status.now c.requires.lengths.0 in
    let by : ℕ → List ℕ = λ k. read_back_of s a.a.0 k a.b.0 in
    let w = c.write_path.ensures in
    let l = path_there s a.v a.a.0 a.b.0 (sym (c.is_taken.ensures (take a.v a.weight.now) (take a.v a.previous.now)) ∙ c.in_ok-require.ensures.ok) (c.path_length-count.ensures (take a.v a.weight.now) ∙ ap (λ k. length (by k)) n) c.load_weight.ensures
    (omega (arith, c.requires.lengths)) (omega (arith, c.requires.lengths)) (w.out_vertices_after ∙ ap (λ k. sets a.out_vertices.now 0 (by k)) n) (w.out_steps_after ∙ ap (λ k. sets a.out_steps.now 0 (map (step_into s) (by k))) n) in
    record { path_said = l.path_said; out_vertices_after = l.vertices_left; out_steps_after = l.steps_left }
