-- `query_crossings::found_crossing` meets its contract: the nearest right vertex decides the answer, and the column where there is one. Assumes nothing.
use mathlib.Core.Path.{◌≡◌, sym, ap, ◌∙◌, subst}
use native.Mathlib.Omega.{arith}
use borrow.Author.Rules.{rules}
use lib.ListN.{take}
use lib.Seq.{sets, length-take-le}
use Rattle.std.specs.Prelude.{Err, ok_or}
use Rattle.columns.specs.declared.refusal.Refusal.TheVariants.{NoCrossing}
use Rattle.columns.specs.Lists.{each}
use Rattle.columns.proofs.Counting.{length-each}
use Rattle.engine_walks.specs.Answers.{table_weight}
use Rattle.query_crossing_answer.specs.Least.{if_any}
use Rattle.query_relaxing.specs.Ready.{state_of}
use Rattle.query_crossings.specs.Found.{crossing_in, FoundIn}
use Rattle.query_crossings.proofs.Crossings.{found-ok, found-err}
use Rattle.query_crossings.proofs.found_crossing.Goals as goal

pub returns-in_err-found : goal.returns-in_err-found
returns-in_err-found c p =
    let a = c.args in
    let s = state_of (take a.v a.status.now) (take a.v a.weight.now) p in
    let n = length-take-le a.v a.status.now c.requires.lengths.0 in
    let e = sym (c.in_err-found.ensures ∙ ap (λ o. ok_or o NoCrossing) (c.nearest_right.ensures p ∙ ap (λ k. if_any (crossing_in s (take a.v a.boundary.now) k)) n)) in
    let r : c.from_residual.result ≡ Err c.in_err-found.field-0.0 = search rules in
    subst (λ x. FoundIn (crossing_in s (take a.v a.boundary.now) a.v) (each a.v (table_weight s)) x a.out.now a.out.now) (sym r) (found-err _ _ _ _ e)

pub returns : goal.returns
returns c p =
    let a = c.args in
    let s = state_of (take a.v a.status.now) (take a.v a.weight.now) p in
    let n = length-take-le a.v a.status.now c.requires.lengths.0 in
    let e = sym (c.in_ok-found.ensures ∙ ap (λ o. ok_or o NoCrossing) (c.nearest_right.ensures p ∙ ap (λ k. if_any (crossing_in s (take a.v a.boundary.now) k)) n)) in
    found-ok _ (each a.v (table_weight s)) _ _ _ e (omega (arith, length-each a.v (table_weight s), c.requires.lengths))
    (c.write_weights.ensures p ∙ ap (λ k. sets a.out.now 0 (each k (table_weight s))) n)
