-- `columns_stores::fill` meets its contract. Invariant: the value is stored at the places passed. Assumes nothing.
use mathlib.Core.Path.{◌≡◌, refl, sym, ap, ◌∙◌}
use mathlib.Core.List.{List, ◌++◌, []}
use Prim.Native.Nat.{ℕ, ◌≤◌, min}
use native.Mathlib.Omega.{arith}
use lib.ListN.{length, set, take, drop, replicate, length-take, length-replicate}
use lib.Seq.{sets}
use Rattle.std.proofs.lemmas.List.{drop_all}
use mathlib.Core.List.{append-nil}
use Rattle.columns.proofs.Columns.{sets_over, fill_more, fill_end}
use Rattle.columns_stores.proofs.fill.Goals as goal

-- the first m places filled, and the rest as it was
filled : {A : Type 0} (column items : List A) (n m k : ℕ) (v : A) → m ≡ min n (length column) → k ≡ length (take m column) → items ≡ sets (take m column) 0 (replicate k v)
    → items ++ drop m column ≡ sets column 0 (replicate n v)
filled column items n m k v e f h =
    let few : m ≤ length column = omega arith in
    let all : k ≡ m = omega (arith, length-take m column) in
    let vs = replicate m v in
    let one : items ≡ vs =
    h ∙ ap (λ j. sets (take m column) 0 (replicate j v)) all ∙ sets_over (take m column) vs (omega (arith, length-replicate m v, length-take m column))
    ∙ ap (λ (r : List _). vs ++ r) (ap (λ (j : ℕ). drop j (take m column)) (length-replicate m v) ∙ drop_all m (take m column) (omega (arith, length-take m column))) ∙ append-nil vs in
    ap (λ (xs : List _). xs ++ drop m column) one
    ∙ ap (λ (j : ℕ). vs ++ drop j column) (sym (length-replicate m v))
    ∙ sym (sets_over column vs (omega (arith, length-replicate m v)))
    ∙ fill_end column n m v (omega arith) (omega arith)

pub loop-place-preserved : goal.loop-place-preserved
loop-place-preserved g c =
    let at = c.loop-place in
    ap (λ l. set l at.place-index c.args.value) at.invariant ∙ fill_more (take c.min-m.result c.args.column.now) at.place-index c.args.value

pub returns : goal.returns
returns g c =
    filled c.args.column.now _ c.args.n c.min-m.result c.loop-place.place-index c.args.value c.min-m.ensures (omega arith) c.loop-place.invariant
