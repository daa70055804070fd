-- A tree of least keys over any leaves: what each place holds, counted down from the leaves. Assumes nothing.
use mathlib.Core.Path.{◌≡◌, refl, sym, ap, ◌∙◌}
use mathlib.Core.Bool.{Bool, cond}
use mathlib.Core.List.{List, ◌++◌}
use Prim.Native.Nat.{ℕ, zero, suc, ◌+◌, ◌*◌, ◌-◌, ◌<◌, ◌≤◌, min}
use native.Mathlib.Decide.{dec_lt}
use native.Mathlib.Omega.{arith}
use lib.ListN.{length, get_or, get_or-append}
use lib.Dec.{ltb}
use borrow.Author.Tests.{lt-ltb, le-ltb}
use Rattle.columns.specs.Lists.{each}
use Rattle.columns.proofs.Counting.{length-each, getD-each}
use Rattle.query_queue.specs.Tree.{place_of, Tree}
use Rattle.query_queue.proofs.Places.{inner_is, leaf_is}

module _ (leaf : List ℕ) (n : ℕ) where
  -- what place j holds, if the leaves are at most f levels below it
  held : (f j : ℕ) → ℕ
  held zero j = get_or leaf (j - n) 0
  held (suc f) j = cond (ltb j n) (min (held f (2 * j)) (held f (2 * j + 1))) (get_or leaf (j - n) 0)

  -- more levels than there are change nothing
  more : (f j : ℕ) → 0 < j → n ≤ j + f → held (suc f) j ≡ held f j
  unfolding held
  more zero j p h = ap (λ (b : Bool). cond b (min (held 0 (2 * j)) (held 0 (2 * j + 1))) (get_or leaf (j - n) 0)) (le-ltb j n (omega arith))
  more (suc f) j p h = λ i. cond (ltb j n) (min (more f (2 * j) (omega arith) (omega arith) i) (more f (2 * j + 1) (omega arith) (omega arith) i)) (get_or leaf (j - n) 0)

  at_leaf : (f j : ℕ) → n ≤ j → held f j ≡ get_or leaf (j - n) 0
  unfolding held
  at_leaf zero j h = refl
  at_leaf (suc f) j h = ap (λ (b : Bool). cond b (min (held f (2 * j)) (held f (2 * j + 1))) (get_or leaf (j - n) 0)) (le-ltb j n h)

  -- the inner places
  pub nodes : List ℕ
  nodes = each n (held n)

  pub nodes-length : length nodes ≡ n
  unfolding nodes
  nodes-length = length-each n (held n)

  module _ (past : List ℕ) where
    place_is : (j : ℕ) → 0 < j → place_of (nodes ++ past) leaf n j ≡ held n j
    unfolding nodes
    place_is j p = elim (dec_lt j n) [
      | yes l ↦ inner_is (nodes ++ past) leaf n j l ∙ get_or-append nodes past 0 j (omega (arith, nodes-length)) ∙ getD-each n (held n) 0 j l
      | no l ↦ leaf_is (nodes ++ past) leaf n j (omega arith) ∙ sym (at_leaf n j (omega arith))
    ]

    pub nodes-tree : Tree (nodes ++ past) leaf n
    unfolding held
    nodes-tree k p l =
        place_is k p
        ∙ sym (more n k p (omega arith))
        ∙ ap (λ (b : Bool). cond b (min (held n (2 * k)) (held n (2 * k + 1))) (get_or leaf (k - n) 0)) (lt-ltb k n l)
        ∙ (λ i. min (sym (place_is (2 * k) (omega arith)) i) (sym (place_is (2 * k + 1) (omega arith)) i))
