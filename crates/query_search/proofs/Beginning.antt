-- The state before the first turn: keys and columns. Assumes nothing.
use mathlib.Core.Path.{◌≡◌, refl, sym, ap, ◌∙◌}
use mathlib.Core.Bool.{Bool, true, false, cond}
use mathlib.Core.List.{List}
use Prim.Native.Nat.{ℕ, ◌+◌, ◌*◌, ◌<◌, ◌≤◌}
use native.Mathlib.Decide.{ℕ_discrete, dec_lt}
use native.Mathlib.Omega.{arith}
use lib.ListN.{length, get_or, set}
use lib.Seq.{get_or-set_same, get_or-set_other}
use lib.Dec.{eqb, ltb}
use borrow.Author.Tests.{lt-ltb, le-ltb}
use Rattle.columns.specs.Lists.{each}
use Rattle.columns.proofs.Counting.{length-each, getD-each}
use Rattle.query_queue.specs.Tree.{Tree, Same}
use Rattle.query_queue.specs.Tree as Q
use Rattle.query_relaxing.specs.Ready.{key_of, state_of, Ready, Keyed}

module _ (status : List ℕ) where
  -- all columns together
  pub ready-first : (weight previous node leaf : List ℕ) → length status ≤ 4096 → weight ≡ each (length status) (λ v. 0) → previous ≡ each (length status) (λ v. v)
      → length status ≤ length node → length leaf ≡ length status → Tree node leaf (length status) → Keyed status (length status) leaf
      → Ready (length status) (state_of status weight previous) node leaf
  ready-first weight previous node leaf few w p nl ll tree keys =
      let zero_at : (v : ℕ) → v < length status → get_or weight v 0 ≡ 0 = λ v h. ap (λ l. get_or l v 0) w ∙ getD-each (length status) (λ v. 0) 0 v h in record {
        few = few;
        status_fits = refl;
        weight_fits = ap length w ∙ length-each (length status) (λ v. 0);
        previous_fits = ap length p ∙ length-each (length status) (λ v. v);
        node_fits = nl;
        leaf_fits = ll;
        tree = tree;
        keys = λ v h. keys v h ∙ ap (λ b. cond b (key_of (get_or status v 0) 0 v) Q.no_key) (lt-ltb v (length status) h) ∙ ap (λ x. key_of (get_or status v 0) x v) (sym (zero_at v h));
        weights_within = λ v h. omega (arith, zero_at v h);
      }
