-- Every left vertex a source. Assumes nothing.
use mathlib.Core.Path.{◌≡◌, refl, sym, ap, ◌∙◌}
use mathlib.Core.Bool.{Bool, true, false, cond}
use mathlib.Core.List.{List}
use mathlib.Core.Option.{some, none}
use Prim.Native.Nat.{ℕ, ◌≤◌}
use native.Mathlib.Decide.{dec_lt}
use native.Mathlib.Omega.{arith}
use lib.ListN.{length, get_or, get_or-eq_default}
use lib.Dec.{eqb}
use borrow.Author.Tests.{le-ltb}
use Rattle.columns.specs.Lists.{each}
use Rattle.columns.proofs.Counting.{length-each, getD-each}
use Rattle.engine_walks.specs.Lists.{bit, delta}
use Rattle.engine_walks.specs.Settling.{settled}
use Rattle.engine_walks.specs.Answers.{is_left, from_left}
use Rattle.query_relaxing.specs.Ready.{graph_of, sources, end_of}
use Rattle.query_search.proofs.Listing.{Waiting}

module _ (n : ℕ) (a b m : List ℕ) (fits : length m ≡ n) where
  abbrev first : List ℕ
  first = each n (λ v. delta (get_or m v 0) 1)

  past : (v : ℕ) → n ≤ v → get_or m v 0 ≡ 0
  past v h = get_or-eq_default m 0 {n = v} (omega arith)

  past_first : (v : ℕ) → n ≤ v → get_or first v 0 ≡ 0
  past_first v h = get_or-eq_default first 0 {n = v} (omega (arith, length-each n (λ v. delta (get_or m v 0) 1)))

  one_bit : (x : ℕ) → eqb (delta x 1) 1 ≡ eqb x 1
  one_bit x = go (eqb x 1)
    where
      go : (b : Bool) → eqb (bit b) 1 ≡ b
      go true = refl
      go false = refl

  pub sources-left : sources first ≡ is_left (graph_of n a b m)
  sources-left = λ i v. one v i
    where
      one : (v : ℕ) → eqb (get_or first v 0) 1 ≡ eqb (get_or m v 0) 1
      one v = elim (dec_lt v n) [
        | yes h ↦ ap (λ k. eqb k 1) (getD-each n (λ v. delta (get_or m v 0) 1) 0 v h) ∙ one_bit (get_or m v 0)
        | no h ↦ ap (λ k. eqb k 1) (past_first v (omega arith)) ∙ ap (λ k. eqb k 1) (sym (past v (omega arith)))
      ]

  bit-small : (x : ℕ) → delta x 1 ≤ 1
  bit-small x = go (eqb x 1)
    where
      go : (b : Bool) → bit b ≤ 1
      go true = omega arith
      go false = omega arith

  pub waiting-left : (stop : ℕ) → stop ≡ n → Waiting n first stop
  waiting-left stop e = record {
    fits = length-each n (λ v. delta (get_or m v 0) 1);
    bytes = λ v. elim (dec_lt v n) [
      | yes h ↦ omega (arith, getD-each n (λ v. delta (get_or m v 0) 1) 0 v h, bit-small (get_or m v 0))
      | no h ↦ omega (arith, past_first v (omega arith))
    ];
    no_source = λ q. omega (arith, past_first stop (omega arith));
  }

  pub settled-left : (w : ℕ → ℕ) → settled (graph_of n a b m) w (sources first) (end_of n n) ≡ from_left (graph_of n a b m) w
  unfolding from_left
  settled-left w = ap (λ f. settled (graph_of n a b m) w f (end_of n n)) sources-left
      ∙ ap (λ k. settled (graph_of n a b m) w (is_left (graph_of n a b m)) (cond k (some n) none)) (le-ltb n n (omega arith))
