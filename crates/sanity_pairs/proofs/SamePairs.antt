-- Laws of the first edge that joins the pair of an earlier one. Assumes nothing.
use mathlib.Core.Path.{◌≡◌, refl, sym, ap, ◌∙◌}
use mathlib.Core.Logic.{⊎_elim}
use mathlib.Core.Bool.{Bool, true, false, not, false≢true}
use mathlib.Core.List.{List}
use Prim.Native.Nat.{ℕ, ◌+◌, ◌≤◌, ◌<◌}
use native.Mathlib.Omega.{arith}
use borrow.Author.Tests.{not-true}
use Rattle.columns.specs.Questions.{every}
use Rattle.columns.proofs.Tests.{every-at, every_more}
use Rattle.columns_pairs.specs.Pairs.{same_pair, pairs_apart, FirstRepeat}
use Rattle.columns_pairs.proofs.PairTests.{fresh-not, fresh-all, le_or_lt}
use Rattle.std.specs.Prelude.{Option, None, Some, is_some}
use Rattle.sanity_verdicts.specs.declared.Finding.{Finding}
use Rattle.sanity_verdicts.specs.declared.Finding.TheVariants.{DuplicateEdge}
use Rattle.sanity_verdicts.specs.Sanity.{edge_numbered, first_of, found_if, duplicate}
use Rattle.sanity_pairs.specs.Steps.{FirstSame}
use Rattle.sanity_verdicts.proofs.Scans.{first_next, first_stop, first-all, found_true, found_false}

module _ {a b : List ℕ} {i r : ℕ} (s : FirstSame a b i r) where
  apart : every r (λ j. not (same_pair a b j i)) ≡ true
  apart = fresh-all a b i r s.none

  before : (m : ℕ) → m < r → same_pair a b m i ≡ false
  before m h = not-true (same_pair a b m i) (every-at (λ j. not (same_pair a b j i)) r apart m h)

  here : r < i → same_pair a b r i ≡ true
  here h = go (same_pair a b r i) refl
    where
      go : (t : Bool) → same_pair a b r i ≡ t → t ≡ true
      go true e = refl
      go false e = absurd (false≢true (sym (fresh-not a b i (r + 1) r (omega arith) (s.low h) (s.high h)) ∙ every_more (λ j. not (same_pair a b j i)) r apart (ap not e)))

  none-same : (r < i → ⊥) → duplicate a b i ≡ None
  unfolding duplicate
  none-same f = first-all _ i (λ m h. found_false (same_pair a b m i) (DuplicateEdge (edge_numbered m) (edge_numbered i)) (before m (omega (arith, s.within))))

  some_same : r < i → duplicate a b i ≡ Some (DuplicateEdge (edge_numbered r) (edge_numbered i))
  unfolding duplicate
  some_same h =
      let f : ℕ → Option Finding = λ j. found_if (same_pair a b j i) (DuplicateEdge (edge_numbered j) (edge_numbered i)) in
      let it : f r ≡ Some (DuplicateEdge (edge_numbered r) (edge_numbered i)) = found_true (same_pair a b r i) (DuplicateEdge (edge_numbered r) (edge_numbered i)) (here h) in
      first_stop f i r h (first-all f r (λ m l. found_false (same_pair a b m i) (DuplicateEdge (edge_numbered m) (edge_numbered i)) (before m l))) (ap is_some it) ∙ it

  -- the loop over the edges: a turn, and the edge that ends it
  pub scan_more : first_of i (duplicate a b) ≡ None → (r < i → ⊥) → first_of (i + 1) (duplicate a b) ≡ None
  scan_more p f = first_next (duplicate a b) i p (none-same f)

  pub scan_stop : (n : ℕ) → i < n → first_of i (duplicate a b) ≡ None → r < i → Some (DuplicateEdge (edge_numbered r) (edge_numbered i)) ≡ first_of n (duplicate a b)
  scan_stop n h p l = sym (first_stop (duplicate a b) n i h p (ap is_some (some_same l)) ∙ some_same l)

-- by the first edge that joins the pair of an earlier one
module _ (a b : List ℕ) (n r : ℕ) (s : FirstRepeat a b n r) where
  none_before : first_of r (duplicate a b) ≡ None
  unfolding duplicate pairs_apart
  none_before = first-all (duplicate a b) r (λ k h. first-all _ k (λ m l. found_false (same_pair a b m k) (DuplicateEdge (edge_numbered m) (edge_numbered k))
      (not-true (same_pair a b m k) (every-at (λ j. not (same_pair a b j k)) k (every-at (λ k. every k (λ j. not (same_pair a b j k))) r s.apart k h) m l))))

  pub repeat_none : n ≤ r → first_of n (duplicate a b) ≡ None
  repeat_none h = let e : r ≡ n = omega (arith, s.within) in rw e at none_before

  pub repeat_found : (q : ℕ) → r < n → FirstSame a b r q → Some (DuplicateEdge (edge_numbered q) (edge_numbered r)) ≡ first_of n (duplicate a b)
  repeat_found q h f = scan_stop f n h none_before (⊎_elim
      (λ (l : r ≤ q). absurd (false≢true (sym (s.repeats h) ∙ fresh-all a b r r (λ m o. f.none m (omega arith)))))
      (λ (l : q < r). l)
      (le_or_lt r q))
