-- The verdict from its parts, and what question 6 says. Assumes nothing.
use mathlib.Core.Path.{◌≡◌, refl, sym, ap, ◌∙◌, subst}
use mathlib.Core.Bool.{Bool, true, false, ◌&&◌, ◌||◌, cond}
use mathlib.Core.List.{List}
use Prim.Native.Nat.{ℕ, ◌*◌, ◌≤◌}
use native.Mathlib.Omega.{arith}
use lib.Dec.{eqb, leb}
use lib.ListN.{length, get_or}
use borrow.Author.Tests.{ne_eqb, leb-true, le-leb}
use Rattle.columns.specs.Questions.{ask}
use Rattle.columns.proofs.Tests.{and_both, both_and}
use Rattle.columns_answers.specs.Said.{Answered}
use Rattle.columns_answers.proofs.Said.{accepts-of, refuses-of}
use Rattle.std.specs.Prelude.{Option, Some, Result, Ok, Err}
use Rattle.columns.specs.declared.refusal.Refusal.{Refusal}
use Rattle.columns.specs.declared.refusal.Refusal.TheVariants.{ShortColumn}
use Rattle.sanity_verdicts.specs.declared.Finding.{Finding}
use Rattle.sanity_verdicts.specs.declared.Finding.TheVariants.{Empty}
use Rattle.columns_neighbors.specs.Lists.{sum_to, neighbor_list_at}
use Rattle.columns_room.specs.Room.{two_long, lists_long}
use Rattle.columns_room.proofs.Refusals.{two_long_lem, lists_long_lem}
use Rattle.sanity_verdicts.specs.Sanity.{verdict_values, verdict_said, or_else, first_of, duplicate, at_vertex, verdict, sanity_long, SanityChecked}

-- the verdict, or question 6
said_of : (long : Bool) (x : Option Finding) (r : Result (Option Finding) Refusal) → r ≡ cond long (Ok x) (Err ShortColumn)
    → Answered (verdict_said r) (ask long 6 0) (verdict_values x) (0, 0, 0)
said_of true x r e = subst (λ (y : Result (Option Finding) Refusal). Answered (verdict_said y) 0 (verdict_values x) (0, 0, 0)) (sym e) (accepts-of refl)
said_of false x r e = subst (λ (y : Result (Option Finding) Refusal). Answered (verdict_said y) 6 (verdict_values x) (0, 0, 0)) (sym e) (refuses-of refl (λ z. absurd (omega arith)))

module _ (v e : ℕ) (a b lengths numbers : List ℕ) where
  -- what the two scans find
  abbrev pub scans : Option Finding
  scans = or_else (first_of e (duplicate a b)) (first_of v (λ u. at_vertex (neighbor_list_at lengths numbers u) (get_or lengths u 0) u))

  pub scanned : (v ≡ 0 → ⊥) → (e ≡ 0 → ⊥) → scans ≡ verdict v e a b lengths numbers
  unfolding verdict
  scanned f g =
      ap (λ (t : Bool). cond t (Some Empty) scans) (sym (ne_eqb e 0 g)) ∙ ap (λ (t : Bool). cond (t || eqb e 0) (Some Empty) scans) (sym (ne_eqb v 0 f))

  pub record Long : Type 0 where
    pub a-long : e ≤ length a
    pub b-long : e ≤ length b
    pub lengths-long : v ≤ length lengths
    pub twice-long : 2 * e ≤ length numbers
    pub sum-long : sum_to v lengths ≤ length numbers

  pub long_of : sanity_long v e a b lengths numbers ≡ true → Long
  unfolding sanity_long
  long_of h =
      let (p, q) = and_both (two_long e (length a) (length b) && leb v (length lengths)) _ h in
      let (x, z) = and_both (two_long e (length a) (length b)) _ p in
      let (s, t) = lists_long_lem v e lengths numbers q in
      let (y, w) = two_long_lem e _ _ x in
      record { a-long = y; b-long = w; lengths-long = leb-true _ _ z; twice-long = s; sum-long = t }

  pub long_from : Long → sanity_long v e a b lengths numbers ≡ true
  unfolding sanity_long two_long lists_long
  long_from l =
      both_and (both_and (both_and (le-leb _ _ l.a-long) (le-leb _ _ l.b-long)) (le-leb _ _ l.lengths-long))
      (both_and (le-leb _ _ l.twice-long) (le-leb _ _ l.sum-long))

  -- the answer by cases, and in document 01's numbers
  abbrev pub sanityAnswer : Result (Option Finding) Refusal
  sanityAnswer = cond (sanity_long v e a b lengths numbers) (Ok (verdict v e a b lengths numbers)) (Err ShortColumn)

  pub checked : (r : Result (Option Finding) Refusal) → r ≡ sanityAnswer → SanityChecked v e a b lengths numbers r
  checked r q = record { case_is = q; answers = said_of (sanity_long v e a b lengths numbers) (verdict v e a b lengths numbers) r q }
