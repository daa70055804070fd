-- The columns of a built code get verdict 0. Assumes nothing.
use mathlib.Core.Path.{◌≡◌, refl, sym, ap, ◌∙◌}
use mathlib.Core.Logic.{◌⊎◌, inl, inr}
use mathlib.Core.List.{List}
use Prim.Native.Nat.{ℕ, ◌≤◌, ◌<◌}
use native.Mathlib.Omega.{arith}
use lib.ListN.{length, get_or, take}
use lib.Ieee.{Float}
use Rattle.columns.specs.Lists.{over, after}
use Rattle.columns.proofs.Columns.{after-accepted, take-over}
use Rattle.columns.proofs.Counting.{length-each}
use Rattle.columns_neighbors.specs.Lists.{neighbors, degrees, lists}
use Rattle.codes_writers.specs.Edges.{Ends, firsts, seconds}
use Rattle.codes_layers.specs.Codes.{edges_of}
use Rattle.codes_layers.specs.Counts.{vertex_num, edge_num}
use Rattle.codes_layers.proofs.Accepted.{Accepted, accepted}
use Rattle.codes_layers.proofs.Counted.{edges-counted}
use Rattle.codes_graphs.proofs.Sound.{first-over, second-over, first-is, second_is, built}
use Rattle.codes_graphs.proofs.Lists.{vertex-touched}
use Rattle.std.specs.Prelude.{Option, None, Result, Ok}
use Rattle.columns.specs.declared.refusal.Refusal.{Refusal}
use Rattle.sanity_verdicts.specs.declared.Finding.{Finding}
use Rattle.sanity_verdicts.specs.Sanity.{verdict_said}
use Rattle.sanity_calls.proofs.Verdicts.{sanityAnswer}
use Rattle.sanity_calls.proofs.Theorems.{EndsEdge, sound-verdict}
use Rattle.codes_calls.specs.Columns.{CodeColumns}
use Rattle.codes_calls.specs.CreateCode.{create_refusal, refusal_in, new_columns, CreateCode, code_counts}
use Rattle.codes_calls.proofs.Cases.{code_case}
use Rattle.codes_calls.proofs.Outcome.{degrees-same, lists-same}
use Rattle.codes_calls.specs.NewCode.{new_refusal, new_refusal_in, WeightedCode}
use Rattle.sanity_claims.specs.BuiltAndChecked.{ColumnsBuilt, create_built, new_built, new_diagonal_built, SanityCalled, sanity_called}
use Rattle.sanity_claims.specs.SoundCodes.{BuiltCodesAreSound}

module _ (kind d rounds : ℕ) (ok : Accepted kind d rounds) where
  abbrev es : List Ends
  es = edges_of kind d rounds

  abbrev v : ℕ
  v = vertex_num kind d rounds

  abbrev e : ℕ
  e = edge_num kind d rounds

  count : length es ≡ e
  count = edges-counted kind d ok.distance.three rounds

  module _ (a₀ b₀ l₀ n₀ : List ℕ) where
    abbrev a : List ℕ
    a = over (firsts es) a₀

    abbrev b : List ℕ
    b = over (seconds es) b₀

    same_first : (k : ℕ) → k < e → get_or a k 0 ≡ get_or (firsts es) k 0
    same_first k h = first-over kind d rounds ok a₀ k h ∙ sym (first-is kind d rounds ok k)

    same_second : (k : ℕ) → k < e → get_or b k 0 ≡ get_or (seconds es) k 0
    same_second k h = second-over kind d rounds ok b₀ k h ∙ sym (second_is kind d rounds ok k)

    -- every vertex ends an edge
    ends : (u : ℕ) → u < v → EndsEdge a b e u
    ends u h =
        let z = vertex-touched kind d rounds ok u h in
        let k : ℕ = z.has.place in
        let in_list : k < e = omega (arith, count, z.has.in_list) in
        record { edge = k; before = in_list; at_u = go k in_list z.has.is z.ends }
      where
        go : (k : ℕ) {x : Ends} → k < e → get_or es k (0, 0) ≡ x → (x.0 ≡ u) ⊎ (x.1 ≡ u) → (get_or a k 0 ≡ u) ⊎ (get_or b k 0 ≡ u)
        go k h q (inl r) = inl (first-over kind d rounds ok a₀ k h ∙ ap (λ (x : Ends). x.0) q ∙ r)
        go k h q (inr r) = inr (second-over kind d rounds ok b₀ k h ∙ ap (λ (x : Ends). x.1) q ∙ r)

    some : 1 ≤ e
    some = let z = ends 0 (omega (arith, Rattle.codes_graphs.proofs.Lists.some_vertex kind d rounds ok)) in omega (arith, z.before)

    abbrev ls : List ℕ
    ls = degrees (firsts es) (seconds es) e v

    abbrev ns : List ℕ
    ns = lists (firsts es) (seconds es) e v

    ls-long : length ls ≡ v
    unfolding degrees
    ls-long = length-each v (λ u. length (neighbors (firsts es) (seconds es) e u))

    lengths_are : take v (over ls l₀) ≡ degrees a b e v
    lengths_are = take-over ls l₀ v ls-long ∙ sym (degrees-same a b (firsts es) (seconds es) e same_first same_second v)

    same_lists : lists a b e v ≡ ns
    same_lists = lists-same a b (firsts es) (seconds es) e same_first same_second v

    numbers_are : take (length (lists a b e v)) (over ns n₀) ≡ lists a b e v
    numbers_are = ap (λ (l : List ℕ). take (length l) (over ns n₀)) same_lists ∙ take-over ns n₀ (length ns) refl ∙ sym same_lists

    pub gets-zero : sanityAnswer v e a b (over ls l₀) (over ns n₀) ≡ Ok None
    gets-zero = sound-verdict v e a b (over ls l₀) (over ns n₀) ((built kind d rounds ok).graph a₀ b₀) some ends lengths_are numbers_are

-- columns that were written hold the code
module _ (kind d rounds q : ℕ) (c₀ c : CodeColumns) (z : q ≡ 0) (v e : ℕ) (ve : v ≡ vertex_num kind d rounds) (ee : e ≡ edge_num kind d rounds) (ok : Accepted kind d rounds) where
  written-zero : c.ends_a ≡ after q (new_columns kind d rounds).ends_a c₀.ends_a → c.ends_b ≡ after q (new_columns kind d rounds).ends_b c₀.ends_b
      → c.list_lengths ≡ after q (new_columns kind d rounds).list_lengths c₀.list_lengths → c.neighbor_numbers ≡ after q (new_columns kind d rounds).neighbor_numbers c₀.neighbor_numbers
      → sanityAnswer v e c.ends_a c.ends_b c.list_lengths c.neighbor_numbers ≡ Ok None
  written-zero a b l n =
      (λ i. sanityAnswer (ve i) (ee i) ((a ∙ after-accepted q (new_columns kind d rounds).ends_a c₀.ends_a z) i) ((b ∙ after-accepted q (new_columns kind d rounds).ends_b c₀.ends_b z) i)
      ((l ∙ after-accepted q (new_columns kind d rounds).list_lengths c₀.list_lengths z) i) ((n ∙ after-accepted q (new_columns kind d rounds).neighbor_numbers c₀.neighbor_numbers z) i))
      ∙ gets-zero kind d rounds ok c₀.ends_a c₀.ends_b c₀.list_lengths c₀.neighbor_numbers

created_zero : (kind d rounds : ℕ) (c₀ c : CodeColumns) (v e : ℕ) → CreateCode kind d rounds c₀ c (Ok (code_counts v e)) → sanityAnswer v e c.ends_a c.ends_b c.list_lengths c.neighbor_numbers ≡ Ok None
unfolding create_refusal
created_zero kind d rounds c₀ c v e w =
    let x = code_case w.answers in
    let h = w.columns_after in
    written-zero kind d rounds (refusal_in kind d rounds c₀) c₀ c x.0 v e x.1 x.2 (accepted kind d rounds _ x.0).0 h.ends_a_after h.ends_b_after h.list_lengths_after h.neighbor_numbers_after

weighted_zero : (kind d rounds : ℕ) (p : Float) (diagonal : Option Float) (max : ℕ) (c₀ c : CodeColumns) (v e : ℕ) → WeightedCode kind d rounds p diagonal max c₀ c (Ok (code_counts v e))
    → sanityAnswer v e c.ends_a c.ends_b c.list_lengths c.neighbor_numbers ≡ Ok None
unfolding new_refusal
weighted_zero kind d rounds p diagonal max c₀ c v e w =
    let x = code_case w.answers in
    let h = w.columns_after in
    written-zero kind d rounds (new_refusal_in kind d rounds p diagonal max c₀) c₀ c x.0 v e x.1 x.2 (accepted kind d rounds _ x.0).0 h.ends_a_after h.ends_b_after h.list_lengths_after h.neighbor_numbers_after

-- from what the builders' callers learn
built_zero : (v e : ℕ) (c : CodeColumns) → ColumnsBuilt v e c → sanityAnswer v e c.ends_a c.ends_b c.list_lengths c.neighbor_numbers ≡ Ok None
built_zero v e c (create_built κs a n m s h) = created_zero _ _ _ _ c v e h
built_zero v e c (new_built κs a n m s h) = weighted_zero _ _ _ _ _ _ _ c v e h
built_zero v e c (new_diagonal_built κs a n m s h) = weighted_zero 4 _ _ _ _ _ _ c v e h

checked : (v e : ℕ) (a b l n : List ℕ) (r : Result (Option Finding) Refusal) → SanityCalled v e a b l n r → r ≡ sanityAnswer v e a b l n
checked v e a b l n r (sanity_called κs x q s h) = h.case_is

pub built_codes_are_sound : BuiltCodesAreSound
built_codes_are_sound v e c r b s = ap verdict_said (checked v e c.ends_a c.ends_b c.list_lengths c.neighbor_numbers r s ∙ built_zero v e c b)
