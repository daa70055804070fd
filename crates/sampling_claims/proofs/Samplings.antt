-- A sampling's erasure bytes and drawn errors go by the draws alone; flips over no defects mark the syndrome of the flipped edges. Assumes nothing.
use mathlib.Core.Path.{◌≡◌, refl, sym, ap, ◌∙◌}
use mathlib.Core.Bool.{Bool, true, false, ◌||◌, cond, false≢true}
use mathlib.Core.List.{List, [], ◌∷◌}
use Prim.Native.Nat.{ℕ, zero, suc, ◌+◌, ◌*◌, ◌-◌, ◌≤◌, ◌<◌}
use native.Mathlib.Decide.{ℕ_discrete}
use native.Mathlib.Omega.{arith}
use lib.ListN.{length, get_or, take, replicate, length-replicate, get_or-replicate}
use lib.Seq.{take-append-le, take_all}
use lib.Ieee.{Float, binary64, of_bits, lt}
use lib.Dec.{eqb}
use borrow.Author.Tests.{eq-eqb, ne_eqb}
use Rattle.std.specs.Prelude.{Ok}
use Rattle.columns.specs.Lists.{each}
use Rattle.columns.specs.Places.{zero_float}
use Rattle.columns.proofs.Columns.{take-over, over-in}
use Rattle.columns.proofs.Counting.{each_same, length-each, getD-each}
use Rattle.columns_neighbors.specs.Lists.{chosen}
use Rattle.columns_neighbors.proofs.Placing.{each-places}
use Rattle.columns_room.specs.Graph.{CodeGraph}
use Rattle.columns_marks.specs.Marks.{is_set, listed, names, marks}
use Rattle.columns_marks.proofs.Listing.{chosen_at, chosen-has, chosen-below, chosen_ascends}
use Rattle.columns_answers.specs.Counts.{syndrome_lengths}
use Rattle.sampling_generator.specs.declared.DeterministicRng.{DeterministicRng}
use Rattle.sampling_generator.specs.Random.{seed_from_u64, word_of, next_of, draw_of}
use Rattle.sampling_edges.specs.Draws.{advanced, draw_number, is_erased, error_probability, has_error, sampled_erasures, sampled_errors}
use Rattle.sampling_flips.specs.Flip.{flip_each}
use Rattle.sampling_flips.proofs.Flipping.{flipEach-virtual}
use Rattle.sampling_calls.specs.Records.{SyndromeColumns}
use Rattle.sampling_calls.specs.Sampling.{sampled_defects, GeneratedRandomErrors}
use Rattle.sampling_calls.specs.Syndrome.{syndrome_of}
use Rattle.sampling_calls.proofs.Inner.{flipEach-inner}
use Rattle.sampling_calls.proofs.Accepting.{listed-syndrome}
use Rattle.sampling_calls.proofs.Draws.{length-sampled_defects, length-sampled_erasures}
use Rattle.sampling_claims.specs.Called.{SeedReturned, seed_returned, DrawsReturned, no_draw, draw_then}
use Rattle.sampling_claims.specs.Samplings.{SameBefore, SameMarks, drawn_errors, TwoDraws, TakesTwoDraws, DefectsOf, SampledSyndrome}
use Rattle.sampling_claims.proofs.Accepted.{sampling_promise, how-many-defects, defect-over, erasure-over, defectList-over, syndrome_promise, how-many, syndrome-over}

-- ---- the erasure marks

module _ (r : DeterministicRng) (pe : List Float) where
  abbrev mark : ℕ → ℕ
  mark k = cond (is_erased r pe k) 1 0

  marks-first : (k n : ℕ) → k ≤ n → take k (sampled_erasures r pe n) ≡ sampled_erasures r pe k
  unfolding sampled_erasures
  marks-first k n h = each-places mark k (each n mark) (omega (arith, length-each n mark)) (λ u l. getD-each n mark 0 u (omega arith))

  mark-at : (n k : ℕ) → k < n → get_or (sampled_erasures r pe n) k 0 ≡ mark k
  unfolding sampled_erasures
  mark-at n k h = getD-each n mark 0 k h

-- the erasure column of an accepted sampling, before edge k
marks_of : (seed k : ℕ) (g : CodeGraph) (p pe : List Float) (s₀ s : SyndromeColumns) (d e : ℕ) → GeneratedRandomErrors seed g p pe s₀ (Ok (syndrome_lengths d e)) s → k ≤ g.edges
    → take k s.erasure ≡ sampled_erasures (seed_from_u64 seed) pe k
marks_of seed k g p pe s₀ s d e x h =
    let r = seed_from_u64 seed in
    ap (take k) (erasure-over x) ∙ take-append-le k (sampled_erasures r pe g.edges) _ (omega (arith, length-sampled_erasures r pe g.edges)) ∙ marks-first r pe k g.edges h

marks_same : (r : DeterministicRng) (k : ℕ) (p₁ pe₁ p₂ pe₂ : List Float) → SameBefore k p₁ pe₁ p₂ pe₂ → sampled_erasures r pe₁ k ≡ sampled_erasures r pe₂ k
unfolding sampled_erasures is_erased
marks_same r k p₁ pe₁ p₂ pe₂ same = each_same k _ _ (λ j h. ap (λ (x : Float). cond (lt (draw_number r (2 * j + 1)) x) 1 0) (same.same_pe j h))

pub same_marks : SameMarks
same_marks seed k g₁ g₂ p₁ pe₁ p₂ pe₂ s₁ t₁ s₂ t₂ d₁ e₁ d₂ e₂ c₁ c₂ h₁ h₂ same =
    marks_of seed k g₁ p₁ pe₁ s₁ t₁ d₁ e₁ (sampling_promise c₁) h₁ ∙ marks_same (seed_from_u64 seed) k p₁ pe₁ p₂ pe₂ same
    ∙ sym (marks_of seed k g₂ p₂ pe₂ s₂ t₂ d₂ e₂ (sampling_promise c₂) h₂)

-- ---- the numbers that pass a test, as a list that names them

or_true : (b : Bool) → (b || true) ≡ true
or_true true = refl
or_true false = refl

names_place : (xs : List ℕ) (k i : ℕ) → i < length xs → get_or xs i 0 ≡ k → names xs k ≡ true
unfolding names
names_place [] k i h e = absurd (omega arith)
names_place (x ∷ xs) k zero h e = ap (λ (b : Bool). b || names xs k) (eq-eqb x k e)
names_place (x ∷ xs) k (suc i) h e = ap (λ (b : Bool). eqb x k || b) (names_place xs k i (omega arith) e) ∙ or_true (eqb x k)

place_of : (xs : List ℕ) (k : ℕ) → names xs k ≡ true → (i : ℕ) × ((i < length xs) × (get_or xs i 0 ≡ k))
unfolding names
place_of [] k e = absurd (false≢true e)
place_of (x ∷ xs) k e = elim (ℕ_discrete x k) [
  | yes q ↦ (0, (omega arith, q))
  | no q ↦
      let (i, (l, at)) = place_of xs k (sym (ap (λ (b : Bool). b || names xs k) (ne_eqb x k q)) ∙ e) in
      (suc i, (omega arith, at))
]

names-chosen : (test : ℕ → Bool) (n k : ℕ) → k < n → names (chosen n test) k ≡ test k
names-chosen test n k h = go (test k) refl (names (chosen n test) k) refl
  where
    go : (b : Bool) → test k ≡ b → (c : Bool) → names (chosen n test) k ≡ c → names (chosen n test) k ≡ test k
    go true t c e = let (i, (l, at)) = chosen-has test n k h t in names_place (chosen n test) k i l at ∙ sym t
    go false t false e = e ∙ sym t
    go false t true e =
        let (i, (l, at)) = place_of (chosen n test) k e in
        absurd (false≢true (sym t ∙ ap test (sym at) ∙ (chosen_at test n i l).passes))

-- ---- two draws for every edge

two_draws : (seed : ℕ) (g : CodeGraph) (p pe : List Float) (s₀ s : SyndromeColumns) (d e : ℕ) → GeneratedRandomErrors seed g p pe s₀ (Ok (syndrome_lengths d e)) s → TwoDraws seed g p pe s
unfolding sampled_errors has_error error_probability is_erased
two_draws seed g p pe s₀ s d e x =
    let r = seed_from_u64 seed in
    record {
      erased = λ k h.
          ap (λ (l : List ℕ). get_or l k 0) (erasure-over x)
          ∙ over-in (sampled_erasures r pe g.edges) s₀.erasure 0 k (omega (arith, length-sampled_erasures r pe g.edges)) ∙ mark-at r pe g.edges k h;
      drawn = λ k h. names-chosen (has_error r p pe) g.edges k h;
      edges_alone = chosen-below (has_error r p pe) g.edges;
      ascends = chosen_ascends (has_error r p pe) g.edges;
    }

seed_is : {seed : ℕ} {g : DeterministicRng} → SeedReturned seed g → g ≡ seed_from_u64 seed
seed_is (seed_returned κs a r s h) = h

-- draws from a generator that was advanced m times
draws_at : (r : DeterministicRng) (m : ℕ) {g : DeterministicRng} {values : List Float} → g ≡ advanced r m → DrawsReturned g values
    → (i : ℕ) → i < length values → get_or values i zero_float ≡ draw_number r (m + i + 1)
unfolding advanced draw_number
draws_at r m e no_draw i l = absurd (omega arith)
draws_at r m e (draw_then κs a d s h ds) zero l =
    let same : m ≡ m + 0 + 1 - 1 = omega arith in
    h.0 ∙ ap (λ (g : DeterministicRng). draw_of (word_of g)) e ∙ ap (λ (n : ℕ). draw_of (word_of (advanced r n))) same
draws_at r m e (draw_then κs a d s h ds) (suc i) l =
    let same : suc m + i + 1 ≡ m + suc i + 1 = omega arith in
    draws_at r (suc m) (h.1 ∙ ap next_of e) ds i (omega arith) ∙ ap (λ (n : ℕ). draw_number r n) same

pub takes_two_draws : TakesTwoDraws
unfolding advanced draw_of of_bits
takes_two_draws = record {
  two_draws = λ seed g p pe s₀ s d e c. two_draws seed g p pe s₀ s d e (sampling_promise c);
  in_order = λ seed g values c ds i l.
      let same : 0 + i + 1 ≡ i + 1 = omega arith in
      draws_at (seed_from_u64 seed) 0 (seed_is c) ds i l ∙ ap (λ (n : ℕ). draw_number (seed_from_u64 seed) n) same;
  fraction = λ word. (of_bits binary64 0x4330000000000000, (refl, refl), refl);
}

-- ---- the syndrome

-- flips over no defects leave bytes of 0 and 1
flipped_few : (a b m ks d : List ℕ) (u : ℕ) → u < length d → get_or d u 0 ≡ 0 → get_or (flip_each a b m ks d) u 0 ≤ 1
flipped_few a b m ks d u h z = elim (ℕ_discrete (get_or m u 0) 0) [
  | yes e ↦ omega (arith, flipEach-inner a b m u e ks d h (omega arith))
  | no f ↦ omega (arith, flipEach-virtual a b m u f ks d h)
]

-- a byte of 0 or 1 says whether it is set
mark_of : (x : ℕ) → x ≤ 1 → x ≡ cond (is_set x) 1 0
mark_of zero h = refl
mark_of (suc zero) h = refl
mark_of (suc (suc x)) h = absurd (omega arith)

-- bytes of 0 and 1 are those that their list sets
marks-listed : (n : ℕ) (bytes : List ℕ) → length bytes ≡ n → ((u : ℕ) → u < n → get_or bytes u 0 ≤ 1) → bytes ≡ marks n (listed n bytes)
unfolding marks listed
marks-listed n bytes l few =
    sym (take_all n bytes (omega arith))
    ∙ each-places (λ k. cond (names (listed n bytes) k) 1 0) n bytes (omega arith)
    (λ u h. mark_of (get_or bytes u 0) (few u h) ∙ ap (λ (b : Bool). cond b 1 0) (sym (names-chosen (λ k. is_set (get_or bytes k 0)) n u h)))

module _ (r : DeterministicRng) (g : CodeGraph) (p pe : List Float) where
  listed-defects : listed g.vertices (sampled_defects r g p pe) ≡ syndrome_of g (sampled_errors r p pe g.edges)
  unfolding sampled_defects
  listed-defects =
      listed-syndrome g (sampled_errors r p pe g.edges) (replicate g.vertices 0) (omega (arith, length-replicate {A = ℕ} g.vertices 0))
      (λ u h. get_or-replicate g.vertices u 0 0 h)

  few-defects : (u : ℕ) → u < g.vertices → get_or (sampled_defects r g p pe) u 0 ≤ 1
  unfolding sampled_defects
  few-defects u h =
      flipped_few g.ends_a g.ends_b g.boundary (sampled_errors r p pe g.edges) (replicate g.vertices 0) u
      (omega (arith, length-replicate {A = ℕ} g.vertices 0)) (get_or-replicate g.vertices u 0 0 h)

defects_of : (seed : ℕ) (g : CodeGraph) (p pe : List Float) (s₀ s : SyndromeColumns) (d e : ℕ) → GeneratedRandomErrors seed g p pe s₀ (Ok (syndrome_lengths d e)) s
    → DefectsOf (drawn_errors seed g p pe) g d s
defects_of seed g p pe s₀ s d e x =
    let r = seed_from_u64 seed in
    let bytes = sampled_defects r g p pe in
    let size : length bytes ≡ g.vertices = length-sampled_defects r g p pe in
    let list : listed g.vertices bytes ≡ syndrome_of g (drawn_errors seed g p pe) = listed-defects r g p pe in
    record {
      count = how-many-defects x ∙ ap length list;
      listed_are = ap (take d) (defectList-over x) ∙ take-over (listed g.vertices bytes) s₀.defect_list d (sym (how-many-defects x)) ∙ list;
      marked_are = ap (take g.vertices) (defect-over x) ∙ take-over bytes s₀.defect g.vertices size ∙ marks-listed g.vertices bytes size (few-defects r g p pe)
          ∙ ap (marks g.vertices) list;
    }

pub sampled_syndrome : SampledSyndrome
sampled_syndrome = record {
  defects = λ seed g p pe s₀ s d e c. defects_of seed g p pe s₀ s d e (sampling_promise c);
  as_syndrome_of = λ seed g p pe s₀ s d e c column₀ column n c'.
      let x = defects_of seed g p pe s₀ s d e (sampling_promise c) in
      let y = syndrome_promise c' in
      let errors = drawn_errors seed g p pe in (
        how-many y ∙ sym x.count,
        ap (take n) (syndrome-over y) ∙ take-over (syndrome_of g errors) column₀ n (sym (how-many y)) ∙ sym x.listed_are,
      );
}
