-- What an accepted call says of its columns, and what it answers and leaves. Assumes nothing.
use mathlib.Core.Path.{◌≡◌, sym, ap, ◌∙◌}
use mathlib.Core.Bool.{Bool, true, ◌&&◌}
use mathlib.Core.List.{List, ◌++◌}
use Prim.Native.Nat.{ℕ, ◌+◌, ◌%◌, ◌≤◌, ◌<◌}
use native.Mathlib.Nat.{zero-add}
use native.Mathlib.Decide.{ℕ_discrete}
use native.Mathlib.Omega.{arith}
use lib.ListN.{length, get_or, take, drop, take-append-drop}
use lib.Seq.{length-take-le}
use lib.Dec.{leb, eqb}
use borrow.Author.Tests.{leb-true, eq-eqb, ne_eqb}
use Rattle.columns.specs.Lists.{over}
use Rattle.columns.specs.Questions.{ask, all_below, marks_sound}
use Rattle.std.specs.Prelude.{Ok}
use Rattle.columns.proofs.Columns.{after-accepted, over-in}
use Rattle.columns.proofs.Tests.{and_both, below_at}
use Rattle.columns_neighbors.specs.Steps.{InRange}
use Rattle.columns.proofs.Refusals.{met, goes_on}
use Rattle.columns_answers.specs.Counts.{syndrome_lengths}
use Rattle.columns_room.specs.Room.{two_long}
use Rattle.columns_room.proofs.Refusals.{two_long_lem}
use Rattle.columns_room.proofs.Graph.{GraphLong, graph_long_of, CodeSound, code_sound_of}
use Rattle.columns_room.specs.Graph.{CodeGraph, graph_long, code_sound}
use Rattle.sampling_calls.specs.Records.{SyndromeColumns, syndrome_long}
use Rattle.columns_marks.specs.Marks.{is_set, listed}
use Rattle.sampling_flips.specs.Flip.{flip_each}
use Rattle.columns_answers.proofs.Said.{accepted-of}
use Rattle.sampling_calls.specs.Errors.{SyndromeAfter, errors_refusal}
use Rattle.sampling_calls.specs.Syndrome.{ends_in, is_defect_of, syndrome_of, syndrome_refusal, FoundSyndrome}
use Rattle.sampling_flips.specs.Steps.{Fits}
use Rattle.sampling_flips.proofs.Flipping.{length-flipEach, flipEach-front, flipEach-virtual}
use Rattle.sampling_calls.proofs.Inner.{flipEach-inner}
use Rattle.columns_marks.proofs.Listing.{set_is_one, chosen_same}

-- ---- questions 6 and 7

pub record SyndromeLong (v e : ℕ) (s : SyndromeColumns) : Type 0 where
  pub long_defect : v ≤ length s.defect
  pub long_erasure : e ≤ length s.erasure
  pub long_defects : v ≤ length s.defect_list
  pub long_erasures : e ≤ length s.erasure_list

pub syndrome_long_of : (v e : ℕ) (s : SyndromeColumns) → syndrome_long v e s ≡ true → SyndromeLong v e s
unfolding syndrome_long
syndrome_long_of v e s p =
    let (q, r) = and_both (two_long v (length s.defect) (length s.defect_list)) _ p in
    let (d, x) = two_long_lem v _ _ q in
    let (t, y) = two_long_lem e _ _ r in
    record { long_defect = d; long_erasure = t; long_defects = x; long_erasures = y }

pub fits_of : (g : CodeGraph) (d : List ℕ) → GraphLong g → CodeSound g → g.vertices ≤ length d → Fits g.vertices g.edges g.ends_a g.ends_b g.boundary d
fits_of g d l s h = record {
  long_a = l.long_a;
  long_b = l.long_b;
  in_a = s.graph.in_a;
  in_b = s.graph.in_b;
  long_boundary = l.long_boundary;
  long_defect = h;
}

-- ---- generate_errors

pub record ErrorsMet (g : CodeGraph) (ks : List ℕ) (s : SyndromeColumns) : Type 0 where
  pub long : GraphLong g
  pub lists : SyndromeLong g.vertices g.edges s
  pub sound : CodeSound g
  pub defects : marks_sound g.vertices s.defect ≡ true
  pub erasures : marks_sound g.edges s.erasure ≡ true
  pub named : (i : ℕ) → i < length ks → get_or ks i 0 < g.edges

pub errors_met : (g : CodeGraph) (ks : List ℕ) (s : SyndromeColumns) → errors_refusal g ks s ≡ 0 → ErrorsMet g ks s
unfolding errors_refusal
errors_met g ks s z =
    let six = graph_long g && syndrome_long g.vertices g.edges s in
    let seven = code_sound g && (marks_sound g.vertices s.defect && marks_sound g.edges s.erasure) in
    let last = ask (all_below g.edges ks) 13 0 in
    let z₇ = goes_on six 5 (ask seven 7 last) z in
    let z₁₃ = goes_on seven 6 last z₇ in
    let (l, x) = and_both (graph_long g) _ (met six 5 (ask seven 7 last) z) in
    let (c, y) = and_both (code_sound g) _ (met seven 6 last z₇) in
    let (d, r) = and_both (marks_sound g.vertices s.defect) _ y in
    record {
      long = graph_long_of g l;
      lists = syndrome_long_of g.vertices g.edges s x;
      sound = code_sound_of g c;
      defects = d;
      erasures = r;
      named = below_at g.edges ks (met (all_below g.edges ks) 12 0 z₁₃);
    }

-- ---- columns afterwards

module _ {A : Type 0} where
  pub over-take : (n : ℕ) (xs : List A) → n ≤ length xs → over (take n xs) xs ≡ xs
  over-take n xs h = ap (λ (k : ℕ). take n xs ++ drop k xs) (length-take-le n xs h) ∙ take-append-drop n xs

-- only the first n bytes are looked at
pub listed-over : (n : ℕ) (vs column : List ℕ) → length vs ≡ n → listed n (over vs column) ≡ listed n vs
unfolding listed
listed-over n vs column e =
    chosen_same n _ _ (λ k h. ap is_set (over-in vs column 0 k (omega arith)))

-- flips in the first v places of a column leave the others
pub flip_each-over : (v e : ℕ) (a b m ks xs d : List ℕ) → length xs ≡ v → InRange a e v → InRange b e v → ((i : ℕ) → i < length ks → get_or ks i 0 < e)
    → flip_each a b m ks (over xs d) ≡ over (flip_each a b m ks xs) d
flip_each-over v e a b m ks xs d l ra rb named =
    flipEach-front a b m ks xs (drop (length xs) d) (λ i h.
    let x = ra (get_or ks i 0) (named i h) in
    let y = rb (get_or ks i 0) (named i h) in
    (omega (arith, x), omega (arith, y)))
    ∙ ap (λ (k : ℕ). flip_each a b m ks xs ++ drop k d) (sym (length-flipEach a b m ks xs))

-- ---- what an accepted call answers and leaves

module _ (q v e : ℕ) (defects erasures : List ℕ) (before : SyndromeColumns) where
  pub left-accepted : (last : SyndromeColumns) {d s : ℕ} → q ≡ 0
      → length defects ≡ v → length erasures ≡ e
      → last.defect ≡ over defects before.defect → last.erasure ≡ over erasures before.erasure
      → d ≡ length (listed v last.defect) → last.defect_list ≡ over (listed v last.defect) before.defect_list
      → s ≡ length (listed e last.erasure) → last.erasure_list ≡ over (listed e last.erasure) before.erasure_list
      → SyndromeAfter q v e defects erasures before (Ok (syndrome_lengths d s)) last
  left-accepted last {d} {s} z ld ls pd ps nd xd ns xs =
      let md : listed v last.defect ≡ listed v defects = ap (listed v) pd ∙ listed-over v defects before.defect ld in
      let ms : listed e last.erasure ≡ listed e erasures = ap (listed e) ps ∙ listed-over e erasures before.erasure ls in
      let cd : d ≡ length (listed v defects) = nd ∙ ap length md in
      let cs : s ≡ length (listed e erasures) = ns ∙ ap length ms in
      record {
        answers = rw (cd, cs) (accepted-of z);
        defect_after = pd ∙ sym (after-accepted q defects before.defect z);
        erasure_after = ps ∙ sym (after-accepted q erasures before.erasure z);
        defect_list_after = xd ∙ ap (λ (l : List ℕ). over l before.defect_list) md ∙ sym (after-accepted q (listed v defects) before.defect_list z);
        erasure_list_after = xs ∙ ap (λ (l : List ℕ). over l before.erasure_list) ms ∙ sym (after-accepted q (listed e erasures) before.erasure_list z);
      }

-- ---- syndrome_of

pub record SyndromeMet (g : CodeGraph) (ks defect_list : List ℕ) : Type 0 where
  pub long : GraphLong g
  pub room : g.vertices ≤ length defect_list
  pub sound : CodeSound g
  pub named : (i : ℕ) → i < length ks → get_or ks i 0 < g.edges

pub syndrome_met : (g : CodeGraph) (ks defect_list : List ℕ) → syndrome_refusal g ks defect_list ≡ 0 → SyndromeMet g ks defect_list
unfolding syndrome_refusal
syndrome_met g ks defect_list z =
    let six = graph_long g && leb g.vertices (length defect_list) in
    let last = ask (all_below g.edges ks) 13 0 in
    let z₇ = goes_on six 5 (ask (code_sound g) 7 last) z in
    let (l, x) = and_both (graph_long g) _ (met six 5 (ask (code_sound g) 7 last) z) in
    record {
      long = graph_long_of g l;
      room = leb-true _ _ x;
      sound = code_sound_of g (met (code_sound g) 6 last z₇);
      named = below_at g.edges ks (met (all_below g.edges ks) 12 0 (goes_on (code_sound g) 6 last z₇));
    }

-- the defect bytes of errors over no defects are those of the syndrome
syndrome_bytes : (g : CodeGraph) (ks d : List ℕ) (u : ℕ) → u < length d → get_or d u 0 ≡ 0
    → is_set (get_or (flip_each g.ends_a g.ends_b g.boundary ks d) u 0) ≡ is_defect_of g ks u
unfolding is_defect_of
syndrome_bytes g ks d u h z = elim (ℕ_discrete (get_or g.boundary u 0) 0) [
  | yes e ↦
      let n = flipEach-inner g.ends_a g.ends_b g.boundary u e ks d h (omega arith) in
      ap is_set (n ∙ ap (λ (x : ℕ). (x + ends_in g.ends_a g.ends_b ks u) % 2) z ∙ ap (λ (x : ℕ). x % 2) (zero-add _)) ∙ set_is_one (ends_in g.ends_a g.ends_b ks u % 2) (omega arith)
      ∙ ap (λ (t : Bool). t && eqb (ends_in g.ends_a g.ends_b ks u % 2) 1) (sym (eq-eqb (get_or g.boundary u 0) 0 e))
  | no e ↦
      ap is_set (flipEach-virtual g.ends_a g.ends_b g.boundary u e ks d h ∙ z)
      ∙ ap (λ (t : Bool). t && eqb (ends_in g.ends_a g.ends_b ks u % 2) 1) (sym (ne_eqb (get_or g.boundary u 0) 0 e))
]

pub listed-syndrome : (g : CodeGraph) (ks d : List ℕ) → g.vertices ≤ length d → ((u : ℕ) → u < g.vertices → get_or d u 0 ≡ 0)
    → listed g.vertices (flip_each g.ends_a g.ends_b g.boundary ks d) ≡ syndrome_of g ks
unfolding listed syndrome_of
listed-syndrome g ks d l z = chosen_same g.vertices _ _ (λ u h. syndrome_bytes g ks d u (omega arith) (z u h))

module _ (g : CodeGraph) (ks defect_list : List ℕ) where
  pub syndrome-accepted : {last : List ℕ} {n : ℕ} → syndrome_refusal g ks defect_list ≡ 0 → n ≡ length (syndrome_of g ks) → last ≡ over (syndrome_of g ks) defect_list
      → FoundSyndrome g ks defect_list (Ok n) last
  syndrome-accepted z p q = record {
    answers = rw p (accepted-of z);
    defect_list_after = q ∙ sym (after-accepted (syndrome_refusal g ks defect_list) (syndrome_of g ks) defect_list z);
  }
