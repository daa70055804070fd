-- What an accepted call says of its columns. Assumes nothing.
use mathlib.Core.Path.{◌≡◌}
use mathlib.Core.Bool.{Bool, ◌&&◌}
use mathlib.Core.List.{List}
use Prim.Native.Nat.{ℕ, ◌≤◌, ◌<◌}
use lib.ListN.{length, get_or}
use lib.Dec.{leb}
use borrow.Author.Tests.{leb-true}
use Rattle.columns.specs.Limits.{half_weight_limit}
use Rattle.columns.specs.Questions.{all_below, half_weights_sound}
use Rattle.columns.proofs.Tests.{and_both, within_first, below_at}
use Rattle.columns_room.specs.Graph.{code_graph, code_sound}
use Rattle.columns_room.specs.Room.{two_long, three_long}
use Rattle.columns.proofs.Refusals.{met, goes_on}
use Rattle.columns_room.proofs.Refusals.{both_long, two_long_lem, three_long_lem}
use Rattle.access_calls.specs.Calls.{Code, Initializer, initializer_long, initializer_sound, initializer_refusal, Syndrome, set_syndrome_refusal, counts_sound, get_syndrome_refusal, set_marks_refusal, get_marks_refusal}

-- ---- get_initializer

pub record InitializerMet (v e : ℕ) (c : Code) (to : Initializer) : Type 0 where
  pub a : e ≤ length c.ends_a
  pub b : e ≤ length c.ends_b
  pub half : e ≤ length c.half_weight
  pub to_a : e ≤ length to.ends_a
  pub to_b : e ≤ length to.ends_b
  pub to_weight : e ≤ length to.weight
  pub boundary : v ≤ length c.boundary
  pub to_virtual : v ≤ length to.virtual
  pub halves : (k : ℕ) → k < e → get_or c.half_weight k 0 ≤ half_weight_limit

pub initializer_met : (v e : ℕ) (c : Code) (to : Initializer) → initializer_refusal v e c to ≡ 0 → InitializerMet v e c to
unfolding initializer_long initializer_sound
initializer_met v e c to z =
    let long = met (initializer_long v e c to) 5 _ z in
    let sound = met (initializer_sound v e c) 6 0 (goes_on (initializer_long v e c to) 5 _ z) in
    let (p, l₁) = and_both (three_long e (length c.ends_a) (length c.ends_b) (length c.half_weight)) _ long in
    let (q, r) = and_both (three_long e (length to.ends_a) (length to.ends_b) (length to.weight)) _ l₁ in
    let from = three_long_lem e _ _ _ p in
    let into = three_long_lem e _ _ _ q in
    let last = two_long_lem v _ _ r in
    let (g, h) = and_both (code_sound (code_graph v e c.ends_a c.ends_b c.boundary)) (half_weights_sound e c.half_weight) sound in
    record {
      a = from.0;
      b = from.1;
      half = from.2;
      to_a = into.0;
      to_b = into.1;
      to_weight = into.2;
      boundary = last.0;
      to_virtual = last.1;
      halves = within_first half_weight_limit e c.half_weight h from.2;
    }

-- ---- set_defect_vertices, set_erasures

pub set_met : (sound : Bool) (n : ℕ) (list column : List ℕ) → set_marks_refusal sound n list column ≡ 0 → (n ≤ length column) × ((i : ℕ) → i < length list → get_or list i 0 < n)
set_met sound n list column z =
    let z₁₃ = goes_on sound 6 _ (goes_on (leb n (length column)) 5 _ z) in
    (leb-true n (length column) (met (leb n (length column)) 5 _ z), below_at n list (met (all_below n list) 12 0 z₁₃))

-- ---- set_syndrome

pub set-syndrome_met : (v e : ℕ) (lists column : Syndrome) → set_syndrome_refusal v e lists column ≡ 0
    → ((v ≤ length column.defects) × (e ≤ length column.erasures))
    × (((i : ℕ) → i < length lists.defects → get_or lists.defects i 0 < v) × ((i : ℕ) → i < length lists.erasures → get_or lists.erasures i 0 < e))
set-syndrome_met v e lists column z =
    let six = leb v (length column.defects) && leb e (length column.erasures) in
    let below = all_below v lists.defects && all_below e lists.erasures in
    let z₁₃ = goes_on (counts_sound v e) 6 _ (goes_on six 5 _ z) in
    let (p, q) = and_both (all_below v lists.defects) (all_below e lists.erasures) (met below 12 0 z₁₃) in
    (both_long v _ e _ (met six 5 _ z), (below_at v lists.defects p, below_at e lists.erasures q))

-- ---- get_defect_vertices, get_erasures

pub get_met : (sound : Bool) (n : ℕ) (column list : List ℕ) → get_marks_refusal sound n column list ≡ 0 → (n ≤ length column) × (n ≤ length list)
get_met sound n column list z = two_long_lem n _ _ (met (two_long n (length column) (length list)) 5 _ z)

-- ---- get_syndrome

pub get_syndrome_met : (v e : ℕ) (column lists : Syndrome) → get_syndrome_refusal v e column lists ≡ 0
    → ((v ≤ length column.defects) × (v ≤ length lists.defects)) × ((e ≤ length column.erasures) × (e ≤ length lists.erasures))
get_syndrome_met v e column lists z =
    let defects = two_long v (length column.defects) (length lists.defects) in
    let erasures = two_long e (length column.erasures) (length lists.erasures) in
    let (p, q) = and_both defects erasures (met (defects && erasures) 5 _ z) in
    (two_long_lem v _ _ p, two_long_lem e _ _ q)
