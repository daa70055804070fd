-- What an accepted call says of its columns, and what it answers and leaves. Assumes nothing.
use mathlib.Core.Path.{◌≡◌, sym, ap, ◌∙◌}
use mathlib.Core.Bool.{true, ◌&&◌}
use mathlib.Core.List.{List}
use Prim.Native.Nat.{ℕ, ◌≤◌, ◌<◌}
use native.Mathlib.Omega.{arith}
use lib.ListN.{length, get_or, take}
use Rattle.columns.specs.Places.{zero_float}
use lib.Dec.{leb, eqb}
use borrow.Author.Tests.{leb-true, eqb-true}
use Rattle.columns.specs.Limits.{vertex_limit}
use Rattle.columns.specs.Lists.{over}
use Rattle.columns.specs.Questions.{ask, all_below, marks_sound}
use Rattle.std.specs.Prelude.{Ok}
use Rattle.columns_answers.proofs.Said.{accepted-of}
use Rattle.columns.proofs.Columns.{after-accepted}
use Rattle.columns.proofs.Tests.{and_both, below_at}
use Rattle.columns.proofs.Refusals.{met, goes_on}
use Rattle.reorder_orders.specs.Order.{none_twice, renamed, moved}
use Rattle.reorder_calls.specs.Numbers.{build_refusal, translate_refusal}
use Rattle.columns_neighbors.specs.Lists.{sum_to}
use Rattle.columns_room.specs.Graph.{code_graph, code_sound}
use Rattle.columns_room.specs.Room.{two_long, three_long, lists_long}
use Rattle.columns_room.proofs.Refusals.{three_long_lem, lists_long_lem}
use Rattle.columns_room.proofs.Graph.{CodeSound, code_sound_of}
use Rattle.reorder_calls.specs.Columns.{ReorderColumns, moved_lists, reorder_long, reorder_sound, order_refusal, reorder_refusal, ReorderedVertices}
use Rattle.reorder_orders.specs.Steps.{IsOrder}

-- ---- build_old_to_new

module _ (order column : List ℕ) where
  pub build-met : build_refusal order column ≡ 0 → IsOrder order × (length order ≤ length column)
  unfolding build_refusal
  build-met z =
      let last = ask (none_twice order) 14 0 in
      let q₁₃ = ask (all_below (length order) order) 13 last in
      let q₁₁ = ask (leb (length order) vertex_limit) 11 q₁₃ in
      let z₁₁ = goes_on (leb (length order) (length column)) 5 q₁₁ z in
      let z₁₃ = goes_on (leb (length order) vertex_limit) 10 q₁₃ z₁₁ in
      let z₁₄ = goes_on (all_below (length order) order) 12 last z₁₃ in (
        record {
          few = leb-true (length order) vertex_limit (met (leb (length order) vertex_limit) 10 q₁₃ z₁₁);
          below = met (all_below (length order) order) 12 last z₁₃;
          once = met (none_twice order) 13 0 z₁₄;
        },
        leb-true (length order) (length column) (met (leb (length order) (length column)) 5 q₁₁ z),
      )

-- ---- translated_defect_to_reordered

module _ (order list column : List ℕ) where
  pub record TranslateMet : Type 0 where
    pub order_is : IsOrder order
    pub room : length list ≤ length column
    pub listed : (i : ℕ) → i < length list → get_or list i 0 < length order

  pub translate-met : translate_refusal order list column ≡ 0 → TranslateMet
  unfolding translate_refusal
  translate-met z =
      let last = ask (none_twice order) 14 0 in
      let both = all_below (length order) order && all_below (length order) list in
      let q₁₃ = ask both 13 last in
      let q₁₁ = ask (leb (length order) vertex_limit) 11 q₁₃ in
      let z₁₁ = goes_on (leb (length list) (length column)) 5 q₁₁ z in
      let z₁₃ = goes_on (leb (length order) vertex_limit) 10 q₁₃ z₁₁ in
      let (x, y) = and_both (all_below (length order) order) (all_below (length order) list) (met both 12 last z₁₃) in
      record {
        order_is = record {
          few = leb-true (length order) vertex_limit (met (leb (length order) vertex_limit) 10 q₁₃ z₁₁);
          below = x;
          once = met (none_twice order) 13 0 (goes_on both 12 last z₁₃);
        };
        room = leb-true (length list) (length column) (met (leb (length list) (length column)) 5 q₁₁ z);
        listed = below_at (length order) list y;
      }

-- ---- reorder_vertices

-- 11, 13 and 14 of an order for v vertices
pub order_met : (v : ℕ) (order : List ℕ) → v ≤ vertex_limit → order_refusal v order ≡ 0 → IsOrder order × (length order ≡ v)
unfolding order_refusal
order_met v order few z =
    let last = ask (none_twice order) 14 0 in
    let q₁₃ = ask (all_below v order) 13 last in
    let z₁₃ = goes_on (eqb (length order) v) 10 q₁₃ z in
    let e : length order ≡ v = eqb-true (length order) v (met (eqb (length order) v) 10 q₁₃ z) in (
      record {
        few = omega arith;
        below = ap (λ (n : ℕ). all_below n order) e ∙ met (all_below v order) 12 last z₁₃;
        once = met (none_twice order) 13 0 (goes_on (all_below v order) 12 last z₁₃);
      },
      e,
    )

-- 7
pub sound_few : (v e : ℕ) (a b m d : List ℕ) → reorder_sound v e a b m d ≡ true → CodeSound (code_graph v e a b m)
unfolding reorder_sound
sound_few v e a b m d p = code_sound_of (code_graph v e a b m) (and_both (code_sound (code_graph v e a b m)) (marks_sound v d) p).0

pub record ReorderMet (v e : ℕ) (order : List ℕ) (c : ReorderColumns) : Type 0 where
  pub order_is : IsOrder order
  pub many : length order ≡ v
  pub sound : CodeSound (code_graph v e c.ends_a c.ends_b c.boundary)
  pub long_boundary : v ≤ length c.boundary
  pub long_defect : v ≤ length c.defect
  pub long_lengths : v ≤ length c.list_lengths
  pub long_i : v ≤ length c.pos_i
  pub long_j : v ≤ length c.pos_j
  pub long_t : v ≤ length c.pos_t
  pub long_numbers : sum_to v c.list_lengths ≤ length c.neighbor_numbers
  pub long_scratch : sum_to v c.list_lengths ≤ length c.scratch
  pub marks : marks_sound v c.defect ≡ true

pub reorder_met : (v e : ℕ) (order : List ℕ) (c : ReorderColumns) → reorder_refusal v e order c ≡ 0 → ReorderMet v e order c
unfolding reorder_refusal reorder_long reorder_sound
reorder_met v e order c z =
    let seven = reorder_sound v e c.ends_a c.ends_b c.boundary c.defect in
    let rest = order_refusal v order in
    let z₇ = goes_on (reorder_long v e c) 5 (ask seven 7 rest) z in
    let (ends, x) = and_both (two_long e (length c.ends_a) (length c.ends_b)) _ (met (reorder_long v e c) 5 (ask seven 7 rest) z) in
    let (vertices, y) = and_both (three_long v (length c.boundary) (length c.defect) (length c.list_lengths)) _ x in
    let (positions, w) = and_both (three_long v (length c.pos_i) (length c.pos_j) (length c.pos_t)) _ y in
    let (numbers, scratch) = and_both (lists_long v e c.list_lengths c.neighbor_numbers) _ w in
    let (m, d, l) = three_long_lem v _ _ _ vertices in
    let (i, j, t) = three_long_lem v _ _ _ positions in
    let (ok, marks) = and_both (code_sound (code_graph v e c.ends_a c.ends_b c.boundary)) (marks_sound v c.defect) (met seven 6 rest z₇) in
    let code = code_sound_of (code_graph v e c.ends_a c.ends_b c.boundary) ok in
    let (o, n) = order_met v order code.graph.few_vertices (goes_on seven 6 rest z₇) in
    record {
      order_is = o;
      many = n;
      sound = code;
      long_boundary = m;
      long_defect = d;
      long_lengths = l;
      long_i = i;
      long_j = j;
      long_t = t;
      long_numbers = (lists_long_lem v e _ _ numbers).1;
      long_scratch = (lists_long_lem v e _ _ scratch).1;
      marks = marks;
    }

-- the answer and the columns
module _ (v e : ℕ) (order : List ℕ) (b : ReorderColumns) where
  pub reordered-accepted : (last : ReorderColumns) → reorder_refusal v e order b ≡ 0 → length order ≡ v
      → last.ends_a ≡ over (renamed order (take e b.ends_a)) b.ends_a → last.ends_b ≡ over (renamed order (take e b.ends_b)) b.ends_b
      → last.boundary ≡ over (moved order 0 b.boundary) b.boundary → last.defect ≡ over (moved order 0 b.defect) b.defect
      → last.pos_i ≡ over (moved order zero_float b.pos_i) b.pos_i → last.pos_j ≡ over (moved order zero_float b.pos_j) b.pos_j
      → last.pos_t ≡ over (moved order zero_float b.pos_t) b.pos_t → last.list_lengths ≡ over (moved order 0 b.list_lengths) b.list_lengths
      → last.neighbor_numbers ≡ over (moved_lists order b.list_lengths b.neighbor_numbers) b.neighbor_numbers
      → last.scratch ≡ over (take (sum_to (length order) b.list_lengths) b.neighbor_numbers) b.scratch → ReorderedVertices v e order b (Ok tt) last
  reordered-accepted last z many pa pb pm pd pi pj pt pl pn ps =
      let refusal = reorder_refusal v e order b in
      record {
        answers = accepted-of z;
        ends_a_after = pa ∙ sym (after-accepted refusal (renamed order (take e b.ends_a)) b.ends_a z);
        ends_b_after = pb ∙ sym (after-accepted refusal (renamed order (take e b.ends_b)) b.ends_b z);
        boundary_after = pm ∙ sym (after-accepted refusal (moved order 0 b.boundary) b.boundary z);
        defect_after = pd ∙ sym (after-accepted refusal (moved order 0 b.defect) b.defect z);
        pos_i_after = pi ∙ sym (after-accepted refusal (moved order zero_float b.pos_i) b.pos_i z);
        pos_j_after = pj ∙ sym (after-accepted refusal (moved order zero_float b.pos_j) b.pos_j z);
        pos_t_after = pt ∙ sym (after-accepted refusal (moved order zero_float b.pos_t) b.pos_t z);
        list_lengths_after = pl ∙ sym (after-accepted refusal (moved order 0 b.list_lengths) b.list_lengths z);
        neighbor_numbers_after = pn ∙ sym (after-accepted refusal (moved_lists order b.list_lengths b.neighbor_numbers) b.neighbor_numbers z);
        scratch_after = ps ∙ ap (λ (n : ℕ). over (take (sum_to n b.list_lengths) b.neighbor_numbers) b.scratch) many
            ∙ sym (after-accepted refusal (take (sum_to v b.list_lengths) b.neighbor_numbers) b.scratch z);
      }
