-- The edges of kinds 5 and 6, known by layer, row and place. Assumes nothing.
use mathlib.Core.Path.{◌≡◌, refl, sym, ap, ◌∙◌}
use mathlib.Core.Bool.{true, false, cond}
use Prim.Native.Nat.{ℕ, ◌+◌, ◌-◌, ◌*◌, ◌/◌, ◌%◌, ◌≤◌, ◌<◌}
use native.Mathlib.Nat.{mul_assoc, mul_comm, mul_left_comm, add-mul, mul-le-mul_right}
use native.Mathlib.Decide.{ℕ_discrete}
use native.Mathlib.Omega.{arith}
use lib.Arith.{digits_mod}
use lib.Dec.{ltb}
use borrow.Author.Tests.{eq-eqb, ne_eqb, lt-ltb, le-ltb}
use Rattle.columns.specs.Lists.{each, joined}
use Rattle.columns.proofs.Counting.{times_next}
use Rattle.codes_writers.specs.Edges.{Ends, straight_edges, straight_rows}
use Rattle.codes_writers.proofs.Wrote.{row_room}
use Rattle.codes_rotated.specs.Rotated.{rotated_width, rotated_size, rotated_place, rotated_edge, rotated_row, rotated_layer, rotated_gap}
use Rattle.codes_graphs.specs.Graphs.{rotated_height}
use Rattle.codes_graphs.proofs.Parts.{Keyed, keyed-to, keyed-each, keyed-joined}
use Rattle.codes_graphs.proofs.Known.{Known}

-- ---- places: the end in the even row and the end in the odd row

pub places : (i : ℕ) → (rotated_place true i ≡ i / 2) × (rotated_place false i ≡ (i + 1) / 2)
unfolding rotated_place
places i = elim (ℕ_discrete (i % 2) 0) [
  | yes e ↦ (simp (eq-eqb _ _ e), simp (eq-eqb _ _ e) (omega arith))
  | no e ↦ (simp (ne_eqb _ _ e) (omega arith), simp (ne_eqb _ _ e))
]

-- an edge below an even row, and below an odd row
pub edge_even : (w bias row i : ℕ) → row % 2 ≡ 0 → rotated_edge w bias row i ≡ (bias + i / 2, bias + w + (i + 1) / 2)
unfolding rotated_edge
edge_even w bias row i e =
    simp (eq-eqb _ _ e, ne_eqb (row % 2) 1 (λ q. omega arith)) (λ k. (bias + (places i).0 k, bias + w + (places i).1 k))

pub edge_odd : (w bias row i : ℕ) → (row % 2 ≡ 0 → ⊥) → rotated_edge w bias row i ≡ (bias + (i + 1) / 2, bias + w + i / 2)
unfolding rotated_edge
edge_odd w bias row i f =
    simp (ne_eqb _ _ f, eq-eqb (row % 2) 1 (omega arith)) (λ k. (bias + (places i).1 k, bias + w + (places i).0 k))

-- ---- heights: twice the place, and 1 more in an even row

module _ (d : ℕ) (odd : d % 2 ≡ 1) where
  abbrev w : ℕ
  w = rotated_width d

  twice : d + 1 ≡ w + w
  twice = omega arith

  pub height-even : (q p : ℕ) → q % 2 ≡ 0 → p < w → rotated_height d (q * w + p) ≡ 2 * p + 1
  unfolding rotated_height
  height-even q p e h =
      let split : q * w + p ≡ q / 2 * (d + 1) + p = omega (arith, ap (λ (n : ℕ). n * w) (halves q e), mul_assoc (q / 2) 2 w, ap (λ (n : ℕ). q / 2 * n) twice') in
      let m : (q * w + p) % (d + 1) ≡ p = ap (λ (n : ℕ). n % (d + 1)) split ∙ digits_mod (q / 2) {m = d + 1} {r = p} (omega arith) in
      ap (λ (n : ℕ). (2 * n + 1) % (d + 2)) m ∙ native.Mathlib.Nat.mod-eq_of_lt {n = 2 * p + 1} {m = d + 2} (omega arith)
    where
      halves : (q : ℕ) → q % 2 ≡ 0 → q ≡ q / 2 * 2
      halves q e = omega arith

      twice' : 2 * w ≡ d + 1
      twice' = omega arith

  pub height-odd : (q p : ℕ) → (q % 2 ≡ 0 → ⊥) → p < w → rotated_height d (q * w + p) ≡ 2 * p
  unfolding rotated_height
  height-odd q p f h =
      let split : q * w + p ≡ q / 2 * (d + 1) + (w + p) = omega (arith, ap (λ (n : ℕ). n * w) (halves q f), add-mul (q / 2 * 2) 1 w, mul_assoc (q / 2) 2 w, ap (λ (n : ℕ). q / 2 * n) twice') in
      let m : (q * w + p) % (d + 1) ≡ w + p = ap (λ (n : ℕ). n % (d + 1)) split ∙ digits_mod (q / 2) {m = d + 1} {r = w + p} (omega arith) in
      ap (λ (n : ℕ). (2 * n + 1) % (d + 2)) m
      ∙ ap (λ (n : ℕ). n % (d + 2)) over ∙ digits_mod 1 {m = d + 2} {r = 2 * p} (omega arith)
    where
      halves : (q : ℕ) → (q % 2 ≡ 0 → ⊥) → q ≡ q / 2 * 2 + 1
      halves q f = elim (ℕ_discrete (q % 2) 0) [ yes e ↦ absurd (f e) | no e ↦ omega arith ]

      twice' : 2 * w ≡ d + 1
      twice' = omega arith

      over : 2 * (w + p) + 1 ≡ 1 * (d + 2) + 2 * p
      over = omega arith

-- ---- keys

abbrev row_keys : ℕ → ℕ
row_keys d = 2 * rotated_width d

abbrev pub rotated_keys : ℕ → ℕ
rotated_keys d = (d + 1) * row_keys d

abbrev layer_start : (d t row : ℕ) → ℕ
layer_start d t row = t * (rotated_keys d + rotated_keys d) + row * row_keys d

abbrev gap_start : (d t row : ℕ) → ℕ
gap_start d t row = t * (rotated_keys d + rotated_keys d) + rotated_keys d + row * row_keys d

pub rotated_key : (d t row i far : ℕ) → ℕ
rotated_key d t row i far = cond (ltb far (row_keys d)) (layer_start d t row + (2 * i + far - rotated_width d)) (gap_start d t row + i)

module _ (d : ℕ) (odd : d % 2 ≡ 1) (three : 3 ≤ d) (n : ℕ) where
  abbrev pub RotatedEdge : ℕ → Ends → Type 0
  RotatedEdge = Known (rotated_width d) (d + 1) (rotated_key d) (rotated_height d) n

  place_is : (t row i : ℕ) → t * rotated_size d + row * rotated_width d + i ≡ (t * (d + 1) + row) * rotated_width d + i
  place_is t row i = omega (arith, ap (λ (m : ℕ). t * m) (mul_comm (rotated_width d) (d + 1)), mul_assoc t (d + 1) (rotated_width d), add-mul (t * (d + 1)) row (rotated_width d))

  -- a layer starts at an even row
  parity : (t row : ℕ) → (t * (d + 1) + row) % 2 ≡ row % 2
  parity t row =
      let q : d + 1 ≡ 2 * rotated_width d = omega arith in
      omega (arith, ap (λ (m : ℕ). t * m) q, mul_left_comm t 2 (rotated_width d))

  module _ (t row : ℕ) (room : t * rotated_size d + rotated_size d ≤ n) where
    abbrev bias : ℕ
    bias = t * rotated_size d + row * rotated_width d

    size_is : rotated_size d ≡ (d + 1) * rotated_width d
    size_is = mul_comm (rotated_width d) (d + 1)

    -- an edge between two rows, at place p above and q below
    make : (i p q : ℕ) (e : Ends) → row < d → p < rotated_width d → q < rotated_width d → p + q ≡ i → e ≡ (bias + p, bias + rotated_width d + q)
        → (rotated_height d ((t * (d + 1) + row) * rotated_width d + p) ≤ rotated_height d ((t * (d + 1) + (row + 1)) * rotated_width d + q) + 1)
        → (rotated_height d ((t * (d + 1) + (row + 1)) * rotated_width d + q) ≤ rotated_height d ((t * (d + 1) + row) * rotated_width d + p) + 1) → RotatedEdge (layer_start d t row + i) e
    unfolding rotated_key
    make i p q e hr hp hq sum is up down =
        let a : e.0 ≡ (t * (d + 1) + row) * rotated_width d + p = ap (λ (x : Ends). x.0) is ∙ place_is t row p in
        let b : e.1 ≡ (t * (d + 1) + (row + 1)) * rotated_width d + q = ap (λ (x : Ends). x.1) is ∙ omega (arith, place_is t (row + 1) q, times_next row (rotated_width d)) in
        let far : e.1 ≡ e.0 + (rotated_width d + q - p) = omega (arith, ap (λ (x : Ends). x.0) is, ap (λ (x : Ends). x.1) is) in
        record {
          t = t;
          row = row;
          i = p;
          far = rotated_width d + q - p;
          row_in = omega arith;
          i_in = hp;
          from = a;
          to = far;
          forward = omega arith;
          within = omega (arith, ap (λ (x : Ends). x.1) is, times_next row (rotated_width d), row_room (d + 1) (rotated_width d) {row = row + 1} (omega arith), size_is);
          up = rw (a, b) up;
          down = rw (a, b) down;
          key_is = simp (lt-ltb (rotated_width d + q - p) (row_keys d) (omega arith)) (omega arith);
        }

    edge-known : (i : ℕ) → row < d → i < d → RotatedEdge (layer_start d t row + i) (rotated_edge (rotated_width d) bias row i)
    edge-known i hr hi = elim (ℕ_discrete (row % 2) 0) [
      | yes e ↦
          let above = height-even d odd (t * (d + 1) + row) (i / 2) (omega (arith, parity t row)) (omega arith) in
          let below = height-odd d odd (t * (d + 1) + (row + 1)) ((i + 1) / 2) (λ q. omega (arith, parity t (row + 1))) (omega arith) in
          make i (i / 2) ((i + 1) / 2) (rotated_edge (rotated_width d) bias row i) hr (omega arith) (omega arith) (omega arith) (edge_even (rotated_width d) bias row i e) (omega arith) (omega arith)
      | no e ↦
          let above = height-odd d odd (t * (d + 1) + row) ((i + 1) / 2) (λ q. e (omega (arith, parity t row))) (omega arith) in
          let below = height-even d odd (t * (d + 1) + (row + 1)) (i / 2) (omega (arith, parity t (row + 1))) (omega arith) in
          make i ((i + 1) / 2) (i / 2) (rotated_edge (rotated_width d) bias row i) hr (omega arith) (omega arith) (omega arith) (edge_odd (rotated_width d) bias row i e) (omega arith) (omega arith)
    ]

    pub row-known : row < d → Keyed RotatedEdge (layer_start d t row) (layer_start d t row + row_keys d) (rotated_row d (t * rotated_size d) row)
    unfolding rotated_row
    row-known hr =
        keyed-to RotatedEdge (layer_start d t row) (layer_start d t row + d) (layer_start d t row + row_keys d) (each d (λ i. rotated_edge (rotated_width d) bias row i)) (omega arith)
        (keyed-each RotatedEdge d (layer_start d t row) (λ i. rotated_edge (rotated_width d) bias row i) (λ i l. edge-known i hr l))

    -- straight to the next layer
    module _ (more : (t + 1) * rotated_size d + rotated_size d ≤ n) where
      long : 2 * rotated_width d ≤ rotated_size d
      long = omega (arith, size_is, mul-le-mul_right {m = 2} {n = d + 1} (rotated_width d) (omega arith))

      same-height : (i : ℕ) → i < rotated_width d → rotated_height d ((t * (d + 1) + row) * rotated_width d + i) ≡ rotated_height d (((t + 1) * (d + 1) + row) * rotated_width d + i)
      same-height i h = elim (ℕ_discrete (row % 2) 0) [
        | yes e ↦ height-even d odd (t * (d + 1) + row) i (omega (arith, parity t row)) h ∙ sym (height-even d odd ((t + 1) * (d + 1) + row) i (omega (arith, parity (t + 1) row)) h)
        | no e ↦ height-odd d odd (t * (d + 1) + row) i (λ q. e (omega (arith, parity t row))) h ∙ sym (height-odd d odd ((t + 1) * (d + 1) + row) i (λ q. e (omega (arith, parity (t + 1) row))) h)
      ]

      straight : (i : ℕ) → row < d + 1 → i < rotated_width d → RotatedEdge (gap_start d t row + i) (bias + i, bias + i + rotated_size d)
      unfolding rotated_key
      straight i hr hi =
          let a : bias + i ≡ (t * (d + 1) + row) * rotated_width d + i = place_is t row i in
          let b : bias + i + rotated_size d ≡ ((t + 1) * (d + 1) + row) * rotated_width d + i = omega (arith, place_is (t + 1) row i, times_next t (rotated_size d)) in
          record {
            t = t;
            row = row;
            i = i;
            far = rotated_size d;
            row_in = hr;
            i_in = hi;
            from = a;
            to = refl;
            forward = omega (arith, long);
            within = omega (arith, times_next t (rotated_size d), row_room (d + 1) (rotated_width d) hr, size_is);
            up = omega (arith, ap (rotated_height d) a, ap (rotated_height d) b, same-height i hi);
            down = omega (arith, ap (rotated_height d) a, ap (rotated_height d) b, same-height i hi);
            key_is = simp (le-ltb (rotated_size d) (row_keys d) long);
          }

      pub straight-known : row < d + 1 → Keyed RotatedEdge (gap_start d t row) (gap_start d t row + row_keys d) (straight_edges (rotated_width d) bias (rotated_size d))
      unfolding straight_edges
      straight-known hr =
          keyed-to RotatedEdge (gap_start d t row) (gap_start d t row + rotated_width d) (gap_start d t row + row_keys d) (each (rotated_width d) (λ i. (bias + i, bias + i + rotated_size d))) (omega arith)
          (keyed-each RotatedEdge (rotated_width d) (gap_start d t row) (λ i. (bias + i, bias + i + rotated_size d)) (λ i l. straight i hr l))

  module _ (t : ℕ) (room : t * rotated_size d + rotated_size d ≤ n) where
    pub layer-known : Keyed RotatedEdge (t * (rotated_keys d + rotated_keys d)) (t * (rotated_keys d + rotated_keys d) + rotated_keys d) (rotated_layer d (t * rotated_size d))
    unfolding rotated_layer
    layer-known =
        keyed-to RotatedEdge (t * (rotated_keys d + rotated_keys d)) (t * (rotated_keys d + rotated_keys d) + d * row_keys d) (t * (rotated_keys d + rotated_keys d) + rotated_keys d) (joined d (λ row. rotated_row d (t * rotated_size d) row))
        (omega (arith, times_next d (row_keys d)))
        (keyed-joined RotatedEdge d (t * (rotated_keys d + rotated_keys d)) (row_keys d) (λ row. rotated_row d (t * rotated_size d) row) (λ row h. row-known t row room h))

    pub gap-known : (t + 1) * rotated_size d + rotated_size d ≤ n
        → Keyed RotatedEdge (t * (rotated_keys d + rotated_keys d) + rotated_keys d) (t * (rotated_keys d + rotated_keys d) + (rotated_keys d + rotated_keys d)) (rotated_gap d (t * rotated_size d))
    unfolding rotated_gap straight_rows
    gap-known more =
        keyed-to RotatedEdge (t * (rotated_keys d + rotated_keys d) + rotated_keys d) (t * (rotated_keys d + rotated_keys d) + rotated_keys d + rotated_keys d) (t * (rotated_keys d + rotated_keys d) + (rotated_keys d + rotated_keys d))
        (joined (d + 1) (λ row. straight_edges (rotated_width d) (t * rotated_size d + row * rotated_width d) (rotated_size d))) (omega arith)
        (keyed-joined RotatedEdge (d + 1) (t * (rotated_keys d + rotated_keys d) + rotated_keys d) (row_keys d) (λ row. straight_edges (rotated_width d) (t * rotated_size d + row * rotated_width d) (rotated_size d)) (λ row h. straight-known t row room more h))
