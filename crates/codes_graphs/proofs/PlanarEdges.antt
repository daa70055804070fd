-- The edges of kinds 1 to 4, known by layer, row and place. Assumes nothing.
use mathlib.Core.Path.{◌≡◌, refl, sym, ap, ◌∙◌}
use mathlib.Core.Bool.{Bool, true, false, cond, ◌&&◌}
use mathlib.Core.Logic.{◌⊎◌, inl, inr}
use mathlib.Core.List.{List, [], ◌∷◌, ◌++◌}
use Prim.Native.Nat.{ℕ, ◌+◌, ◌-◌, ◌*◌, ◌/◌, ◌%◌, ◌≤◌, ◌<◌}
use native.Mathlib.Nat.{le_refl, mul_assoc, add-mul, mul-le-mul_right}
use native.Mathlib.Omega.{arith}
use lib.Arith.{digits_mod}
use lib.Dec.{eqb, ltb}
use borrow.Author.Tests.{eq-eqb, ne_eqb, lt-ltb, le-ltb, ltb-true}
use Rattle.columns.specs.Lists.{each, joined, when}
use Rattle.columns.proofs.Counting.{times_next}
use Rattle.columns.proofs.Tests.{and_both}
use Rattle.codes_writers.specs.Edges.{Ends, straight_edges, straight_rows}
use Rattle.codes_writers.proofs.Wrote.{row_room}
use Rattle.codes_planar.specs.Planar.{planar_size, row_edges, planar_row, planar_layer, planar_gap}
use Rattle.codes_circuit.specs.Circuit.{circuit_cell, circuit_row, circuit_gap}
use Rattle.codes_graphs.specs.Graphs.{planar_height}
use Rattle.codes_graphs.proofs.Parts.{Keyed, keyed-to, keyed-append, keyed-one, keyed-when, keyed-each, keyed-strides, keyed-joined}
use Rattle.codes_graphs.proofs.Known.{Known}

-- ---- heights

pub height_at : (d q j : ℕ) → j < d → planar_height d (q * (d + 1) + j) ≡ j + 1
unfolding planar_height
height_at d q j h = ap (λ (n : ℕ). n % (d + 1)) (omega arith) ∙ digits_mod q {m = d + 1} {r = j + 1} (omega arith)

pub height-left : (d q : ℕ) → planar_height d (q * (d + 1) + d) ≡ 0
unfolding planar_height
height-left d q = ap (λ (n : ℕ). n % (d + 1)) (omega (arith, times_next q (d + 1))) ∙ digits_mod (q + 1) {m = d + 1} {r = 0} (omega arith)

-- ---- keys: by layer, layer before gap, row, and the order within the row

-- keys of a row, and of a layer or a gap
abbrev row_keys : ℕ → ℕ
row_keys d = 4 * d + 4

abbrev pub planar_keys : ℕ → ℕ
planar_keys d = d * row_keys d

layer_key : (d i far : ℕ) → ℕ
layer_key d i far = cond (eqb far 1) i (cond (eqb far d) d (d + 1 + i))

gap_key : (d i far : ℕ) → ℕ
gap_key d i far = i * 4 + cond (eqb far (planar_size d)) 0 (cond (eqb far (1 + planar_size d)) 1 (cond (eqb far (d + 1 + planar_size d)) 2 3))

-- where a row's keys start
abbrev layer_start : (d t row : ℕ) → ℕ
layer_start d t row = t * (planar_keys d + planar_keys d) + row * row_keys d

abbrev gap_start : (d t row : ℕ) → ℕ
gap_start d t row = t * (planar_keys d + planar_keys d) + planar_keys d + row * row_keys d

pub planar_key : (d t row i far : ℕ) → ℕ
planar_key d t row i far = cond (ltb far (planar_size d)) (layer_start d t row + layer_key d i far) (gap_start d t row + gap_key d i far)

module _ (d : ℕ) (three : 3 ≤ d) where
  -- a layer has more vertices than a step within it spans
  big : d + 2 ≤ planar_size d
  big = omega (arith, mul-le-mul_right {m = 3} {n = d} (d + 1) three)

  key-along : (t row i : ℕ) → planar_key d t row i 1 ≡ layer_start d t row + i
  unfolding planar_key layer_key
  key-along t row i = simp (lt-ltb 1 (planar_size d) (omega (arith, big)))

  key_left : (t row : ℕ) → planar_key d t row 0 d ≡ layer_start d t row + d
  unfolding planar_key layer_key
  key_left t row = simp (lt-ltb d (planar_size d) (omega (arith, big)), ne_eqb d 1 (λ q. omega arith), eq-eqb d d refl)

  key-down : (t row i : ℕ) → planar_key d t row i (d + 1) ≡ layer_start d t row + (d + 1 + i)
  unfolding planar_key layer_key
  key-down t row i = simp (lt-ltb (d + 1) (planar_size d) (omega (arith, big)), ne_eqb (d + 1) 1 (λ q. omega arith), ne_eqb (d + 1) d (λ q. omega arith))

  key-straight : (t row i : ℕ) → planar_key d t row i (planar_size d) ≡ gap_start d t row + i * 4
  unfolding planar_key gap_key
  key-straight t row i = simp (le-ltb (planar_size d) (planar_size d) (le_refl _), eq-eqb (planar_size d) (planar_size d) refl) (omega arith)

  key-across : (t row i : ℕ) → planar_key d t row i (1 + planar_size d) ≡ gap_start d t row + i * 4 + 1
  unfolding planar_key gap_key
  key-across t row i = simp (le-ltb (1 + planar_size d) (planar_size d) (omega arith), ne_eqb (1 + planar_size d) (planar_size d) (λ q. omega arith), eq-eqb (1 + planar_size d) (1 + planar_size d) refl) (omega arith)

  key-deep : (t row i : ℕ) → planar_key d t row i (d + 1 + planar_size d) ≡ gap_start d t row + i * 4 + 2
  unfolding planar_key gap_key
  key-deep t row i = simp (le-ltb (d + 1 + planar_size d) (planar_size d) (omega arith), ne_eqb (d + 1 + planar_size d) (planar_size d) (λ q. omega arith), ne_eqb (d + 1 + planar_size d) (1 + planar_size d) (λ q. omega arith), eq-eqb (d + 1 + planar_size d) (d + 1 + planar_size d) refl) (omega arith)

  key-diagonal : (t row i : ℕ) → planar_key d t row i (d + 1 + 1 + planar_size d) ≡ gap_start d t row + i * 4 + 3
  unfolding planar_key gap_key
  key-diagonal t row i = simp (le-ltb (d + 1 + 1 + planar_size d) (planar_size d) (omega arith), ne_eqb (d + 1 + 1 + planar_size d) (planar_size d) (λ q. omega arith), ne_eqb (d + 1 + 1 + planar_size d) (1 + planar_size d) (λ q. omega arith), ne_eqb (d + 1 + 1 + planar_size d) (d + 1 + planar_size d) (λ q. omega arith)) (omega arith)

  module _ (n : ℕ) where
    abbrev pub PlanarEdge : ℕ → Ends → Type 0
    PlanarEdge = Known (d + 1) d (planar_key d) (planar_height d) n

    -- from an inner place to the same place, the next one, or from the first to the left one
    abbrev Near : (i j : ℕ) → Type 0
    Near i j = (j ≡ i) ⊎ ((j ≡ i + 1) ⊎ ((i ≡ 0) × (j ≡ d)))

    near-heights : (q r i j : ℕ) → i + 1 < d → Near i j
        → (planar_height d (q * (d + 1) + i) ≤ planar_height d (r * (d + 1) + j) + 1) × (planar_height d (r * (d + 1) + j) ≤ planar_height d (q * (d + 1) + i) + 1) × (j < d + 1)
    near-heights q r i j h (inl e) = rw e (omega (arith, height_at d q i (omega arith), height_at d r i (omega arith)))
    near-heights q r i j h (inr (inl e)) = rw e (omega (arith, height_at d q i (omega arith), height_at d r (i + 1) (omega arith)))
    near-heights q r i j h (inr (inr e)) = rw e.1 (omega (arith, e.0, height_at d q i (omega arith), height-left d r))

    place_is : (t row i : ℕ) → t * planar_size d + row * (d + 1) + i ≡ (t * d + row) * (d + 1) + i
    place_is t row i = omega (arith, mul_assoc t d (d + 1), add-mul (t * d) row (d + 1))

    make-within : (t row i far t' row' j k : ℕ) (e : Ends) → row < d → i + 1 < d → Near i j → e.0 ≡ t * planar_size d + row * (d + 1) + i
        → e.1 ≡ t' * planar_size d + row' * (d + 1) + j → e.1 ≡ e.0 + far → 1 ≤ far → e.1 < n → k ≡ planar_key d t row i far → PlanarEdge k e
    make-within t row i far t' row' j k e hr hi near a b c one within key =
        let p : e.0 ≡ (t * d + row) * (d + 1) + i = a ∙ place_is t row i in
        let q : e.1 ≡ (t' * d + row') * (d + 1) + j = b ∙ place_is t' row' j in
        let z = near-heights (t * d + row) (t' * d + row') i j hi near in
        record {
          t = t;
          row = row;
          i = i;
          far = far;
          row_in = hr;
          i_in = omega arith;
          from = p;
          to = c;
          forward = one;
          within = within;
          up = rw (p, q) z.0;
          down = rw (p, q) z.1;
          key_is = key;
        }

    make : (t row i far t' row' j k : ℕ) (e : Ends) → row < d → i + 1 < d → row' < d → Near i j → e.0 ≡ t * planar_size d + row * (d + 1) + i
        → e.1 ≡ t' * planar_size d + row' * (d + 1) + j → e.1 ≡ e.0 + far → 1 ≤ far → t' * planar_size d + planar_size d ≤ n → k ≡ planar_key d t row i far → PlanarEdge k e
    make t row i far t' row' j k e hr hi hr' near a b c one room key =
        make-within t row i far t' row' j k e hr hi near a b c one (omega (arith, row_room d (d + 1) hr', (near-heights 0 0 i j hi near).2)) key

    -- the edges along a row and the left most one
    pub row-known : (t row : ℕ) → row < d → t * planar_size d + row * (d + 1) + (d + 1) ≤ n
        → Keyed PlanarEdge (layer_start d t row) (layer_start d t row + (d + 1)) (row_edges d (t * planar_size d + row * (d + 1)))
    unfolding row_edges
    row-known t row hr room =
        keyed-append PlanarEdge (layer_start d t row) (layer_start d t row + d) (layer_start d t row + (d + 1)) (each (d - 1) (λ i. (bias + i, bias + i + 1))) ((bias, bias + d) ∷ [])
        (keyed-to PlanarEdge (layer_start d t row) (layer_start d t row + (d - 1)) (layer_start d t row + d) (each (d - 1) (λ i. (bias + i, bias + i + 1))) (omega arith)
        (keyed-each PlanarEdge (d - 1) (layer_start d t row) (λ i. (bias + i, bias + i + 1)) (λ i l.
        make-within t row i 1 t row (i + 1) (layer_start d t row + i) (bias + i, bias + i + 1) hr (omega arith) (inr (inl refl)) refl (omega arith) refl (omega arith) (omega arith) (sym (key-along t row i)))))
        (keyed-to PlanarEdge (layer_start d t row + d) (layer_start d t row + d + 1) (layer_start d t row + (d + 1)) ((bias, bias + d) ∷ []) (omega arith)
        (keyed-one PlanarEdge (layer_start d t row + d) (bias, bias + d)
        (make-within t row 0 d t row d (layer_start d t row + d) (bias, bias + d) hr (omega arith) (inr (inr (refl, refl))) (omega arith) refl refl (omega arith) (omega arith) (sym (key_left t row)))))
      where
        bias : ℕ
        bias = t * planar_size d + row * (d + 1)

    module _ (t row : ℕ) (hr : row < d) (room : t * planar_size d + planar_size d ≤ n) where
      abbrev bias : ℕ
      bias = t * planar_size d + row * (d + 1)

      -- a row, with the edges to the next one
      pub line_known : Keyed PlanarEdge (layer_start d t row) (layer_start d t row + row_keys d) (planar_row d (t * planar_size d) row)
      unfolding planar_row straight_edges
      line_known =
          keyed-append PlanarEdge (layer_start d t row) (layer_start d t row + (d + 1)) (layer_start d t row + row_keys d) (row_edges d bias) (cond (ltb (row + 1) d) (straight_edges (d - 1) bias (d + 1)) [])
          (row-known t row hr (omega (arith, row_room d (d + 1) hr))) (next (ltb (row + 1) d) refl)
        where
          next : (b : Bool) → ltb (row + 1) d ≡ b → Keyed PlanarEdge (layer_start d t row + (d + 1)) (layer_start d t row + row_keys d) (cond b (straight_edges (d - 1) bias (d + 1)) [])
          next true e =
              keyed-to PlanarEdge (layer_start d t row + (d + 1)) (layer_start d t row + (d + 1) + (d - 1)) (layer_start d t row + row_keys d) (each (d - 1) (λ i. (bias + i, bias + i + (d + 1)))) (omega arith)
              (keyed-each PlanarEdge (d - 1) (layer_start d t row + (d + 1)) (λ i. (bias + i, bias + i + (d + 1))) (λ i l.
              make t row i (d + 1) t (row + 1) i (layer_start d t row + (d + 1) + i) (bias + i, bias + i + (d + 1)) hr (omega arith) (ltb-true (row + 1) d e) (inl refl) refl
              (omega (arith, times_next row (d + 1))) refl (omega arith) room (omega (arith, key-down t row i))))
          next false e = omega arith

      module _ (more : (t + 1) * planar_size d + planar_size d ≤ n) where
        -- kind 3: straight to the next layer
        pub straight-known : Keyed PlanarEdge (gap_start d t row) (gap_start d t row + row_keys d) (straight_edges (d - 1) bias (planar_size d))
        unfolding straight_edges
        straight-known =
            keyed-to PlanarEdge (gap_start d t row) (gap_start d t row + (d - 1) * 4) (gap_start d t row + row_keys d) (each (d - 1) (λ i. (bias + i, bias + i + planar_size d))) (omega arith)
            (keyed-strides PlanarEdge (d - 1) (gap_start d t row) 4 (λ i. (bias + i, bias + i + planar_size d)) (omega arith) (λ i l. straight i (omega arith)))
          where
            straight : (i : ℕ) → i + 1 < d → PlanarEdge (gap_start d t row + i * 4) (bias + i, bias + i + planar_size d)
            straight i l = make t row i (planar_size d) (t + 1) row i (gap_start d t row + i * 4) (bias + i, bias + i + planar_size d) hr l hr (inl refl) refl
                (omega (arith, times_next t (planar_size d))) refl (omega (arith, big)) more (sym (key-straight t row i))

        -- kind 4: from place i
        cell-known : (i : ℕ) → i < d - 1 → Keyed PlanarEdge (gap_start d t row + i * 4) (gap_start d t row + i * 4 + 4) (circuit_cell d (planar_size d) bias row i)
        unfolding circuit_cell
        cell-known i l =
            keyed-append PlanarEdge k (k + 1) (k + 4) (one ∷ []) (two ++ (three' ++ four))
            (keyed-one PlanarEdge k one (make t row i (planar_size d) (t + 1) row i k one hr (omega arith) hr (inl refl) refl (omega (arith, times_next t (planar_size d))) refl (omega (arith, big)) more (sym (key-straight t row i))))
            (keyed-append PlanarEdge (k + 1) (k + 2) (k + 4) two (three' ++ four)
            (keyed-to PlanarEdge (k + 1) (k + 1 + 1) (k + 2) two (omega arith) (keyed-when PlanarEdge (ltb (i + 1) (d - 1)) (k + 1) _ (λ b.
            let in_row = ltb-true (i + 1) (d - 1) b in
            make t row i (1 + planar_size d) (t + 1) row (i + 1) (k + 1) (bias + i, bias + i + (1 + planar_size d)) hr (omega arith) hr (inr (inl refl)) refl (omega (arith, times_next t (planar_size d))) refl (omega arith) more (sym (key-across t row i)))))
            (keyed-append PlanarEdge (k + 2) (k + 3) (k + 4) three' four
            (keyed-to PlanarEdge (k + 2) (k + 2 + 1) (k + 3) three' (omega arith) (keyed-when PlanarEdge (ltb (row + 1) d) (k + 2) _ (λ b.
            make t row i (d + 1 + planar_size d) (t + 1) (row + 1) i (k + 2) (bias + i, bias + i + (d + 1 + planar_size d)) hr (omega arith) (ltb-true (row + 1) d b) (inl refl) refl (omega (arith, times_next t (planar_size d), times_next row (d + 1))) refl (omega arith) more (sym (key-deep t row i)))))
            (keyed-to PlanarEdge (k + 3) (k + 3 + 1) (k + 4) four (omega arith) (keyed-when PlanarEdge (ltb (row + 1) d && ltb (i + 1) (d - 1)) (k + 3) _ (λ b.
            let z = and_both (ltb (row + 1) d) (ltb (i + 1) (d - 1)) b in
            make t row i (d + 1 + 1 + planar_size d) (t + 1) (row + 1) (i + 1) (k + 3) (bias + i, bias + i + (d + 1 + 1 + planar_size d)) hr (omega arith) (ltb-true (row + 1) d z.0) (inr (inl refl)) refl (omega (arith, times_next t (planar_size d), times_next row (d + 1))) refl (omega arith) more (sym (key-diagonal t row i)))))))
          where
            k : ℕ
            k = gap_start d t row + i * 4

            one : Ends
            one = (bias + i, bias + i + planar_size d)

            two : List Ends
            two = when (ltb (i + 1) (d - 1)) (bias + i, bias + i + (1 + planar_size d))

            three' : List Ends
            three' = when (ltb (row + 1) d) (bias + i, bias + i + (d + 1 + planar_size d))

            four : List Ends
            four = when (ltb (row + 1) d && ltb (i + 1) (d - 1)) (bias + i, bias + i + (d + 1 + 1 + planar_size d))

        pub circuit-known : Keyed PlanarEdge (gap_start d t row) (gap_start d t row + row_keys d) (circuit_row d (planar_size d) (t * planar_size d) row)
        unfolding circuit_row
        circuit-known =
            keyed-to PlanarEdge (gap_start d t row) (gap_start d t row + (d - 1) * 4) (gap_start d t row + row_keys d) (joined (d - 1) (λ i. circuit_cell d (planar_size d) bias row i)) (omega arith)
            (keyed-joined PlanarEdge (d - 1) (gap_start d t row) 4 (λ i. circuit_cell d (planar_size d) bias row i) cell-known)

    -- layers and gaps
    module _ (t : ℕ) (room : t * planar_size d + planar_size d ≤ n) where
      pub layer-known : Keyed PlanarEdge (t * (planar_keys d + planar_keys d)) (t * (planar_keys d + planar_keys d) + planar_keys d) (planar_layer d (t * planar_size d))
      unfolding planar_layer
      layer-known = keyed-joined PlanarEdge d (t * (planar_keys d + planar_keys d)) (row_keys d) (λ row. planar_row d (t * planar_size d) row) (λ row h. line_known t row h room)

      module _ (more : (t + 1) * planar_size d + planar_size d ≤ n) where
        pub planar-gap-known : Keyed PlanarEdge (t * (planar_keys d + planar_keys d) + planar_keys d) (t * (planar_keys d + planar_keys d) + (planar_keys d + planar_keys d)) (planar_gap d (t * planar_size d))
        unfolding planar_gap straight_rows
        planar-gap-known =
            keyed-to PlanarEdge (t * (planar_keys d + planar_keys d) + planar_keys d) (t * (planar_keys d + planar_keys d) + planar_keys d + planar_keys d) (t * (planar_keys d + planar_keys d) + (planar_keys d + planar_keys d))
            (joined d (λ row. straight_edges (d - 1) (t * planar_size d + row * (d + 1)) (planar_size d))) (omega arith)
            (keyed-joined PlanarEdge d (t * (planar_keys d + planar_keys d) + planar_keys d) (row_keys d) (λ row. straight_edges (d - 1) (t * planar_size d + row * (d + 1)) (planar_size d)) (λ row h. straight-known t row h room more))

        pub circuit-gap-known : Keyed PlanarEdge (t * (planar_keys d + planar_keys d) + planar_keys d) (t * (planar_keys d + planar_keys d) + (planar_keys d + planar_keys d)) (circuit_gap d (t * planar_size d))
        unfolding circuit_gap
        circuit-gap-known =
            keyed-to PlanarEdge (t * (planar_keys d + planar_keys d) + planar_keys d) (t * (planar_keys d + planar_keys d) + planar_keys d + planar_keys d) (t * (planar_keys d + planar_keys d) + (planar_keys d + planar_keys d))
            (joined d (λ row. circuit_row d (planar_size d) (t * planar_size d) row)) (omega arith)
            (keyed-joined PlanarEdge d (t * (planar_keys d + planar_keys d) + planar_keys d) (row_keys d) (λ row. circuit_row d (planar_size d) (t * planar_size d) row) (λ row h. circuit-known t row h room more))
