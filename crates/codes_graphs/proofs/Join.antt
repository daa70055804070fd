-- Two blocks of one code in sequence are the block of the builder: a layer that starts x vertices later has the same edges, moved by x. Assumes nothing.
use mathlib.Core.Path.{◌≡◌, refl, sym, ap, ◌∙◌}
use mathlib.Core.Bool.{Bool, true, false, cond, ◌&&◌}
use mathlib.Core.List.{List, [], ◌∷◌, ◌++◌, map, map-append}
use Prim.Native.Nat.{ℕ, zero, suc, ◌+◌, ◌-◌, ◌*◌, ◌%◌, ◌≤◌, ◌<◌}
use native.Mathlib.Nat.{add-mul, add_assoc}
use native.Mathlib.Omega.{arith}
use lib.Dec.{eqb, leb, ltb}
use Rattle.columns.specs.Lists.{each, joined, layered, when}
use Rattle.columns.proofs.Counting.{each_same, joined_same, joined-plus, layered-join, map_each, map-joined, map-layered}
use Rattle.codes_writers.specs.Edges.{Ends, straight_edges, straight_rows}
use Rattle.codes_planar.specs.Planar.{planar_size, row_edges, planar_row, planar_layer, planar_gap}
use Rattle.codes_circuit.specs.Circuit.{circuit_cell, circuit_row, circuit_gap}
use Rattle.codes_rotated.specs.Rotated.{rotated_width, rotated_size, rotated_edge, rotated_row, rotated_layer, rotated_gap}
use Rattle.codes_layers.specs.Codes.{layer_size, layer_edges, gap_edges, edges_of, layer_vertices, vertices_of}

-- an edge moved by x vertices
abbrev pub moved : ℕ → Ends → Ends
moved x e = (x + e.0, x + e.1)

pair : (a b c e : ℕ) → a ≡ c → b ≡ e → ◌≡◌ {A = Ends} (a, b) (c, e)
pair a b c e p q = λ k. (p k, q k)

module _ (x : ℕ) where
  each-moved : (n : ℕ) (f g : ℕ → Ends) → ((i : ℕ) → g i ≡ moved x (f i)) → each n g ≡ map (moved x) (each n f)
  each-moved n f g h = each_same n g (λ i. moved x (f i)) (λ i l. h i) ∙ sym (map_each (moved x) n f)

  joined-moved : (n : ℕ) (f g : ℕ → List Ends) → ((i : ℕ) → g i ≡ map (moved x) (f i)) → joined n g ≡ map (moved x) (joined n f)
  joined-moved n f g h = joined_same n g (λ i. map (moved x) (f i)) (λ i l. h i) ∙ sym (map-joined (moved x) n f)

  append-moved : (p q p' q' : List Ends) → p' ≡ map (moved x) p → q' ≡ map (moved x) q → p' ++ q' ≡ map (moved x) (p ++ q)
  append-moved p q p' q' h k = (λ i. h i ++ k i) ∙ sym (map-append (moved x) p q)

  cond-moved : (b : Bool) (p q p' q' : List Ends) → p' ≡ map (moved x) p → q' ≡ map (moved x) q → cond b p' q' ≡ map (moved x) (cond b p q)
  cond-moved true p q p' q' h k = h
  cond-moved false p q p' q' h k = k

  when-moved : (b : Bool) (e e' : Ends) → e' ≡ moved x e → when b e' ≡ map (moved x) (when b e)
  when-moved true e e' h = λ i. h i ∷ []
  when-moved false e e' h = refl

  straight-moved : (n b far : ℕ) → straight_edges n (x + b) far ≡ map (moved x) (straight_edges n b far)
  unfolding straight_edges
  straight-moved n b far = each-moved n (λ i. (b + i, b + i + far)) (λ i. (x + b + i, x + b + i + far)) (λ i. pair _ _ _ _ (omega arith) (omega arith))

  rows-moved : (rows n w b far : ℕ) → straight_rows rows n w (x + b) far ≡ map (moved x) (straight_rows rows n w b far)
  unfolding straight_rows
  rows-moved rows n w b far = joined-moved rows (λ row. straight_edges n (b + row * w) far) (λ row. straight_edges n (x + b + row * w) far)
      (λ row. ap (λ (m : ℕ). straight_edges n m far) (add_assoc x b (row * w)) ∙ straight-moved n (b + row * w) far)

  row_moved : (d b : ℕ) → row_edges d (x + b) ≡ map (moved x) (row_edges d b)
  unfolding row_edges
  row_moved d b = append-moved (each (d - 1) (λ i. (b + i, b + i + 1))) ((b, b + d) ∷ []) (each (d - 1) (λ i. (x + b + i, x + b + i + 1))) ((x + b, x + b + d) ∷ [])
      (each-moved (d - 1) (λ i. (b + i, b + i + 1)) (λ i. (x + b + i, x + b + i + 1)) (λ i. pair _ _ _ _ (omega arith) (omega arith)))
      (λ k. pair (x + b) (x + b + d) (x + b) (x + (b + d)) refl (omega arith) k ∷ [])

  planar-layer-moved : (d b : ℕ) → planar_layer d (x + b) ≡ map (moved x) (planar_layer d b)
  unfolding planar_layer planar_row
  planar-layer-moved d b = joined-moved d (λ row. planar_row d b row) (λ row. planar_row d (x + b) row) (λ row.
      append-moved (row_edges d (b + row * (d + 1))) (cond (ltb (row + 1) d) (straight_edges (d - 1) (b + row * (d + 1)) (d + 1)) []) (row_edges d (x + b + row * (d + 1))) (cond (ltb (row + 1) d) (straight_edges (d - 1) (x + b + row * (d + 1)) (d + 1)) [])
      (ap (row_edges d) (add_assoc x b (row * (d + 1))) ∙ row_moved d (b + row * (d + 1)))
      (cond-moved (ltb (row + 1) d) (straight_edges (d - 1) (b + row * (d + 1)) (d + 1)) [] (straight_edges (d - 1) (x + b + row * (d + 1)) (d + 1)) []
      (ap (λ (m : ℕ). straight_edges (d - 1) m (d + 1)) (add_assoc x b (row * (d + 1))) ∙ straight-moved (d - 1) (b + row * (d + 1)) (d + 1)) refl))

  planar-gap-moved : (d b : ℕ) → planar_gap d (x + b) ≡ map (moved x) (planar_gap d b)
  unfolding planar_gap
  planar-gap-moved d b = rows-moved d (d - 1) (d + 1) b (planar_size d)

  cell-moved : (d size b row i : ℕ) → circuit_cell d size (x + b) row i ≡ map (moved x) (circuit_cell d size b row i)
  unfolding circuit_cell
  cell-moved d size b row i =
      append-moved (one b) (two b ++ (three b ++ four b)) (one (x + b)) (two (x + b) ++ (three (x + b) ++ four (x + b))) (λ k. to size k ∷ [])
      (append-moved (two b) (three b ++ four b) (two (x + b)) (three (x + b) ++ four (x + b)) (when-moved (ltb (i + 1) (d - 1)) (b + i, b + i + (1 + size)) (x + b + i, x + b + i + (1 + size)) (to (1 + size)))
      (append-moved (three b) (four b) (three (x + b)) (four (x + b)) (when-moved (ltb (row + 1) d) (b + i, b + i + (d + 1 + size)) (x + b + i, x + b + i + (d + 1 + size)) (to (d + 1 + size)))
      (when-moved (ltb (row + 1) d && ltb (i + 1) (d - 1)) (b + i, b + i + (d + 1 + 1 + size)) (x + b + i, x + b + i + (d + 1 + 1 + size)) (to (d + 1 + 1 + size)))))
    where
      one : ℕ → List Ends
      one y = (y + i, y + i + size) ∷ []

      two : ℕ → List Ends
      two y = when (ltb (i + 1) (d - 1)) (y + i, y + i + (1 + size))

      three : ℕ → List Ends
      three y = when (ltb (row + 1) d) (y + i, y + i + (d + 1 + size))

      four : ℕ → List Ends
      four y = when (ltb (row + 1) d && ltb (i + 1) (d - 1)) (y + i, y + i + (d + 1 + 1 + size))

      to : (far : ℕ) → ◌≡◌ {A = Ends} (x + b + i, x + b + i + far) (x + (b + i), x + (b + i + far))
      to far = pair (x + b + i) (x + b + i + far) (x + (b + i)) (x + (b + i + far)) (omega arith) (omega arith)

  circuit-gap-moved : (d b : ℕ) → circuit_gap d (x + b) ≡ map (moved x) (circuit_gap d b)
  unfolding circuit_gap circuit_row
  circuit-gap-moved d b = joined-moved d (λ row. circuit_row d (d * (d + 1)) b row) (λ row. circuit_row d (d * (d + 1)) (x + b) row) (λ row.
      joined-moved (d - 1) (λ i. circuit_cell d (d * (d + 1)) (b + row * (d + 1)) row i) (λ i. circuit_cell d (d * (d + 1)) (x + b + row * (d + 1)) row i) (λ i.
      ap (λ (m : ℕ). circuit_cell d (d * (d + 1)) m row i) (add_assoc x b (row * (d + 1))) ∙ cell-moved d (d * (d + 1)) (b + row * (d + 1)) row i))

  rotated-layer-moved : (d b : ℕ) → rotated_layer d (x + b) ≡ map (moved x) (rotated_layer d b)
  unfolding rotated_layer rotated_row rotated_edge
  rotated-layer-moved d b = joined-moved d (λ row. rotated_row d b row) (λ row. rotated_row d (x + b) row) (λ row.
      each-moved d (λ i. rotated_edge (rotated_width d) (b + row * rotated_width d) row i) (λ i. rotated_edge (rotated_width d) (x + b + row * rotated_width d) row i) (λ i.
      pair _ _ _ _ (omega arith) (omega arith)))

  rotated-gap-moved : (d b : ℕ) → rotated_gap d (x + b) ≡ map (moved x) (rotated_gap d b)
  unfolding rotated_gap
  rotated-gap-moved d b = rows-moved (d + 1) (rotated_width d) (rotated_width d) b (rotated_size d)

  pub layer-moved : (kind d b : ℕ) → layer_edges kind d (x + b) ≡ map (moved x) (layer_edges kind d b)
  unfolding layer_edges
  layer-moved kind d b = cond-moved (eqb kind 1) (row_edges d b) (cond (leb kind 4) (planar_layer d b) (rotated_layer d b)) (row_edges d (x + b)) (cond (leb kind 4) (planar_layer d (x + b)) (rotated_layer d (x + b))) (row_moved d b)
      (cond-moved (leb kind 4) (planar_layer d b) (rotated_layer d b) (planar_layer d (x + b)) (rotated_layer d (x + b)) (planar-layer-moved d b) (rotated-layer-moved d b))

  pub gap-moved : (kind d b : ℕ) → gap_edges kind d (x + b) ≡ map (moved x) (gap_edges kind d b)
  unfolding gap_edges
  gap-moved kind d b =
      cond-moved (eqb kind 3) (planar_gap d b) (cond (eqb kind 4) (circuit_gap d b) (cond (eqb kind 6) (rotated_gap d b) [])) (planar_gap d (x + b)) (cond (eqb kind 4) (circuit_gap d (x + b)) (cond (eqb kind 6) (rotated_gap d (x + b)) [])) (planar-gap-moved d b)
      (cond-moved (eqb kind 4) (circuit_gap d b) (cond (eqb kind 6) (rotated_gap d b) []) (circuit_gap d (x + b)) (cond (eqb kind 6) (rotated_gap d (x + b)) []) (circuit-gap-moved d b)
      (cond-moved (eqb kind 6) (rotated_gap d b) [] (rotated_gap d (x + b)) [] (rotated-gap-moved d b) refl))

-- the block of r rounds, the gap, and the block of s rounds moved by r + 1 layers, are the block of r + 1 + s rounds: edges and vertices
pub edges-joined : (kind d r s : ℕ)
    → edges_of kind d r ++ (gap_edges kind d (r * layer_size kind d) ++ map (moved ((r + 1) * layer_size kind d)) (edges_of kind d s)) ≡ edges_of kind d (r + 1 + s)
unfolding edges_of
edges-joined kind d r s =
    ap (λ (l : List Ends). layered r layer gap ++ (gap r ++ l)) (map-layered (moved x) s layer gap ∙ λ i. layered s (λ t. later t i) (λ t. later-gap t i))
    ∙ layered-join r s layer gap
  where
    size : ℕ
    size = layer_size kind d

    x : ℕ
    x = (r + 1) * layer_size kind d

    layer : ℕ → List Ends
    layer t = layer_edges kind d (t * layer_size kind d)

    gap : ℕ → List Ends
    gap t = gap_edges kind d (t * layer_size kind d)

    later : (t : ℕ) → map (moved x) (layer t) ≡ layer (r + 1 + t)
    later t = sym (layer-moved x kind d (t * layer_size kind d)) ∙ ap (layer_edges kind d) (sym (add-mul (r + 1) t (layer_size kind d)))

    later-gap : (t : ℕ) → map (moved x) (gap t) ≡ gap (r + 1 + t)
    later-gap t = sym (gap-moved x kind d (t * layer_size kind d)) ∙ ap (gap_edges kind d) (sym (add-mul (r + 1) t (layer_size kind d)))

pub vertices-joined : (kind d r s : ℕ) → vertices_of kind d r ++ joined (s + 1) (λ t. layer_vertices kind d (r + 1 + t)) ≡ vertices_of kind d (r + 1 + s)
unfolding vertices_of
vertices-joined kind d r s =
    sym (joined-plus (r + 1) (s + 1) (λ t. layer_vertices kind d t)) ∙ ap (λ (n : ℕ). joined n (λ t. layer_vertices kind d t)) (omega arith)
