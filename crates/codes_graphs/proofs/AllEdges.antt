-- The edges of every accepted code: first end smaller, in range, no pair joined twice, ends of heights at most 1 apart. Assumes nothing.
use mathlib.Core.Path.{◌≡◌, sym, ap, ◌∙◌, subst}
use mathlib.Core.Logic.{inl, inr}
use mathlib.Core.List.{List}
use Prim.Native.Nat.{ℕ, ◌+◌, ◌-◌, ◌*◌, ◌%◌, ◌≤◌, ◌<◌}
use native.Mathlib.Nat.{zero-mul, mul_comm}
use native.Mathlib.Decide.{ℕ_discrete, dec_le}
use native.Mathlib.Omega.{arith}
use lib.ListN.{length, get_or}
use borrow.Author.Tests.{le-leb, lt-leb}
use Rattle.columns.specs.Lists.{joined, layered}
use Rattle.codes_writers.specs.Edges.{Ends}
use Rattle.codes_writers.proofs.Wrote.{row_room}
use Rattle.codes_planar.specs.Planar.{planar_size, row_edges, planar_layer, planar_gap}
use Rattle.codes_circuit.specs.Circuit.{circuit_gap}
use Rattle.codes_rotated.specs.Rotated.{rotated_width, rotated_size, rotated_layer, rotated_gap}
use Rattle.codes_layers.specs.Codes.{layer_size, layer_edges, gap_edges, edges_of}
use Rattle.codes_layers.specs.Counts.{vertex_num}
use Rattle.codes_layers.proofs.ByKind.{one-row, planar-rows, rotated-rows, one-layer, planar-layers, rotated-layers, planar-gaps, circuit-gaps, rotated-gaps}
use Rattle.codes_layers.proofs.Counted.{layer-size}
use Rattle.codes_layers.proofs.Accepted.{Accepted, Layered}
use Rattle.codes_graphs.specs.Graphs.{height, planar_height, rotated_height}
use Rattle.codes_graphs.proofs.Parts.{Keyed, keyed-layered}
use Rattle.codes_graphs.proofs.Known.{Known, known_at, apart}
use Rattle.codes_graphs.proofs.PlanarEdges.{PlanarEdge, planar_key, planar_keys, row-known, layer-known, planar-gap-known, circuit-gap-known}
use Rattle.codes_graphs.proofs.RotatedEdges as rotated

pub record EdgeFacts (h : ℕ → ℕ) (n : ℕ) (es : List Ends) : Type 0 where
  pub rising : (k : ℕ) → k < length es → (get_or es k (0, 0)).0 < (get_or es k (0, 0)).1
  pub within : (k : ℕ) → k < length es → (get_or es k (0, 0)).1 < n
  pub up : (k : ℕ) → k < length es → h (get_or es k (0, 0)).0 ≤ h (get_or es k (0, 0)).1 + 1
  pub down : (k : ℕ) → k < length es → h (get_or es k (0, 0)).1 ≤ h (get_or es k (0, 0)).0 + 1
  pub no_two : (j k : ℕ) → j < k → k < length es → get_or es j (0, 0) ≡ get_or es k (0, 0) → ⊥

facts : (w rows : ℕ) (key : (t row i far : ℕ) → ℕ) (h : ℕ → ℕ) (n lo hi : ℕ) (es : List Ends) → Keyed (Known w rows key h n) lo hi es → EdgeFacts h n es
facts w rows key h n lo hi es all = record {
  rising = λ k l. let z = known_at w rows key h n lo hi es all k l in omega (arith, z.1.to, z.1.forward);
  within = λ k l. (known_at w rows key h n lo hi es all k l).1.within;
  up = λ k l. (known_at w rows key h n lo hi es all k l).1.up;
  down = λ k l. (known_at w rows key h n lo hi es all k l).1.down;
  no_two = apart w rows key h n lo hi es all;
}

-- the height by kind
pub planar_height_lem : (kind d : ℕ) → kind ≤ 4 → (v : ℕ) → height kind d v ≡ planar_height d v
unfolding height
planar_height_lem kind d h v = simp (le-leb kind 4 h)

pub rotated_height_lem : (kind d : ℕ) → 4 < kind → (v : ℕ) → height kind d v ≡ rotated_height d v
unfolding height
rotated_height_lem kind d h v = simp (lt-leb kind 4 h)

same_facts : (h g : ℕ → ℕ) (n : ℕ) (es : List Ends) → ((v : ℕ) → h v ≡ g v) → EdgeFacts g n es → EdgeFacts h n es
same_facts h g n es e f = record {
  rising = f.rising;
  within = f.within;
  up = λ k l. omega (arith, f.up k l, e (get_or es k (0, 0)).0, e (get_or es k (0, 0)).1);
  down = λ k l. omega (arith, f.down k l, e (get_or es k (0, 0)).0, e (get_or es k (0, 0)).1);
  no_two = f.no_two;
}

module _ (kind d rounds : ℕ) (ok : Accepted kind d rounds) where
  three : 3 ≤ d
  three = ok.distance.three

  -- the vertices are rounds + 1 layers
  pub vertices_are : vertex_num kind d rounds ≡ (rounds + 1) * layer_size kind d
  vertices_are = ap (λ (m : ℕ). (rounds + 1) * m) (layer-size kind d three)

  one-kind : kind ≡ 1 → EdgeFacts (planar_height d) (vertex_num kind d rounds) (edges_of kind d rounds)
  unfolding edges_of layered joined
  one-kind e =
      let none : rounds ≡ 0 = flat ok.layers in
      let size : vertex_num kind d rounds ≡ d + 1 = vertices_are ∙ omega (arith, ap (λ (m : ℕ). (m + 1) * layer_size kind d) none, one-row kind d e) in
      let list : edges_of kind d rounds ≡ row_edges d (0 * planar_size d + 0 * (d + 1)) =
      ap (λ (m : ℕ). edges_of kind d m) none ∙ one-layer kind d (0 * layer_size kind d) e ∙ ap (row_edges d) (omega (arith, zero-mul (layer_size kind d), zero-mul (planar_size d), zero-mul (d + 1))) in
      subst (λ (es : List Ends). EdgeFacts (planar_height d) (vertex_num kind d rounds) es) (sym list)
      (facts (d + 1) d (planar_key d) (planar_height d) (vertex_num kind d rounds) _ _ (row_edges d (0 * planar_size d + 0 * (d + 1)))
      (row-known d three (vertex_num kind d rounds) 0 0 (omega arith) (omega (arith, size, zero-mul (planar_size d), zero-mul (d + 1)))))
    where
      flat : Layered kind rounds → rounds ≡ 0
      flat (inl q) = q
      flat (inr (inl q)) = absurd (omega arith)
      flat (inr (inr (inl q))) = absurd (omega arith)
      flat (inr (inr (inr q))) = absurd (omega arith)

  planar-kinds : (kind ≡ 1 → ⊥) → kind ≤ 4 → EdgeFacts (planar_height d) (vertex_num kind d rounds) (edges_of kind d rounds)
  unfolding edges_of
  planar-kinds f h =
      facts (d + 1) d (planar_key d) (planar_height d) n _ _ (edges_of kind d rounds)
      (keyed-layered P rounds (planar_keys d) (λ t. layer_edges kind d (t * layer_size kind d)) (λ t. gap_edges kind d (t * layer_size kind d))
      (λ t l. subst (λ (es : List Ends). Keyed P (t * (planar_keys d + planar_keys d)) (t * (planar_keys d + planar_keys d) + planar_keys d) es) (sym (layer t)) (layer-known d three n t (room t (omega arith))))
      (λ t l. gap t l ok.layers))
    where
      n : ℕ
      n = vertex_num kind d rounds

      P : ℕ → Ends → Type 0
      P = PlanarEdge d three n

      size : layer_size kind d ≡ planar_size d
      size = planar-rows kind d f h

      room : (t : ℕ) → t < rounds + 1 → t * planar_size d + planar_size d ≤ n
      room t l = omega (arith, row_room (rounds + 1) (planar_size d) l, vertices_are, ap (λ (m : ℕ). (rounds + 1) * m) size)

      layer : (t : ℕ) → layer_edges kind d (t * layer_size kind d) ≡ planar_layer d (t * planar_size d)
      layer t = planar-layers kind d (t * layer_size kind d) f h ∙ ap (λ (m : ℕ). planar_layer d (t * m)) size

      gap : (t : ℕ) → t < rounds → Layered kind rounds
          → Keyed P (t * (planar_keys d + planar_keys d) + planar_keys d) (t * (planar_keys d + planar_keys d) + (planar_keys d + planar_keys d)) (gap_edges kind d (t * layer_size kind d))
      gap t l (inl q) = absurd (omega arith)
      gap t l (inr (inl q)) =
          subst (λ (es : List Ends). Keyed P (t * (planar_keys d + planar_keys d) + planar_keys d) (t * (planar_keys d + planar_keys d) + (planar_keys d + planar_keys d)) es)
          (sym (planar-gaps kind d (t * layer_size kind d) q ∙ ap (λ (m : ℕ). planar_gap d (t * m)) size)) (planar-gap-known d three n t (room t (omega arith)) (room (t + 1) (omega arith)))
      gap t l (inr (inr (inl q))) =
          subst (λ (es : List Ends). Keyed P (t * (planar_keys d + planar_keys d) + planar_keys d) (t * (planar_keys d + planar_keys d) + (planar_keys d + planar_keys d)) es)
          (sym (circuit-gaps kind d (t * layer_size kind d) q ∙ ap (λ (m : ℕ). circuit_gap d (t * m)) size)) (circuit-gap-known d three n t (room t (omega arith)) (room (t + 1) (omega arith)))
      gap t l (inr (inr (inr q))) = absurd (omega arith)

  rotated-kinds : 4 < kind → EdgeFacts (rotated_height d) (vertex_num kind d rounds) (edges_of kind d rounds)
  unfolding edges_of
  rotated-kinds h =
      facts (rotated_width d) (d + 1) (rotated.rotated_key d) (rotated_height d) n _ _ (edges_of kind d rounds)
      (keyed-layered P rounds keys (λ t. layer_edges kind d (t * layer_size kind d)) (λ t. gap_edges kind d (t * layer_size kind d))
      (λ t l. subst (λ (es : List Ends). Keyed P (t * (keys + keys)) (t * (keys + keys) + keys) es) (sym (layer t)) (rotated.layer-known d odd three n t (room t (omega arith))))
      (λ t l. gap t l ok.layers))
    where
      n : ℕ
      n = vertex_num kind d rounds

      odd : d % 2 ≡ 1
      odd = ok.distance.odd

      keys : ℕ
      keys = rotated.rotated_keys d

      P : ℕ → Ends → Type 0
      P = rotated.RotatedEdge d odd three n

      size : layer_size kind d ≡ rotated_size d
      size = rotated-rows kind d h ∙ mul_comm (d + 1) (rotated_width d)

      room : (t : ℕ) → t < rounds + 1 → t * rotated_size d + rotated_size d ≤ n
      room t l = omega (arith, row_room (rounds + 1) (rotated_size d) l, vertices_are, ap (λ (m : ℕ). (rounds + 1) * m) size)

      layer : (t : ℕ) → layer_edges kind d (t * layer_size kind d) ≡ rotated_layer d (t * rotated_size d)
      layer t = rotated-layers kind d (t * layer_size kind d) h ∙ ap (λ (m : ℕ). rotated_layer d (t * m)) size

      gap : (t : ℕ) → t < rounds → Layered kind rounds → Keyed P (t * (keys + keys) + keys) (t * (keys + keys) + (keys + keys)) (gap_edges kind d (t * layer_size kind d))
      gap t l (inl q) = absurd (omega arith)
      gap t l (inr (inl q)) = absurd (omega arith)
      gap t l (inr (inr (inl q))) = absurd (omega arith)
      gap t l (inr (inr (inr q))) =
          subst (λ (es : List Ends). Keyed P (t * (keys + keys) + keys) (t * (keys + keys) + (keys + keys)) es)
          (sym (rotated-gaps kind d (t * layer_size kind d) q ∙ ap (λ (m : ℕ). rotated_gap d (t * m)) size)) (rotated.gap-known d odd three n t (room t (omega arith)) (room (t + 1) (omega arith)))

  pub edge-facts : EdgeFacts (height kind d) (vertex_num kind d rounds) (edges_of kind d rounds)
  edge-facts = elim (dec_le kind 4) [
    | yes h ↦ same_facts (height kind d) (planar_height d) (vertex_num kind d rounds) (edges_of kind d rounds) (planar_height_lem kind d h)
        (elim (ℕ_discrete kind 1) [ yes e ↦ one-kind e | no f ↦ planar-kinds f h ])
    | no h ↦ same_facts (height kind d) (rotated_height d) (vertex_num kind d rounds) (edges_of kind d rounds) (rotated_height_lem kind d (omega arith)) (rotated-kinds (omega arith))
  ]
