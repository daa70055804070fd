-- A straight walk of d edges from a left to a right vertex of every accepted code. Assumes nothing.
use mathlib.Core.Path.{◌≡◌, refl, sym, ◌∙◌, subst}
use mathlib.Core.Bool.{cond}
use mathlib.Core.List.{List, [], ◌∷◌, ◌++◌}
use Prim.Native.Nat.{ℕ, zero, suc, ◌+◌, ◌-◌, ◌*◌, ◌/◌, ◌%◌, ◌≤◌, ◌<◌}
use native.Mathlib.Nat.{zero-mul}
use native.Mathlib.Decide.{ℕ_discrete}
use native.Mathlib.Omega.{arith}
use lib.ListN.{get_or, get_or-append}
use lib.Seq.{get_or_at}
use Rattle.columns.specs.Lists.{each}
use Rattle.columns.proofs.Counting.{length-each, getD-each}
use Rattle.codes_writers.specs.Edges.{Ends}
use Rattle.codes_planar.specs.Planar.{row_edges, planar_row, planar_layer}
use Rattle.codes_rotated.specs.Rotated.{rotated_width, rotated_edge, rotated_row, rotated_layer}
use Rattle.codes_layers.specs.Codes.{layer_size, layer_edges, gap_edges, edges_of}
use Rattle.codes_layers.proofs.ByKind.{one-layer, planar-layers, rotated-layers}
use Rattle.codes_layers.proofs.Accepted.{Accepted}
use Rattle.codes_graphs.proofs.Parts.{Starts, starts-append, starts-self, starts-joined, starts-layered}
use Rattle.codes_graphs.proofs.RotatedEdges.{edge_even}

-- ---- the first row of the first layer comes first

module _ (kind d rounds : ℕ) (ok : Accepted kind d rounds) where
  at_start : (xs : List Ends) → Starts xs (layer_edges kind d (0 * layer_size kind d)) → Starts xs (edges_of kind d rounds)
  unfolding edges_of
  at_start xs s = starts-layered rounds (λ t. layer_edges kind d (t * layer_size kind d)) (λ t. gap_edges kind d (t * layer_size kind d)) xs s

  -- kinds 1 to 4
  pub row_first : kind ≤ 4 → Starts (row_edges d 0) (edges_of kind d rounds)
  unfolding planar_layer planar_row
  row_first h = at_start (row_edges d 0) (elim (ℕ_discrete kind 1) [
    | yes e ↦ renamed (one-layer kind d 0 e) (starts-self (row_edges d 0))
    | no f ↦ renamed (planar-layers kind d 0 f h) (starts-joined d (λ row. planar_row d 0 row) (row_edges d 0) (omega (arith, ok.distance.three))
        (subst (λ (b : ℕ). Starts (row_edges d 0) (row_edges d b ++ cond (lib.Dec.ltb (0 + 1) d) (Rattle.codes_writers.specs.Edges.straight_edges (d - 1) (0 + 0 * (d + 1)) (d + 1)) [])) (omega (arith, zero-mul (d + 1)))
        (starts-append (row_edges d 0) (row_edges d 0) _ (starts-self (row_edges d 0)))))
  ])
    where
      renamed : {es : List Ends} → layer_edges kind d 0 ≡ es → Starts (row_edges d 0) es → Starts (row_edges d 0) (layer_edges kind d (0 * layer_size kind d))
      renamed {es} p s = subst (λ (b : ℕ). Starts (row_edges d 0) (layer_edges kind d b)) (omega (arith, zero-mul (layer_size kind d))) (subst (λ (l : List Ends). Starts (row_edges d 0) l) (sym p) s)

  -- kinds 5 and 6
  pub turned-first : 4 < kind → Starts (rotated_row d 0 0) (edges_of kind d rounds)
  unfolding rotated_layer
  turned-first h = at_start (rotated_row d 0 0)
      (subst (λ (b : ℕ). Starts (rotated_row d 0 0) (layer_edges kind d b)) (omega (arith, zero-mul (layer_size kind d)))
      (subst (λ (l : List Ends). Starts (rotated_row d 0 0) l) (sym (rotated-layers kind d 0 h)) (starts-joined d (λ row. rotated_row d 0 row) (rotated_row d 0 0) (omega (arith, ok.distance.three)) (starts-self (rotated_row d 0 0)))))

-- ---- edges by number

pub along_row : (d i : ℕ) → i < d - 1 → get_or (row_edges d 0) i (0, 0) ≡ (i, i + 1)
unfolding row_edges
along_row d i h =
    get_or-append (each (d - 1) (λ k. (0 + k, 0 + k + 1))) ((0, 0 + d) ∷ []) (0, 0) i (omega (arith, length-each {A = Ends} (d - 1) (λ k. (0 + k, 0 + k + 1))))
    ∙ getD-each (d - 1) (λ k. (0 + k, 0 + k + 1)) (0, 0) i h ∙ pair (omega arith) (omega arith)
  where
    pair : {a b c e : ℕ} → a ≡ c → b ≡ e → ◌≡◌ {A = Ends} (a, b) (c, e)
    pair p q = λ k. (p k, q k)

pub left_most : (d : ℕ) → 1 ≤ d → get_or (row_edges d 0) (d - 1) (0, 0) ≡ (0, d)
unfolding row_edges
left_most d h =
    get_or_at (each (d - 1) (λ k. (0 + k, 0 + k + 1))) (0, 0 + d) [] (0, 0) (d - 1) (length-each {A = Ends} (d - 1) (λ k. (0 + k, 0 + k + 1)))
    ∙ λ k. (0, zero-plus d k)
  where
    zero-plus : (n : ℕ) → 0 + n ≡ n
    zero-plus n = omega arith

-- the vertices that the walk of kinds 5 and 6 meets
pub along : (w i : ℕ) → ℕ
along w i = cond (lib.Dec.eqb (i % 2) 0) (w + i / 2) (i / 2)

pub along_even : (w i : ℕ) → i % 2 ≡ 0 → along w i ≡ w + i / 2
unfolding along
along_even w i e = simp (borrow.Author.Tests.eq-eqb _ _ e)

pub along_odd : (w i : ℕ) → (i % 2 ≡ 0 → ⊥) → along w i ≡ i / 2
unfolding along
along_odd w i f = simp (borrow.Author.Tests.ne_eqb _ _ f)

pub turned_row : (d i : ℕ) → i < d → get_or (rotated_row d 0 0) i (0, 0) ≡ (i / 2, rotated_width d + (i + 1) / 2)
unfolding rotated_row
turned_row d i h =
    getD-each d (λ k. rotated_edge (rotated_width d) (0 + 0 * rotated_width d) 0 k) (0, 0) i h
    ∙ edge_even (rotated_width d) (0 + 0 * rotated_width d) 0 i refl
    ∙ λ k. (none (i / 2) k, shift k)
  where
    none : (n : ℕ) → 0 + 0 * rotated_width d + n ≡ n
    none n = omega (arith, zero-mul (rotated_width d))

    shift : 0 + 0 * rotated_width d + rotated_width d + (i + 1) / 2 ≡ rotated_width d + (i + 1) / 2
    shift = omega (arith, zero-mul (rotated_width d))
