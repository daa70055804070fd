-- Where the vertices of a code are, by layer, row and place. Assumes nothing.
use mathlib.Core.Path.{◌≡◌, refl, ap, ◌∙◌}
use Prim.Native.Nat.{ℕ, ◌+◌, ◌*◌, ◌<◌}
use native.Mathlib.Omega.{arith}
use lib.ListN.{get_or, get_or-map}
use Rattle.columns.specs.Lists.{each}
use Rattle.columns.specs.Places.{zero_float, position}
use Rattle.columns.proofs.Counting.{length-each, getD-each}
use Rattle.codes_writers.specs.declared.CodeVertex.{CodeVertex}
use Rattle.codes_writers.proofs.Wrote.{row_room}
use Rattle.codes_layers.specs.Codes.{rows, width, layer_size, vertex_of, layer_vertices, vertices_of}
use Rattle.codes_layers.proofs.ByKind.{layer_counted}
use Rattle.codes_graphs.proofs.Parts.{get_d_joined}
use Rattle.codes_calls.specs.Probabilities.{position_of}

abbrev none : CodeVertex
none = record { boundary = 0; position = position zero_float zero_float zero_float }

module _ (kind d rounds : ℕ) where
  vertex-at : (t row i : ℕ) → t < rounds + 1 → row < rows kind d → i < width kind d → get_or (vertices_of kind d rounds) (t * layer_size kind d + row * width kind d + i) none ≡ vertex_of kind d t row i
  unfolding vertices_of layer_vertices
  vertex-at t row i ht hr hi =
      get_d_joined (rounds + 1) (layer_size kind d) (λ s. layer_vertices kind d s) t _ (row * width kind d + i) none (λ s. layer_counted kind d s) ht (omega (arith, row_room (rows kind d) (width kind d) hr)) (omega arith)
      ∙ get_d_joined (rows kind d) (width kind d) (λ r. each (width kind d) (λ j. vertex_of kind d t r j)) row _ i none (λ r. length-each (width kind d) _) hr hi refl
      ∙ getD-each (width kind d) (λ j. vertex_of kind d t row j) none i hi

  position-is : (v : ℕ) → position_of kind d rounds v ≡ (get_or (vertices_of kind d rounds) v none).position
  unfolding position_of
  position-is v = λ k. position
      (get_or-map (λ (x : CodeVertex). x.position.i) (vertices_of kind d rounds) v none k)
      (get_or-map (λ (x : CodeVertex). x.position.j) (vertices_of kind d rounds) v none k)
      (get_or-map (λ (x : CodeVertex). x.position.t) (vertices_of kind d rounds) v none k)

  pub position_at : (t row i v : ℕ) → t < rounds + 1 → row < rows kind d → i < width kind d → v ≡ t * layer_size kind d + row * width kind d + i
      → position_of kind d rounds v ≡ (vertex_of kind d t row i).position
  position_at t row i v ht hr hi e = position-is v ∙ ap (λ (n : ℕ). (get_or (vertices_of kind d rounds) n none).position) e ∙ ap (λ (x : CodeVertex). x.position) (vertex-at t row i ht hr hi)
