-- What the functions that write edges and vertices promise their callers.
use Rattle.std.specs.Prelude.{ℕ, ◌+◌, ◌≤◌, ◌≡◌, List, length, Float}
use Rattle.std.proofs.lemmas.List.Edits.{sets}
use Rattle.codes_writers.specs.declared.CodeVertex.{CodeVertex}
use Rattle.codes_writers.specs.Edges.{Ends, firsts, seconds, boundaries, positions_i, positions_j, positions_t}

-- Questions at the door, 6: the columns of ends have room for the edges from a place on.
pub record Room (a b : List ℕ) (at : ℕ) (es : List Ends) : Type 0 where
  pub room_a : at + length es ≤ length a
  pub room_b : at + length es ≤ length b

-- Six builders, Edge order: the edges were stored from place `at` on: columns a₀ and b₀ became a and b, and the next free place is r.
pub record Wrote (a₀ b₀ : List ℕ) (at : ℕ) (es : List Ends) (a b : List ℕ) (r : ℕ) : Type 0 where
  pub in_a : a ≡ sets a₀ at (firsts es)
  pub in_b : b ≡ sets b₀ at (seconds es)
  pub next : r ≡ at + length es

-- Questions at the door, 6: the columns of vertices have room for n more from a place on.
pub record VertexRoom (m : List ℕ) (i j t : List Float) (at n : ℕ) : Type 0 where
  pub room_m : at + n ≤ length m
  pub room_i : at + n ≤ length i
  pub room_j : at + n ≤ length j
  pub room_t : at + n ≤ length t

-- Six builders, Vertices: the vertices were stored from place `at` on, and the next free place is r.
pub record Placed (m₀ : List ℕ) (i₀ j₀ t₀ : List Float) (at : ℕ) (vs : List CodeVertex) (m : List ℕ) (i j t : List Float) (r : ℕ) : Type 0 where
  pub in_m : m ≡ sets m₀ at (boundaries vs)
  pub in_i : i ≡ sets i₀ at (positions_i vs)
  pub in_j : j ≡ sets j₀ at (positions_j vs)
  pub in_t : t ≡ sets t₀ at (positions_t vs)
  pub next : r ≡ at + length vs
