-- What the private functions of this crate promise one another. No public contract cites it.
use Rattle.std.specs.Prelude.{ℕ, ◌≤◌, ◌≡◌, List, length, replicate, Float}
use Rattle.columns.specs.Lists.{over}
use Rattle.columns.specs.Places.{zero_float}
use Rattle.codes_writers.specs.Edges.{firsts, seconds, boundaries, positions_i, positions_j, positions_t}
use Rattle.codes_layers.specs.Codes.{edges_of, vertices_of}
use Rattle.codes_layers.specs.Counts.{vertex_num, edge_num}

-- Questions at the door, 6: n places in each edge column.
pub record EdgeColumnsLong (n : ℕ) (a b : List ℕ) (p pe : List Float) (h er : List ℕ) : Type 0 where
  pub long_a : n ≤ length a
  pub long_b : n ≤ length b
  pub long_p : n ≤ length p
  pub long_pe : n ≤ length pe
  pub long_h : n ≤ length h
  pub long_er : n ≤ length er

-- Six builders, on edge order and on new edges: the edge columns hold the new code.
pub record EdgeColumnsFilled (kind d rounds : ℕ) (a₀ b₀ : List ℕ) (p₀ pe₀ : List Float) (h₀ er₀ a b : List ℕ) (p pe : List Float) (h er : List ℕ) (r : ℕ) : Type 0 where
  pub in_a : a ≡ over (firsts (edges_of kind d rounds)) a₀
  pub in_b : b ≡ over (seconds (edges_of kind d rounds)) b₀
  pub in_p : p ≡ over (replicate (edge_num kind d rounds) zero_float) p₀
  pub in_pe : pe ≡ over (replicate (edge_num kind d rounds) zero_float) pe₀
  pub in_h : h ≡ over (replicate (edge_num kind d rounds) 0) h₀
  pub in_er : er ≡ over (replicate (edge_num kind d rounds) 0) er₀
  pub count : r ≡ edge_num kind d rounds

-- Questions at the door, 6: n places in each vertex column but the list lengths.
pub record VertexColumnsLong (n : ℕ) (i j t : List Float) (m df : List ℕ) : Type 0 where
  pub long_i : n ≤ length i
  pub long_j : n ≤ length j
  pub long_t : n ≤ length t
  pub long_m : n ≤ length m
  pub long_df : n ≤ length df

-- Six builders, on edge order and on new edges: these columns hold the new code.
pub record VertexColumnsFilled (kind d rounds : ℕ) (i₀ j₀ t₀ : List Float) (m₀ df₀ : List ℕ) (i j t : List Float) (m df : List ℕ) (r : ℕ) : Type 0 where
  pub in_i : i ≡ over (positions_i (vertices_of kind d rounds)) i₀
  pub in_j : j ≡ over (positions_j (vertices_of kind d rounds)) j₀
  pub in_t : t ≡ over (positions_t (vertices_of kind d rounds)) t₀
  pub in_m : m ≡ over (boundaries (vertices_of kind d rounds)) m₀
  pub in_df : df ≡ over (replicate (vertex_num kind d rounds) 0) df₀
  pub count : r ≡ vertex_num kind d rounds
