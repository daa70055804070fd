-- `create_code`: questions 2 to 6, the answer, and each column afterwards.
use Rattle.std.specs.Prelude.{ℕ, length, replicate, Result}
use Rattle.columns.specs.Places.{zero_float}
use Rattle.columns.specs.Questions.{ask}
use Rattle.columns_answers.specs.Said.{said, Answered}
use Rattle.columns_neighbors.specs.Lists.{degrees, lists}
use Rattle.codes_writers.specs.Edges.{firsts, seconds, boundaries, positions_i, positions_j, positions_t}
use Rattle.codes_layers.specs.Codes.{edges_of, vertices_of}
use Rattle.codes_layers.specs.Counts.{vertex_num, edge_num}
use Rattle.codes_layers.specs.Accepts.{code_refusal}
use Rattle.codes_calls.specs.declared.CodeCounts.{CodeCounts}
use Rattle.columns.specs.declared.refusal.Refusal.{Refusal}
use Rattle.codes_calls.specs.Columns.{CodeColumns, edge_room, vertex_room, long_enough, HandedBack}

-- Six builders, Vertices and Edges: so many vertices and so many edges.
abbrev pub code_counts : ℕ → ℕ → CodeCounts
code_counts v e = record { vertices = v; edges = e }

-- Questions at the door, sentence 2: what a refused call answers beside the number.
abbrev pub no_code_counts : CodeCounts
no_code_counts = code_counts 0 0

-- Questions at the door, 2 to 6, in order, of `create_code`, by the columns' lengths.
unfoldable pub create_refusal : (kind d rounds vertex_room edge_room numbers : ℕ) → ℕ
create_refusal kind d rounds vertex_room edge_room numbers =
    code_refusal kind d rounds (ask (long_enough (vertex_num kind d rounds) (edge_num kind d rounds) vertex_room edge_room numbers) 6 0)

-- Questions at the door, 2 to 6, in order, of `create_code`.
abbrev pub refusal_in : (kind d rounds : ℕ) → CodeColumns → ℕ
refusal_in kind d rounds c = create_refusal kind d rounds (vertex_room c) (edge_room c) (length c.neighbor_numbers)

-- Six builders, on edge order and on new edges: the columns of a new code: p, pe, half weight and erasure 0, no defect, neighbour lists in vertex order.
abbrev pub new_columns : (kind d rounds : ℕ) → CodeColumns
new_columns kind d rounds = record {
  ends_a = firsts (edges_of kind d rounds);
  ends_b = seconds (edges_of kind d rounds);
  p = replicate (edge_num kind d rounds) zero_float;
  pe = replicate (edge_num kind d rounds) zero_float;
  half_weight = replicate (edge_num kind d rounds) 0;
  erasure = replicate (edge_num kind d rounds) 0;
  pos_i = positions_i (vertices_of kind d rounds);
  pos_j = positions_j (vertices_of kind d rounds);
  pos_t = positions_t (vertices_of kind d rounds);
  boundary = boundaries (vertices_of kind d rounds);
  defect = replicate (vertex_num kind d rounds) 0;
  list_lengths = degrees (firsts (edges_of kind d rounds)) (seconds (edges_of kind d rounds)) (edge_num kind d rounds) (vertex_num kind d rounds);
  neighbor_numbers = lists (firsts (edges_of kind d rounds)) (seconds (edges_of kind d rounds)) (edge_num kind d rounds) (vertex_num kind d rounds);
}

-- Six builders: the answer of `create_code`, and its columns afterwards; q is the question's number.
pub record CodeCreated (kind d rounds q : ℕ) (c₀ c : CodeColumns) (answer : Result CodeCounts Refusal) : Type 0 where
  pub answers : Answered (said no_code_counts answer) q (code_counts (vertex_num kind d rounds) (edge_num kind d rounds)) no_code_counts
  pub columns_after : HandedBack q (new_columns kind d rounds) c₀ c

-- Six builders: what `create_code` answers and leaves.
abbrev pub CreateCode : (kind d rounds : ℕ) (c₀ c : CodeColumns) (answer : Result CodeCounts Refusal) → Type 0
CreateCode kind d rounds c₀ c answer = CodeCreated kind d rounds (refusal_in kind d rounds c₀) c₀ c answer
