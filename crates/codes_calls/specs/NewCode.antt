-- `new` and `new_diagonal`: questions 2 to 6 and 8 to 10, the answer, and each column afterwards.
use Rattle.std.specs.Prelude.{ℕ, ◌&&◌, length, Float, Option, Result}
use Rattle.columns.specs.Questions.{ask}
use Rattle.codes_layers.specs.Counts.{vertex_num, edge_num}
use Rattle.codes_layers.specs.Accepts.{code_refusal}
use Rattle.weights_recipe.specs.Probabilities.{is_probability}
use Rattle.weights_diagonal.specs.Diagonal.{is_diagonal_probability}
use Rattle.weights_calls.specs.Calls.{edge_weights, some_above, is_largest_half_weight, half_weights}
use Rattle.codes_calls.specs.declared.CodeCounts.{CodeCounts}
use Rattle.columns.specs.declared.refusal.Refusal.{Refusal}
use Rattle.codes_calls.specs.Columns.{CodeColumns, edge_room, vertex_room, long_enough, HandedBack}
use Rattle.columns_answers.specs.Said.{said, Answered}
use Rattle.codes_calls.specs.CreateCode.{code_counts, no_code_counts, new_columns}
use Rattle.codes_calls.specs.Probabilities.{probabilities, diagonal_of}

-- Questions at the door, 2 to 6 and 8 to 10, in order, by the columns' lengths: 9 asks of p and of the diagonal probability, 10 of the weights of the code's edges.
unfoldable pub new_refusal : (kind d rounds : ℕ) (p : Float) (diagonal : Option Float) (max vertex_room edge_room numbers : ℕ) → ℕ
new_refusal kind d rounds p diagonal max vertex_room edge_room numbers =
    code_refusal kind d rounds
    (ask (long_enough (vertex_num kind d rounds) (edge_num kind d rounds) vertex_room edge_room numbers) 6
    (ask (is_largest_half_weight max) 8
    (ask (is_probability p && is_diagonal_probability diagonal) 9
    (ask (some_above (edge_weights (probabilities kind d rounds p diagonal))) 10 0))))

-- Questions at the door, 2 to 6 and 8 to 10, in order.
abbrev pub new_refusal_in : (kind d rounds : ℕ) (p : Float) (diagonal : Option Float) (max : ℕ) → CodeColumns → ℕ
new_refusal_in kind d rounds p diagonal max c = new_refusal kind d rounds p diagonal max (vertex_room c) (edge_room c) (length c.neighbor_numbers)

-- Weights, on the diagonal probability and on half weights: the columns of `create_code`, with the edges' p and half weights.
abbrev pub weighted_columns : (kind d rounds : ℕ) (p : Float) (diagonal : Option Float) (max : ℕ) → CodeColumns
weighted_columns kind d rounds p diagonal max = record {
  ends_a = (new_columns kind d rounds).ends_a;
  ends_b = (new_columns kind d rounds).ends_b;
  p = probabilities kind d rounds p diagonal;
  pe = (new_columns kind d rounds).pe;
  half_weight = half_weights max (probabilities kind d rounds p diagonal);
  erasure = (new_columns kind d rounds).erasure;
  pos_i = (new_columns kind d rounds).pos_i;
  pos_j = (new_columns kind d rounds).pos_j;
  pos_t = (new_columns kind d rounds).pos_t;
  boundary = (new_columns kind d rounds).boundary;
  defect = (new_columns kind d rounds).defect;
  list_lengths = (new_columns kind d rounds).list_lengths;
  neighbor_numbers = (new_columns kind d rounds).neighbor_numbers;
}

-- Weights: the answer of a call that builds a code with a diagonal probability, and its columns afterwards; q is the question's number.
pub record Weighted (kind d rounds : ℕ) (p : Float) (diagonal : Option Float) (max q : ℕ) (c₀ c : CodeColumns) (answer : Result CodeCounts Refusal) : Type 0 where
  pub answers : Answered (said no_code_counts answer) q (code_counts (vertex_num kind d rounds) (edge_num kind d rounds)) no_code_counts
  pub columns_after : HandedBack q (weighted_columns kind d rounds p diagonal max) c₀ c

-- Weights, on the diagonal probability: what such a call answers and leaves, where the diagonal probability is absent or a number.
abbrev pub WeightedCode : (kind d rounds : ℕ) (p : Float) (diagonal : Option Float) (max : ℕ) (c₀ c : CodeColumns) (answer : Result CodeCounts Refusal) → Type 0
WeightedCode kind d rounds p diagonal max c₀ c answer = Weighted kind d rounds p diagonal max (new_refusal_in kind d rounds p diagonal max c₀) c₀ c answer

-- Weights, on the diagonal probability, sentence 2: what `new` answers and leaves.
abbrev pub NewCode : (kind d rounds : ℕ) (p : Float) (max : ℕ) (c₀ c : CodeColumns) (answer : Result CodeCounts Refusal) → Type 0
NewCode kind d rounds p max c₀ c answer = WeightedCode kind d rounds p (diagonal_of kind p) max c₀ c answer

-- Weights, on the diagonal probability, sentence 1: what `new_diagonal` answers and leaves; it builds kind 4, for which question 2 is met.
abbrev pub NewDiagonal : (d rounds : ℕ) (p : Float) (diagonal : Option Float) (max : ℕ) (c₀ c : CodeColumns) (answer : Result CodeCounts Refusal) → Type 0
NewDiagonal d rounds p diagonal max c₀ c answer = WeightedCode 4 d rounds p diagonal max c₀ c answer
