-- What the private functions of this crate promise one another. No public contract cites it.
use Rattle.std.specs.Prelude.{ℕ, ◌≤◌, ◌≡◌, true, List, take, Float, Result, Ok, Err}
use Rattle.columns.specs.Limits.{half_weight_limit}
use Rattle.codes_writers.specs.Edges.{firsts, seconds, boundaries}
use Rattle.codes_layers.specs.Codes.{edges_of, vertices_of}
use Rattle.codes_layers.specs.Counts.{vertex_num, edge_num}
use Rattle.codes_layers.specs.Accepts.{Buildable}
use Rattle.weights_calls.specs.Calls.{half_weights}
use Rattle.columns.specs.Questions.{ask, weights_sound}
use Rattle.codes_calls.specs.declared.CodeCounts.{CodeCounts}
use Rattle.columns.specs.declared.refusal.Refusal.{Refusal}
use Rattle.columns.specs.Refusals.{number}
use Rattle.query_crossing_answer.specs.Crossing.{is_joined, weight_found}
use Rattle.columns_answers.specs.Said.{Answered, said}
use Rattle.text_numbers.specs.Text.{refusal_line, listing}
use Rattle.text_listing.specs.Listing.{weights_of, crossing_of, listing_of}
use Rattle.codes_calls.specs.Probabilities.{probabilities, diagonal_of}
use Rattle.query_questions.specs.Scratch.{ScratchLengths}

-- Questions at the door, 6: scratch for 1,024 vertices and 6,144 edges.
pub record ScratchRoom (out : ℕ) (l : ScratchLengths) : Type 0 where
  pub out_room : out ≡ 1024
  pub numbers_room : l.neighbor_numbers ≡ 12288
  pub ends_room : l.list_ends ≡ 1024
  pub status_room : l.status ≡ 1024
  pub weight_room : l.weight ≡ 1024
  pub previous_room : l.previous ≡ 1024
  pub node_room : l.node ≡ 1024
  pub leaf_room : l.leaf ≡ 1024

-- The program codelist, sentence 2: these columns hold a code with its half weights.
pub record HoldsCode (kind d rounds : ℕ) (p : Float) (max v e : ℕ) (a b h m : List ℕ) : Type 0 where
  pub code : Buildable kind d rounds
  pub vertices : v ≡ vertex_num kind d rounds
  pub edges : e ≡ edge_num kind d rounds
  pub few_vertices : v ≤ 1024
  pub few_edges : e ≤ 6144
  pub max_few : max ≤ half_weight_limit
  pub max_some : 1 ≤ max
  pub in_a : take e a ≡ firsts (edges_of kind d rounds)
  pub in_b : take e b ≡ seconds (edges_of kind d rounds)
  pub in_h : take e h ≡ half_weights max (probabilities kind d rounds p (diagonal_of kind p))
  pub in_m : take v m ≡ boundaries (vertices_of kind d rounds)

-- Weights, get_initializer: these columns hold a code with its weights.
pub record HoldsWeights (kind d rounds : ℕ) (p : Float) (max v e : ℕ) (a b w m : List ℕ) : Type 0 where
  pub code : Buildable kind d rounds
  pub vertices : v ≡ vertex_num kind d rounds
  pub edges : e ≡ edge_num kind d rounds
  pub few_vertices : v ≤ 1024
  pub few_edges : e ≤ 6144
  pub in_a : take e a ≡ firsts (edges_of kind d rounds)
  pub in_b : take e b ≡ seconds (edges_of kind d rounds)
  pub in_w : take e w ≡ weights_of kind d rounds p max
  pub few_w : weights_sound e w ≡ true
  pub in_m : take v m ≡ boundaries (vertices_of kind d rounds)

-- Engine, Crossing; Questions at the door, 18: what the crossing query answers.
abbrev pub Replied : (kind d rounds : ℕ) (p : Float) (max : ℕ) → Result ℕ Refusal → Type 0
Replied kind d rounds p max r = Answered (said 0 r) (ask (is_joined (crossing_of kind d rounds p max)) 18 0) (weight_found (crossing_of kind d rounds p max)) 0

-- The program codelist, sentence 4 and the listing: the text for what the crossing query answers.
abbrev pub reply_text : (kind d rounds v e : ℕ) (boundary a b weights : List ℕ) → Result ℕ Refusal → List ℕ
reply_text kind d rounds v e boundary a b weights (Ok weight) = listing kind d rounds v e boundary a b weights weight
reply_text kind d rounds v e boundary a b weights (Err r) = refusal_line (number r)

-- The program codelist, sentence 2: where `new` answers with a code, these columns hold it.
abbrev pub MadeHolds : (kind d rounds : ℕ) (p : Float) (max : ℕ) (a b h m : List ℕ) → Result CodeCounts Refusal → Type 0
MadeHolds kind d rounds p max a b h m (Ok counts) = HoldsCode kind d rounds p max counts.vertices counts.edges a b h m
MadeHolds kind d rounds p max a b h m (Err r) = Unit {0}

-- The program codelist, sentence 4 and the listing: the text for what `new` answers.
abbrev pub made_text : (kind d rounds : ℕ) (p : Float) (max : ℕ) → Result CodeCounts Refusal → List ℕ
made_text kind d rounds p max (Ok counts) = listing_of kind d rounds p max
made_text kind d rounds p max (Err r) = refusal_line (number r)
