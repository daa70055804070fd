-- Columns for 1,024 vertices and 6,144 edges: question 6 asks of the vertices alone. Assumes nothing.
use mathlib.Core.Path.{◌≡◌, ap, ◌∙◌}
use mathlib.Core.Bool.{Bool, ◌&&◌}
use Prim.Native.Nat.{ℕ, zero, suc, ◌+◌, ◌-◌, ◌*◌, ◌/◌, ◌≤◌, ◌<◌}
use native.Mathlib.Decide.{dec_le}
use native.Mathlib.Omega.{arith}
use lib.Dec.{leb}
use lib.Ieee.{Float}
use lib.ListN.{length}
use borrow.Author.Tests.{le-leb, lt-leb}
use Rattle.columns.specs.Questions.{ask}
use Rattle.codes_layers.specs.Counts.{vertex_num, edge_num}
use Rattle.codes_layers.specs.Accepts.{code_refusal}
use Rattle.codes_layers.proofs.Accepted.{edges_six}
use Rattle.codes_questions.proofs.Later.{next_same}
use Rattle.weights_recipe.specs.Probabilities.{is_probability}
use Rattle.weights_diagonal.specs.Diagonal.{is_diagonal_probability}
use Rattle.weights_calls.specs.Calls.{edge_weights, some_above, is_largest_half_weight}
use Rattle.codes_calls.specs.Columns.{CodeColumns, long_enough, edge_room, vertex_room, shortest}
use Rattle.codes_calls.specs.Probabilities.{probabilities, diagonal_of}
use Rattle.codes_calls.specs.NewCode.{new_refusal}
use Rattle.text_listing.specs.Listing.{list_refusal}

-- ---- the columns

-- the columns of a code for 1,024 vertices and 6,144 edges
pub record CodeRoom (c : CodeColumns) : Type 0 where
  pub vertex_room_holds : vertex_room c ≡ 1024
  pub edge_room_holds : edge_room c ≡ 6144
  pub numbers : length c.neighbor_numbers ≡ 12288

pub room_of : (c : CodeColumns) → length c.ends_a ≡ 6144 → length c.ends_b ≡ 6144 → length c.p ≡ 6144 → length c.pe ≡ 6144 → length c.half_weight ≡ 6144 → length c.erasure ≡ 6144
    → length c.pos_i ≡ 1024 → length c.pos_j ≡ 1024 → length c.pos_t ≡ 1024 → length c.boundary ≡ 1024 → length c.defect ≡ 1024 → length c.list_lengths ≡ 1024
    → length c.neighbor_numbers ≡ 12288 → CodeRoom c
room_of c ea eb ep epe eh er vi vj vt vb vd vl n =
    record {
      vertex_room_holds = λ i. shortest (vi i) (vj i) (vt i) (vb i) (vd i) (vl i);
      edge_room_holds = λ i. shortest (ea i) (eb i) (ep i) (epe i) (eh i) (er i);
      numbers = n;
    }

-- ---- question 6

six : (kind d rounds : ℕ) → 3 ≤ d → long_enough (vertex_num kind d rounds) (edge_num kind d rounds) 1024 6144 12288 ≡ leb (vertex_num kind d rounds) 1024
unfolding long_enough
six kind d rounds three = elim (dec_le (vertex_num kind d rounds) 1024) [
  | yes h ↦
      let e : edge_num kind d rounds ≤ 6144 = omega (arith, edges_six kind d rounds three) in
      simp (le-leb (vertex_num kind d rounds) 1024 h, le-leb (edge_num kind d rounds) 6144 e, le-leb (2 * edge_num kind d rounds) 12288 (omega arith))
  | no h ↦ simp (lt-leb (vertex_num kind d rounds) 1024 (omega arith))
]

pub refusal_is : (kind d rounds : ℕ) (p : Float) (max vr er nl : ℕ) → vr ≡ 1024 → er ≡ 6144 → nl ≡ 12288 → new_refusal kind d rounds p (diagonal_of kind p) max vr er nl ≡ list_refusal kind d rounds p max
unfolding new_refusal list_refusal
refusal_is kind d rounds p max vr er nl a b c =
    (λ i. code_refusal kind d rounds (ask (long_enough (vertex_num kind d rounds) (edge_num kind d rounds) (a i) (b i) (c i)) 6 rest))
    ∙ next_same kind d rounds _ _ (λ three x y. ap (λ (t : Bool). ask t 6 rest) (six kind d rounds three))
  where
    rest : ℕ
    rest = ask (is_largest_half_weight max) 8 (ask (is_probability p && is_diagonal_probability (diagonal_of kind p)) 9 (ask (some_above (edge_weights (probabilities kind d rounds p (diagonal_of kind p)))) 10 0))
