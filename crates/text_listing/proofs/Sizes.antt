-- A listing has at most 320,000 bytes. Assumes nothing.
use mathlib.Core.Path.{◌≡◌, refl}
use mathlib.Core.Bool.{Bool, true, false, cond}
use mathlib.Core.List.{List, [], ◌∷◌, ◌++◌}
use mathlib.Core.Option.{Option, some, none}
use Prim.Native.Nat.{ℕ, ◌≤◌}
use native.Mathlib.Omega.{arith}
use lib.Dec.{eqb, leb}
use lib.ListN.{length, length-append}
use lib.Ieee.{Float}
use borrow.Author.Tests.{leb-true, eqb-true}
use Rattle.columns.proofs.Tests.{and_both}
use Rattle.codes_layers.specs.Counts.{vertex_num, edge_num}
use Rattle.codes_layers.specs.Accepts.{Buildable}
use Rattle.codes_layers.proofs.Accepted.{Accepted, accepted, buildable, ask_zero, edges_six}
use Rattle.weights_calls.specs.Calls.{is_largest_half_weight}
use Rattle.columns.specs.Limits.{half_weight_limit}
use Rattle.text_numbers.specs.Text.{ended, refusal_line, graph_line, vertex_lines, edge_lines, crossing_line, listing}
use Rattle.text_numbers.proofs.Sizes.{ended_few, vertex_lines_few, edge_lines_few}
use Rattle.text_listing.specs.Listing.{list_refusal, weights_of, crossing_of, with_crossing, listing_of, code_text}

-- what an accepted line says
pub record ListOpen (kind d rounds max : ℕ) : Type 0 where
  pub code : Buildable kind d rounds
  pub ok : Accepted kind d rounds
  pub vertices : vertex_num kind d rounds ≤ 1024
  pub edges : edge_num kind d rounds ≤ 6144
  pub max_some : 1 ≤ max
  pub max_few : max ≤ half_weight_limit

pub list_opened : (kind d rounds : ℕ) (p : Float) (max : ℕ) → list_refusal kind d rounds p max ≡ 0 → ListOpen kind d rounds max
unfolding list_refusal
list_opened kind d rounds p max e =
    let a = accepted kind d rounds _ e in
    let b = ask_zero (leb (vertex_num kind d rounds) 1024) 6 _ a.1 (omega arith) in
    let c = ask_zero (is_largest_half_weight max) 8 _ b.1 (omega arith) in
    let m = and_both (leb 1 max) (leb max half_weight_limit) c.0 in
    let v = leb-true (vertex_num kind d rounds) 1024 b.0 in
    record {
      code = buildable kind d rounds _ e;
      ok = a.0;
      vertices = v;
      edges = omega (arith, v, edges_six kind d rounds a.0.distance.three);
      max_some = leb-true 1 max m.0;
      max_few = leb-true max half_weight_limit m.1;
    }

pub one_line : (letter n : ℕ) → length (letter ∷ ended (n ∷ [])) ≤ 320000
one_line letter n = omega (arith, ended_few (n ∷ []))

listing_few : (kind d rounds v e : ℕ) (boundary a b weights : List ℕ) (crossing : ℕ) → v ≤ 1024 → e ≤ 6144 → length (listing kind d rounds v e boundary a b weights crossing) ≤ 320000
unfolding listing
listing_few kind d rounds v e boundary a b weights crossing h k =
    omega (
      arith,
      length-append (graph_line kind d rounds v e) (vertex_lines v boundary ++ (edge_lines e a b weights ++ crossing_line crossing)),
      length-append (vertex_lines v boundary) (edge_lines e a b weights ++ crossing_line crossing),
      length-append (edge_lines e a b weights) (crossing_line crossing),
      ended_few (kind ∷ d ∷ rounds ∷ v ∷ e ∷ []),
      vertex_lines_few v boundary,
      edge_lines_few e a b weights,
      ended_few (crossing ∷ []),
    )

pub code_few : (kind d rounds : ℕ) (p : Float) (max : ℕ) → length (code_text kind d rounds p max) ≤ 320000
unfolding code_text listing_of
code_few kind d rounds p max = go (eqb (list_refusal kind d rounds p max) 0) refl
  where
    made : ListOpen kind d rounds max → (o : Option ℕ) → length (with_crossing kind d rounds (weights_of kind d rounds p max) o) ≤ 320000
    made s (some w) = listing_few kind d rounds (vertex_num kind d rounds) (edge_num kind d rounds) _ _ _ _ w s.vertices s.edges
    made s none = one_line 0x72 18

    go : (b : Bool) → eqb (list_refusal kind d rounds p max) 0 ≡ b
        → length (cond b (with_crossing kind d rounds (weights_of kind d rounds p max) (crossing_of kind d rounds p max)) (refusal_line (list_refusal kind d rounds p max))) ≤ 320000
    go true e = made (list_opened kind d rounds p max (eqb-true (list_refusal kind d rounds p max) 0 e)) (crossing_of kind d rounds p max)
    go false e = one_line 0x72 (list_refusal kind d rounds p max)
