-- The example line and its listing, by computation, the logarithm included. Assumes nothing.
use Rattle.columns.specs.declared.refusal.Refusal.{Refusal}
use Rattle.std.specs.Prelude.{Result}
use Prim.Native.Nat.{ℕ, ◌≤◌}
use mathlib.Core.Path.{◌≡◌, refl, ap, ◌∙◌}
use mathlib.Core.List.{List}
use lib.ListN.{length}
use lib.Ieee.{of_bits, to_bits, div, sub, mul, add, lt, eq, le, of_int}
use borrow.Author.Tests.{le-leb}
use Rattle.columns.specs.Lists.{each, joined, layered, over}
use Rattle.columns.specs.Questions.{ask, all}
use Rattle.columns.proofs.Columns.{after-accepted}
use Rattle.columns_answers.specs.Said.{accepts, said}
use Rattle.weights_recipe.specs.Logarithm.{halve, series, logarithm, edge_weight}
use Rattle.weights_recipe.specs.Rounding.{scaled, reaches, seek, greatest, half_weight}
use Rattle.weights_recipe.specs.Probabilities.{is_probability}
use Rattle.weights_calls.specs.Calls.{largest, some_above}
use Rattle.codes_calls.specs.Probabilities.{probabilities}
use Rattle.codes_writers.specs.Edges.{straight_edges, straight_rows}
use Rattle.codes_planar.specs.Planar.{row_edges, planar_row, planar_layer, planar_gap, planar_boundary, capacity_vertex}
use Rattle.codes_layers.specs.Codes.{rows, width, layer_edges, gap_edges, edges_of, vertex_of, layer_vertices, vertices_of}
use Rattle.codes_layers.specs.Counts.{layer_vertex_num, layer_edge_num, gap_edge_num}
use Rattle.codes_layers.specs.Accepts.{kind_known, distance_sound, rounds_sound, code_refusal}
use Rattle.codes_graphs.specs.Graphs.{built_graph}
use Rattle.engine_walks.specs.Settling as S
use Rattle.engine_walks.specs.Settling.{first_least, start, changes, by_status, offer, relax_edge, relax, stopped, next, settle}
use Rattle.engine_walks.specs.Answers.{from_left, nearest_right, crossing}
use Rattle.access_vertices.specs.Weights.{weights}
use Rattle.text_input.specs.Line.{digits, number_written, decimal_sound, decimal_of, hex_sound, hex_of, well_formed}
use Rattle.text_numbers.specs.Text.{size_in, digits_of, decimal, ended, vertex_lines, edge_lines, listing}
use Rattle.text_listing.specs.Listing.{list_refusal, weights_of, crossing_of, listing_of, code_text}
use Rattle.text_answer.specs.Answer.{answer_text, text_room, text_refusal, CodeListed}
use Rattle.claims_examples.specs.Listing.{bytes_of, example_line, example_listing, CodelistReturned, codelist_returned, ListingPrinted}
use Rattle.claims_examples.proofs.Answers.{said-accepts}

text : answer_text (bytes_of example_line) ≡ bytes_of example_listing
unfolding div sub add mul lt eq le of_int of_bits to_bits halve series logarithm edge_weight scaled reaches seek greatest half_weight largest some_above is_probability probabilities each joined layered all straight_edges straight_rows row_edges planar_row planar_layer planar_gap planar_boundary capacity_vertex rows width layer_edges gap_edges edges_of vertex_of layer_vertices vertices_of layer_vertex_num layer_edge_num gap_edge_num kind_known distance_sound rounds_sound code_refusal built_graph first_least start changes by_status offer relax_edge relax S.take_vertex stopped next settle from_left nearest_right crossing weights digits number_written decimal_sound decimal_of hex_sound hex_of well_formed size_in digits_of decimal ended vertex_lines edge_lines listing list_refusal weights_of crossing_of listing_of code_text
text = refl

by_text : (input text₀ column : List ℕ) (r : Result ℕ Refusal) → CodeListed input text₀ column r → text_room ≤ length text₀ → (bytes : List ℕ) → answer_text input ≡ bytes
    → (said 0 r ≡ accepts (length bytes)) × (column ≡ over bytes text₀)
by_text input text₀ column r c room bytes e =
    let z : text_refusal text₀ ≡ 0 = ap (λ b. ask b 6 0) (le-leb text_room (length text₀) room) in
    (said-accepts c.answers z ∙ ap (λ t. accepts (length t)) e, c.text_after ∙ after-accepted (text_refusal text₀) (answer_text input) text₀ z ∙ ap (λ t. over t text₀) e)

listed_of : (input text₀ column : List ℕ) (r : Result ℕ Refusal) → CodelistReturned input text₀ column r → CodeListed input text₀ column r
listed_of input text₀ column r (codelist_returned κs a q s h) = h

pub printed : ListingPrinted
printed = record {
  text = text;
  printed = λ text₀ column r c room. by_text (bytes_of example_line) text₀ column r (listed_of (bytes_of example_line) text₀ column r c) room (bytes_of example_listing) text;
}
