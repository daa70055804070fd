-- `codes_calls::create::fill_edges` meets its contract: `code_edges` writes `edge_num` edges, and there is room for that many zeros. Assumes nothing.
use mathlib.Core.Path.{◌≡◌}
use native.Mathlib.Omega.{arith}
use Rattle.columns.specs.Places.{zero_float}
use Rattle.codes_writers.specs.Edges.{Ends}
use Rattle.codes_layers.specs.Codes.{edges_of}
use Rattle.codes_layers.specs.Counts.{edge_num}
use Rattle.codes_layers.proofs.Accepted.{accepted}
use Rattle.codes_layers.proofs.Counted.{edges-counted}
use Rattle.codes_graphs.proofs.AllEdges.{vertices_are}
use Rattle.codes_calls.proofs.Filled.{filled, written}
use Rattle.codes_calls.proofs.create.fill_edges.Goals as goal

pub code_edges-n-requires : goal.code_edges-n-requires
code_edges-n-requires c = let s = c.args in
    let ok = (accepted s.kind s.d s.rounds 0 c.requires.buildable).0 in
    let n = edges-counted s.kind s.d ok.distance.three s.rounds in
    let l = c.requires.edge_columns_long in
    record { room = record { room_a = omega (arith, l.long_a); room_b = omega (arith, l.long_b) }; le_d = omega (arith, ok.distance.three, ok.distance.few, ok.few_rounds, ok.few_vertices, vertices_are s.kind s.d s.rounds ok) }

pub returns : goal.returns
returns c =
    let s = c.args in
    let ok = (accepted s.kind s.d s.rounds 0 c.requires.buildable).0 in
    let n = edges-counted s.kind s.d ok.distance.three s.rounds in
    let l = c.requires.edge_columns_long in
    let w = c.code_edges-n.ensures in
    let count : c.code_edges-n.result ≡ edge_num s.kind s.d s.rounds = omega (arith, w.next) in
    record {
      in_a = written (λ (e : Ends). e.0) (edges_of s.kind s.d s.rounds) _ w.in_a (omega (arith, l.long_a));
      in_b = written (λ (e : Ends). e.1) (edges_of s.kind s.d s.rounds) _ w.in_b (omega (arith, l.long_b));
      in_p = filled zero_float _ _ c.fill.ensures count l.long_p;
      in_pe = filled zero_float _ _ c.fill-2.ensures count l.long_pe;
      in_h = filled 0 _ _ c.fill-3.ensures count l.long_h;
      in_er = filled 0 _ _ c.fill-4.ensures count l.long_er;
      count = count;
    }
