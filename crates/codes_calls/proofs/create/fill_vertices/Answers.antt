-- `codes_calls::create::fill_vertices` meets its contract: `code_vertices` writes `vertex_num` vertices, and there is room for that many zeros. Assumes nothing.
use mathlib.Core.Path.{◌≡◌}
use native.Mathlib.Omega.{arith}
use Rattle.codes_writers.specs.declared.CodeVertex.{CodeVertex}
use Rattle.codes_layers.specs.Codes.{vertices_of}
use Rattle.codes_layers.specs.Counts.{vertex_num}
use Rattle.codes_layers.proofs.Accepted.{accepted}
use Rattle.codes_layers.proofs.Counted.{vertices-counted}
use Rattle.codes_graphs.proofs.AllEdges.{vertices_are}
use Rattle.codes_calls.proofs.Filled.{filled, written}
use Rattle.codes_calls.proofs.create.fill_vertices.Goals as goal

pub code_vertices-n-requires : goal.code_vertices-n-requires
code_vertices-n-requires c = let s = c.args in
    let ok = (accepted s.kind s.d s.rounds 0 c.requires.buildable).0 in
    let v = vertices_are s.kind s.d s.rounds ok in
    let l = c.requires.vertex_columns_long in
    record { vertex_room = record { room_m = omega (arith, l.long_m); room_i = omega (arith, l.long_i); room_j = omega (arith, l.long_j); room_t = omega (arith, l.long_t) }; le_d = omega (arith, ok.distance.three, ok.distance.few, ok.few_rounds) }

pub returns : goal.returns
returns c =
    let s = c.args in
    let ok = (accepted s.kind s.d s.rounds 0 c.requires.buildable).0 in
    let n = vertices-counted s.kind s.d ok.distance.three s.rounds in
    let l = c.requires.vertex_columns_long in
    let w = c.code_vertices-n.ensures in
    let count : c.code_vertices-n.result ≡ vertex_num s.kind s.d s.rounds = omega (arith, w.next) in
    record {
      in_i = written (λ (v : CodeVertex). v.position.i) (vertices_of s.kind s.d s.rounds) _ w.in_i (omega (arith, l.long_i));
      in_j = written (λ (v : CodeVertex). v.position.j) (vertices_of s.kind s.d s.rounds) _ w.in_j (omega (arith, l.long_j));
      in_t = written (λ (v : CodeVertex). v.position.t) (vertices_of s.kind s.d s.rounds) _ w.in_t (omega (arith, l.long_t));
      in_m = written (λ (v : CodeVertex). v.boundary) (vertices_of s.kind s.d s.rounds) _ w.in_m (omega (arith, l.long_m));
      in_df = filled 0 _ _ c.fill.ensures count l.long_df;
      count = count;
    }
