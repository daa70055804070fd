-- `text_numbers::lines::write_listing` meets its contract: each part is put where the one before it ends, and joined they are the listing. Assumes nothing.
use mathlib.Core.List.{List, [], ◌∷◌, ◌++◌}
use Prim.Native.Nat.{ℕ}
use native.Mathlib.Omega.{arith}
use Rattle.text_numbers.specs.Text.{graph_line, vertex_lines, edge_lines, crossing_line, listing}
use Rattle.text_numbers.proofs.Putting.{both}
use Rattle.text_numbers.proofs.Sizes.{ended_few, vertex_lines_few, edge_lines_few}
use Rattle.text_numbers.proofs.lines.write_listing.Goals as goal

pub put_vertices-b-requires : goal.put_vertices-b-requires
put_vertices-b-requires c = (omega (arith, c.put_graph-a.ensures.next, ended_few (c.args.g.kind ∷ c.args.g.d ∷ c.args.g.rounds ∷ c.args.g.vertices ∷ c.args.g.edges ∷ [])), c.requires.vertices_bound.0, c.requires.vertices_bound.1)

pub put_edges-c-requires : goal.put_edges-c-requires
put_edges-c-requires c =
    let p = c.requires.edges_bound in
    (omega (arith, c.put_vertices-b.ensures.next, c.put_graph-a.ensures.next, c.requires.vertices_bound.0, ended_few (c.args.g.kind ∷ c.args.g.d ∷ c.args.g.rounds ∷ c.args.g.vertices ∷ c.args.g.edges ∷ []), vertex_lines_few c.args.g.vertices c.args.boundary.now), p.0, p.1, p.2, p.3)

pub put_one-requires : goal.put_one-requires
put_one-requires c = omega (arith, c.put_edges-c.ensures.next, c.put_vertices-b.ensures.next, c.put_graph-a.ensures.next, c.requires.vertices_bound.0, c.requires.edges_bound.0, ended_few (c.args.g.kind ∷ c.args.g.d ∷ c.args.g.rounds ∷ c.args.g.vertices ∷ c.args.g.edges ∷ []), vertex_lines_few c.args.g.vertices c.args.boundary.now, edge_lines_few c.args.g.edges c.args.ends_a.now c.args.ends_b.now c.args.weights.now)

pub returns : goal.returns
unfolding listing
returns c =
    let s = c.args in
    let v : List ℕ = vertex_lines s.g.vertices s.boundary.now in
    let e : List ℕ = edge_lines s.g.edges s.ends_a.now s.ends_b.now s.weights.now in
    let x : List ℕ = crossing_line s.crossing in
    both (graph_line s.g.kind s.g.d s.g.rounds s.g.vertices s.g.edges) (v ++ (e ++ x)) c.put_graph-a.ensures
    (both v (e ++ x) c.put_vertices-b.ensures (both e x c.put_edges-c.ensures c.put_one.ensures))
