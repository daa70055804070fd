-- `columns_neighbors::sound::graph_sound` meets its contract: the parts of the question are tested in order, up to the first that fails. Assumes nothing.
use mathlib.Core.Path.{sym, ◌∙◌}
use native.Mathlib.Omega.{arith}
use lib.Dec.{leb}
use borrow.Author.Tests.{leb-true}
use Rattle.columns.proofs.Tests.{and_both}
use Rattle.columns_neighbors.proofs.Ends.{bad-vertices, bad-edges, bad-range, bad-ends, all-but-pairs, range-says}
use Rattle.columns_neighbors.proofs.sound.graph_sound.Goals as goal

pub returns-then-not-vertex_count_sound : goal.returns-then-not-vertex_count_sound
returns-then-not-vertex_count_sound c = let s = c.args in bad-vertices s.vertex_num s.edge_num s.a.now s.b.now (sym c.vertex_count_sound.ensures ∙ c.if-not-vertex_count_sound.true)

pub returns-then-not-edge_count_sound : goal.returns-then-not-edge_count_sound
returns-then-not-edge_count_sound c = let s = c.args in bad-edges s.vertex_num s.edge_num s.a.now s.b.now (sym c.vertex_count_sound.ensures ∙ c.if-not-vertex_count_sound.false) (sym c.edge_count_sound.ensures ∙ c.if-not-edge_count_sound.true)

pub ascending_ends-requires : goal.ascending_ends-requires
ascending_ends-requires c = (sym c.vertex_count_sound.ensures ∙ c.if-not-vertex_count_sound.false, sym c.edge_count_sound.ensures ∙ c.if-not-edge_count_sound.false)

pub returns-then-ascending_ends : goal.returns-then-ascending_ends
returns-then-ascending_ends c = sym (c.ascending_ends.ensures c.if-ascending_ends.true)

pub returns-then-not-ends_in_range : goal.returns-then-not-ends_in_range
returns-then-not-ends_in_range c =
    let s = c.args in
    bad-range s.vertex_num s.edge_num s.a.now s.b.now (sym c.vertex_count_sound.ensures ∙ c.if-not-vertex_count_sound.false) (sym c.edge_count_sound.ensures ∙ c.if-not-edge_count_sound.false) (sym c.ends_in_range.ensures ∙ c.if-not-ends_in_range.true)

pub ends_differ-requires : goal.ends_differ-requires
ends_differ-requires c =
    let s = c.args in
    let r = range-says s.vertex_num s.edge_num s.a.now s.b.now (sym c.ends_in_range.ensures ∙ c.if-not-ends_in_range.false) in
    (r.0, r.1)

pub returns-then-not-ends_differ : goal.returns-then-not-ends_differ
returns-then-not-ends_differ c =
    let s = c.args in
    bad-ends s.vertex_num s.edge_num s.a.now s.b.now (sym c.vertex_count_sound.ensures ∙ c.if-not-vertex_count_sound.false) (sym c.edge_count_sound.ensures ∙ c.if-not-edge_count_sound.false) (sym c.ends_in_range.ensures ∙ c.if-not-ends_in_range.false) (sym c.ends_differ.ensures ∙ c.if-not-ends_differ.true)

pub pairs_apart-requires : goal.pairs_apart-requires
pairs_apart-requires c = let s = c.args in
    let v = and_both (leb 1 s.vertex_num) (leb s.vertex_num 4096) (sym c.vertex_count_sound.ensures ∙ c.if-not-vertex_count_sound.false) in
    let e = sym c.edge_count_sound.ensures ∙ c.if-not-edge_count_sound.false in
    let r = range-says s.vertex_num s.edge_num s.a.now s.b.now (sym c.ends_in_range.ensures ∙ c.if-not-ends_in_range.false) in
    record { n_bound = (leb-true s.edge_num 32768 e, r.0, r.1, leb-true s.vertex_num 4096 v.1); by_index = λ j h. omega (arith, r.2 j h, r.3 j h) }

pub returns : goal.returns
returns c =
    let s = c.args in
    c.pairs_apart.ensures ∙ all-but-pairs s.vertex_num s.edge_num s.a.now s.b.now (sym c.vertex_count_sound.ensures ∙ c.if-not-vertex_count_sound.false) (sym c.edge_count_sound.ensures ∙ c.if-not-edge_count_sound.false) (sym c.ends_in_range.ensures ∙ c.if-not-ends_in_range.false) (sym c.ends_differ.ensures ∙ c.if-not-ends_differ.false)
