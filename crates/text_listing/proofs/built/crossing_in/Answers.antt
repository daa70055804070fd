-- `text_listing::built::crossing_in` meets its contract: the columns pass questions 6 and 7, so that the reply of `crossing` is that of the code. Assumes nothing.
use Rattle.text_listing.proofs.Crossed.{replied}
use Rattle.text_listing.proofs.built.crossing_in.Goals as goal

pub shape_of-out_weight : goal.shape_of-out_weight
shape_of-out_weight c = c.out_weight-1.given

pub shape_of-neighbor_numbers : goal.shape_of-neighbor_numbers
shape_of-neighbor_numbers c = c.neighbor_numbers-1.given

pub shape_of-list_ends : goal.shape_of-list_ends
shape_of-list_ends c = c.list_ends-1.given

pub shape_of-status : goal.shape_of-status
shape_of-status c = c.status-1.given

pub shape_of-weight : goal.shape_of-weight
shape_of-weight c = c.weight-1.given

pub shape_of-previous : goal.shape_of-previous
shape_of-previous c = c.previous-1.given

pub shape_of-node : goal.shape_of-node
shape_of-node c = c.node-1.given

pub shape_of-leaf : goal.shape_of-leaf
shape_of-leaf c = c.leaf-1.given

pub returns : goal.returns
returns c =
    let s = c.args in
    replied s.code.kind s.code.d s.code.rounds s.code.probability s.code.max s.v s.e s.ends_a.now s.ends_b.now s.weights.now s.boundary.now c.requires.holds_weights _ _ _ _ c.crossing.result c.requires.scratch_room c.crossing.ensures.answers
