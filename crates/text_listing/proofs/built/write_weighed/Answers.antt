-- `text_listing::built::write_weighed` meets its contract: `store_weights` stores the weights of the code, so that the reply is about the code. Assumes nothing.
use native.Mathlib.Omega.{arith}
use Rattle.text_listing.proofs.Holds.{h-few, h-long, holds-weights}
use Rattle.text_listing.proofs.Crossed.{lengths}
use Rattle.text_listing.proofs.Texts.{listed-reply, reply-is, fitting}
use Rattle.text_listing.proofs.built.write_weighed.Goals as goal

pub store_weights-requires : goal.store_weights-requires
store_weights-requires c = let s = c.args in
    let h = c.requires.holds_code in
    record { n_in_bounds = (h-long _ _ _ _ _ _ _ _ _ _ _ h, omega (arith, c.requires.weights_len, h.few_edges)); by_index = h-few _ _ _ _ _ _ _ _ _ _ _ h }

pub crossing_of-reply-requires : goal.crossing_of-reply-requires
crossing_of-reply-requires c = holds-weights _ _ _ _ _ _ _ _ _ _ _ c.requires.holds_code _ _ c.store_weights.ensures

pub write_reply-requires : goal.write_reply-requires
write_reply-requires c = let s = c in
    let h = s.requires.holds_code in
    let k = holds-weights _ _ _ _ _ _ _ _ _ _ _ h _ _ c.store_weights.ensures in
    let w = lengths _ _ _ _ _ _ _ _ _ _ _ k in
    record { v_bound = (h.few_vertices, w.3, h.few_edges, w.0, w.1); e_in_bounds = w.2; reply_in_bounds = fitting (reply-is _ _ _ _ _ _ _ _ _ _ _ k c.crossing_of-reply.result c.crossing_of-reply.ensures) s.requires.max_in_bounds }

pub shape_of-weights : goal.shape_of-weights
shape_of-weights c = c.weights-1.given

pub shape_of-text : goal.shape_of-text
shape_of-text c = c.text-1.given

pub returns : goal.returns
returns c =
    let h = c.requires.holds_code in
    listed-reply _ _ _ _ _ _ _ _ _ c.crossing_of-reply.result _ _ (holds-weights _ _ _ _ _ _ _ _ _ _ _ h _ _ c.store_weights.ensures) c.crossing_of-reply.ensures c.write_reply.ensures
