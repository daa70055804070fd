-- `sampling_calls::generate_random_errors` meets its contract: where no question fails `sample_edges` draws from the seed, and both lists are written. Assumes nothing.
use mathlib.Core.Path.{sym}
use native.Mathlib.Omega.{arith}
use Rattle.sampling_generator.specs.Random.{seed_from_u64}
use Rattle.columns_room.specs.Graph.{code_graph}
use Rattle.sampling_calls.proofs.Accepting.{fits_of, left-accepted}
use Rattle.sampling_calls.proofs.Draws.{sampling_met, sampled_from, sampled-defect, sampled-erasure, length-sampled_defects, length-sampled_erasures}
use Rattle.sampling_calls.proofs.generate_random_errors.Goals as goal

pub sample_edges-requires : goal.sample_edges-requires
sample_edges-requires c =
    let k = sampling_met _ _ _ _ (sym c.in_ok-sampling_refusal.ensures) in
    record { fits = fits_of _ _ k.long k.sound (omega (arith, k.lists.long_defect)); edge_num_in_bounds = (k.long_p, k.long_pe, k.lists.long_erasure) }

pub list_set-defects-requires : goal.list_set-defects-requires
list_set-defects-requires c =
    let k = sampling_met _ _ _ _ (sym c.in_ok-sampling_refusal.ensures) in
    (omega (arith, k.lists.long_defect), k.lists.long_defects)

pub list_set-erasures-requires : goal.list_set-erasures-requires
list_set-erasures-requires c =
    let k = sampling_met _ _ _ _ (sym c.in_ok-sampling_refusal.ensures) in
    (omega (arith, k.lists.long_erasure), k.lists.long_erasures)

pub returns : goal.returns
returns c =
    let a = c.args in
    let g = code_graph a.vertex_num a.edge_num a.ends_a.now a.ends_b.now a.boundary.now in
    let z = sym c.in_ok-sampling_refusal.ensures in
    let k = sampling_met _ _ _ _ z in
    let r = seed_from_u64 a.seed in
    let this = sampled_from c.seed_from_u64-rng.ensures c.sample_edges.ensures in
    let x = c.list_set-defects.ensures in
    let y = c.list_set-erasures.ensures in
    left-accepted _ _ _ _ _ _ _ z (length-sampled_defects r g a.p.now a.pe.now) (length-sampled_erasures r a.pe.now a.edge_num)
    (sampled-defect r g _ _ _ _ k.sound k.lists.long_defect k.lists.long_erasure c.fill.ensures this)
    (sampled-erasure r g _ _ _ _ k.sound k.lists.long_defect k.lists.long_erasure c.fill.ensures this)
    x.0 x.1 y.0 y.1
