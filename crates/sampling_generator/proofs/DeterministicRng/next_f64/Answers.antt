-- `sampling_generator::DeterministicRng::next_f64` meets its contract: `next_u64` promises the word and the next state, and the draw is the word's. Assumes nothing.
use Rattle.std.proofs.Common.{ℕ, ◌/◌, pos, ap, ◌∙◌}
use lib.Ieee.{Float, binary64, div, of_int, of_bits}
use Rattle.sampling_generator.specs.Random.{draw_of}
use Rattle.sampling_generator.proofs.DeterministicRng.next_f64.Goals as goal

pub returns : goal.returns
unfolding draw_of
returns c =
    let next = c.next_u64-next in
    (ap (λ (x : Float). div binary64 x (of_bits binary64 0x4330000000000000)) (c.nearest_u64_to_f64.ensures ∙ ap (λ (w : ℕ). of_int binary64 (pos (w / 4096))) next.ensures.0), next.ensures.1)
