-- `sampling_generator::DeterministicRng::next_u64` meets its contract: the callees promise the word, and the state words are made as defined. Assumes nothing.
use Rattle.std.proofs.Common.{ℕ, ap, ◌∙◌}
use lib.Bits.{bit_xor}
use Rattle.sampling_generator.specs.Random.{word_of, next_of, wrapping_mul, rotate_left, shift_left}
use Rattle.sampling_generator.proofs.DeterministicRng.next_u64.Goals as goal

pub returns : goal.returns
unfolding word_of next_of
returns c =
    let g = c.args.self in (
      c.wrapping_mul-word.ensures ∙ ap (λ (x : ℕ). wrapping_mul x 9) (c.rotate_left.ensures ∙ ap (λ (x : ℕ). rotate_left x 7) c.wrapping_mul.ensures),
      ap (λ (x : ℕ). record { s0 = bit_xor g.s0 (bit_xor g.s3 g.s1); s1 = bit_xor g.s1 (bit_xor g.s2 g.s0); s2 = bit_xor (bit_xor g.s2 g.s0) (shift_left g.s1 17); s3 = x }) c.rotate_left-2.ensures,
    )
