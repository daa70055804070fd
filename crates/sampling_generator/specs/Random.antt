-- SplitMix64, Xoshiro256** and the draw, over 64-bit words, in the order of Blackman and Vigna's text.
-- Assumes nothing.
use Rattle.std.specs.Prelude.{ℕ, ◌+◌, ◌-◌, ◌*◌, ◌/◌, ◌%◌, ◌^◌, pos, bit_or, bit_xor, from_bits, Float}
use Rattle.std.specs.Float.{binary64}
use Rattle.std.specs.Float.Ieee.{div, of_int}
use Rattle.sampling_generator.specs.declared.DeterministicRng.{DeterministicRng}

-- Sampling, syndromes, reordering, paragraph 1, sentence 2: a sum that wraps at 64 bits.
abbrev pub wrapping_add : ℕ → ℕ → ℕ
wrapping_add a b = (a + b) % 2 ^ 64

-- Sampling, syndromes, reordering, paragraph 1, sentence 2: a product that wraps at 64 bits.
abbrev pub wrapping_mul : ℕ → ℕ → ℕ
wrapping_mul a b = (a * b) % 2 ^ 64

-- Sampling, syndromes, reordering, paragraph 1, sentence 3: x << k, over 64 bits.
abbrev pub shift_left : ℕ → ℕ → ℕ
shift_left x k = (x * 2 ^ k) % 2 ^ 64

-- Sampling, syndromes, reordering, paragraph 1, sentences 1 and 4: x >> k.
abbrev pub shift_right : ℕ → ℕ → ℕ
shift_right x k = x / 2 ^ k

-- Sampling, syndromes, reordering, paragraph 1, sentence 3: rotl(x, k), 64 bits turned left.
abbrev pub rotate_left : ℕ → ℕ → ℕ
rotate_left x k = bit_or (shift_left x k) (shift_right x (64 - k))

-- Sampling, syndromes, reordering, paragraph 1, sentence 1: z ^ (z >> k).
abbrev pub shift_xor : ℕ → ℕ → ℕ
shift_xor z k = bit_xor z (shift_right z k)

-- Sampling, syndromes, reordering, paragraph 1, sentence 1, SplitMix64: the state after one addition.
unfoldable pub split_mix_next : ℕ → ℕ
split_mix_next state = wrapping_add state 0x9e3779b97f4a7c15

-- Sampling, syndromes, reordering, paragraph 1, sentence 1, SplitMix64: the word that a state gives.
unfoldable pub split_mix_word : ℕ → ℕ
split_mix_word state =
    let z₁ = wrapping_mul (shift_xor state 30) 0xbf58476d1ce4e5b9 in
    let z₂ = wrapping_mul (shift_xor z₁ 27) 0x94d049bb133111eb in
    shift_xor z₂ 31

-- Sampling, syndromes, reordering, paragraph 1, sentence 1: the four state words that a seed gives, in order.
unfoldable pub seed_from_u64 : ℕ → DeterministicRng
seed_from_u64 seed =
    let state₁ = split_mix_next seed in
    let state₂ = split_mix_next state₁ in
    let state₃ = split_mix_next state₂ in
    let state₄ = split_mix_next state₃ in
    record {
      s0 = split_mix_word state₁;
      s1 = split_mix_word state₂;
      s2 = split_mix_word state₃;
      s3 = split_mix_word state₄;
    }

-- Sampling, syndromes, reordering, paragraph 1, sentence 3, Xoshiro256**: the word that a state gives.
unfoldable pub word_of : DeterministicRng → ℕ
word_of g = wrapping_mul (rotate_left (wrapping_mul g.s1 5) 7) 9

-- Sampling, syndromes, reordering, paragraph 1, sentence 3, Xoshiro256**: the next state.
-- t = s1 << 17, s2 ^= s0, s3 ^= s1, s1 ^= s2, s0 ^= s3, s2 ^= t, s3 = rotl(s3, 45)
unfoldable pub next_of : DeterministicRng → DeterministicRng
next_of g =
    let t = shift_left g.s1 17 in
    let s2 = bit_xor g.s2 g.s0 in
    let s3 = bit_xor g.s3 g.s1 in
    let s1 = bit_xor g.s1 s2 in
    let s0 = bit_xor g.s0 s3 in
    record { s0 = s0; s1 = s1; s2 = bit_xor s2 t; s3 = rotate_left s3 45 }

-- Sampling, syndromes, reordering, paragraph 1, sentence 4: the draw that a word gives, (word >> 12) / 2 ^ 52; 2 ^ 52 as an f64 has the bits 4330000000000000.
unfoldable pub draw_of : ℕ → Float
draw_of word = div binary64 (of_int binary64 (pos (shift_right word 12))) (from_bits binary64 0x4330000000000000)
