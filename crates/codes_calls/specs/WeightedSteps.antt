-- What the private functions of this crate promise one another. No public contract cites it.
use Rattle.std.specs.Prelude.{ℕ, ◌≡◌, ◌⊎◌, Option, None, Float}

-- Weights, on the diagonal probability, sentence 1: only kind 4 has a diagonal probability.
abbrev pub DiagonalKind : (kind : ℕ) → Option Float → Type 0
DiagonalKind kind diagonal = (kind ≡ 4) ⊎ (diagonal ≡ None)
