-- `sanity_verdicts::lists::vertices_by_stamps` meets its contract: the array of stamps holds 0 alone, and of no place the last one is known. Assumes nothing.
use native.Mathlib.Omega.{arith}
use Rattle.columns_pairs.proofs.PairTests.{zeros_at}
use Rattle.sanity_verdicts.proofs.lists.vertices_by_stamps.Goals as goal

pub vertices_in-requires-clause-below : goal.vertices_in-requires-clause-below
vertices_in-requires-clause-below c = (record { most = λ x h. omega (arith, zeros_at 32768 x) }, record { long = omega arith; at = λ k h. absurd (omega arith) })
