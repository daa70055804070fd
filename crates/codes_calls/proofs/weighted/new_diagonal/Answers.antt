-- `codes_calls::weighted::new_diagonal` meets its contract: `build` promises it, and with kind 4 it takes any diagonal probability. Assumes nothing.
use mathlib.Core.Path.{refl}
use mathlib.Core.Logic.{inl}
use Rattle.codes_calls.proofs.weighted.new_diagonal.Goals as goal

pub build-requires : goal.build-requires
build-requires c = inl refl
