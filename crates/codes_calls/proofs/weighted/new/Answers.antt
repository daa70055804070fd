-- `codes_calls::weighted::new` meets its contract: `build` promises it for the diagonal that `diagonal_of` promises, which is none unless kind is 4. Assumes nothing.
use mathlib.Core.Path.{sym, subst}
use Rattle.codes_calls.specs.WeightedSteps.{DiagonalKind}
use Rattle.codes_calls.proofs.WeightedOutcome.{diagonal_kind, with_diagonal}
use Rattle.codes_calls.proofs.weighted.new.Goals as goal

pub build-requires : goal.build-requires
build-requires c = subst (DiagonalKind c.args.kind) (sym c.diagonal_of.ensures) (diagonal_kind c.args.kind c.args.probability)

pub returns : goal.returns
returns c = with_diagonal _ _ c.diagonal_of.ensures c.build.ensures
