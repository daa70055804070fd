-- `weights_questions::zero_or_one` meets its contract: what equals 0 is no NaN, and what does not is no plus zero, as 1 is none. Assumes nothing.
use mathlib.Core.Path.{refl, sym, ◌∙◌, subst}
use lib.Ieee.{binary64, fits}
use lib.Dec.{T}
use Rattle.weights_recipe.proofs.Floats.{equal_no_nan, unequal_zero, one_number, one_not_zero}
use Rattle.weights_questions.proofs.zero_or_one.Goals as goal

pub returns-then-p : goal.returns-then-p
returns-then-p c = (equal_no_nan c.args.p _ c.if-p.true, refl)

pub returns-else-p : goal.returns-else-p
returns-else-p c = (one_number, one_not_zero ∙ sym (unequal_zero c.args.p ((let it : T (fits binary64 c.args.p) = subst T (sym c.well_formed.0.1) tt in it)) c.if-p.false))
