-- `c_codes::weighted::diagonal_from` meets its contract: each arm returns what `diagonal_from` has for the byte: none at 0, else the probability given. Assumes nothing.
use Prim.Native.Nat.{ℕ}
use mathlib.Core.Path.{sym, ap}
use Rattle.c_codes.specs.Arguments.{diagonal_from}
use Rattle.c_codes.proofs.Given.{diagonal_given}
use Rattle.c_codes.proofs.weighted.diagonal_from.Goals as goal

pub returns-then-has_diagonal-eq0 : goal.returns-then-has_diagonal-eq0
returns-then-has_diagonal-eq0 c = ap (λ (n : ℕ). diagonal_from n c.args.diagonal) (sym c.if-has_diagonal-eq0.true)

pub returns : goal.returns
returns c = diagonal_given c.args.has_diagonal c.args.diagonal c.if-has_diagonal-eq0.false
