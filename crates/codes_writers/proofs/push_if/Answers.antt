-- `codes_writers::push_if` meets its contract: where met holds `push` writes the one edge of `when`, else `when` is empty and nothing is written. Assumes nothing.
use mathlib.Core.Path.{sym, ap}
use mathlib.Core.Bool.{Bool}
use native.Mathlib.Omega.{arith}
use lib.ListN.{length}
use Rattle.columns.specs.Lists.{when}
use Rattle.codes_writers.specs.Edges.{Ends}
use Rattle.codes_writers.proofs.Wrote.{wrote_as, wrote_none}
use Rattle.codes_writers.proofs.push_if.Goals as goal

pub push-requires : goal.push-requires
push-requires c = omega (arith, c.requires.room_a, c.requires.room_b, ap (λ (m : Bool). length (when {A = Ends} m (c.args.a.0, c.args.b.0))) c.if-met.true)

pub shape_of-ends_a-then-met : goal.shape_of-ends_a-then-met
shape_of-ends_a-then-met c = c.ends_a-1.given

pub shape_of-ends_b-then-met : goal.shape_of-ends_b-then-met
shape_of-ends_b-then-met c = c.ends_b-1.given

pub returns-then-met : goal.returns-then-met
returns-then-met c = wrote_as (ap (λ (m : Bool). when m (c.args.a.0, c.args.b.0)) (sym c.if-met.true)) c.push.ensures

pub returns : goal.returns
returns c = wrote_as (ap (λ (m : Bool). when m (c.args.a.0, c.args.b.0)) (sym c.if-met.false)) wrote_none
