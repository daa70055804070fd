-- `prebuilt_entries::nearest::nearest_place` meets its contract. Invariant: best is the nearest of the first u vertices. Assumes nothing.
use mathlib.Core.Path.{◌≡◌, ap, ◌∙◌}
use mathlib.Core.Bool.{cond, ◌&&◌}
use native.Mathlib.Omega.{arith}
use lib.ListN.{length, get_or}
use Rattle.engine_walks.specs.Answers.{weight_in}
use Rattle.prebuilt_entries.specs.Entries.{is_virtual}
use Rattle.prebuilt_entries.specs.Nearest.{is_reached, nearer_of, place_found, nearest_in}
use Rattle.prebuilt_entries.proofs.Places.{place_none, place-next}
use Rattle.prebuilt_entries.proofs.nearest.nearest_place.Goals as goal

pub loop-u-init : goal.loop-u-init
loop-u-init c = place_none c.args.boundary.now c.args.least.now

pub loop-u-preserved : goal.loop-u-preserved
loop-u-preserved c =
    let bytes = c.args.boundary.now in
    let least = c.args.least.now in
    let u = c.loop-u.u in
    c.nearer-best.ensures ∙ ap (λ b. cond (is_virtual (get_or bytes u 0) && is_reached (weight_in least u)) (nearer_of least u b) b) c.loop-u.invariant ∙ place-next bytes least u

pub returns : goal.returns
returns c =
    let least = c.args.least.now in
    let e : c.loop-u.u ≡ length least = omega arith in c.loop-u.invariant ∙ ap (λ n. place_found (nearest_in c.args.boundary.now least n)) e
