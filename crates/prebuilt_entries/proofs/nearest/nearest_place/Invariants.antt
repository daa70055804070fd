-- `prebuilt_entries::nearest::nearest_place` meets its contract. Invariant: best is the nearest of the first u vertices. Assumes nothing.
use mathlib.Core.Path.{◌≡◌}
use Rattle.prebuilt_entries.specs.Nearest.{place_found, nearest_in}
use Rattle.prebuilt_entries.proofs.nearest.nearest_place.Given as goal

abbrev pub invariant-loop-u : goal.invariant-loop-u
invariant-loop-u l = l.best ≡ place_found (nearest_in l.boundary l.least l.u)
