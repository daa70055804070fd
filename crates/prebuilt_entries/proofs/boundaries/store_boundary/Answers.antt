-- `prebuilt_entries::boundaries::store_boundary` meets its contract: the place is one of the vertices, which are few. Assumes nothing.
use native.Mathlib.Omega.{arith}
use lib.ListN.{length}
use Rattle.prebuilt_entries.proofs.Places.{place_some}
use Rattle.prebuilt_entries.proofs.boundaries.store_boundary.Goals as goal

pub overflow_cast-weight : goal.overflow_cast-weight
overflow_cast-weight c = let a = c.args in omega (arith, (place_some a.boundary.now a.least.now (length a.least.now) a.v _ c.in-Some.ensures).0, c.requires)
