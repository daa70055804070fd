-- `prebuilt_calls::nearest::boundary_vertex` meets its contract: the place is one of the vertices, which are few. Assumes nothing.
use native.Mathlib.Omega.{arith}
use lib.ListN.{length, take}
use lib.Seq.{length-take-le}
use Rattle.prebuilt_entries.proofs.Places.{place_some}
use Rattle.prebuilt_calls.proofs.nearest.boundary_vertex.Goals as goal

pub overflow_cast-result : goal.overflow_cast-result
overflow_cast-result c =
    let a = c.args in
    let l = take a.n a.least.now in
    omega (arith, (place_some (take a.n a.boundary.now) l (length l) a.v.0 _ c.in_ok-u.ensures).0, length-take-le a.n a.least.now c.requires.1, c.requires)
