-- `sanity_pairs::duplicates` meets its contract: the first edge that joins the pair of an earlier one is the finding. Assumes nothing.
use native.Mathlib.Omega.{arith}
use Rattle.sanity_pairs.proofs.SamePairs.{repeat_found}
use Rattle.sanity_pairs.proofs.duplicates.Goals as goal

pub returns : goal.returns
returns c = let s = c.args in repeat_found s.a.now s.b.now s.edge_num c.first_later-later.result c.first_later-later.ensures c.first_same-earlier.result (omega arith) c.first_same-earlier.ensures
