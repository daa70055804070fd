-- `prebuilt_claims::prebuilt_rows` meets its contract, a theorem of `proofs/Proved.antt`. Assumes nothing.
use Rattle.prebuilt_claims.proofs.Proved.{prebuilt_rows}
use Rattle.prebuilt_claims.proofs.prebuilt_rows.Goals as goal

pub returns : goal.returns
returns c = prebuilt_rows
