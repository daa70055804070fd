-- `text_listing::every_code_crosses` meets its contract, a theorem of `proofs/Crosses.antt`. Assumes nothing.
use Rattle.text_listing.proofs.Crosses.{every-code_crosses}
use Rattle.text_listing.proofs.every_code_crosses.Goals as goal

pub returns : goal.returns
returns c = every-code_crosses
