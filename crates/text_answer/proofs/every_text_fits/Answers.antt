-- `text_answer::every_text_fits` meets its contract, a theorem of `proofs/Sizes.antt`. Assumes nothing.
use Rattle.text_answer.proofs.Sizes.{every_text_fits}
use Rattle.text_answer.proofs.every_text_fits.Goals as goal

pub returns : goal.returns
returns c = every_text_fits
