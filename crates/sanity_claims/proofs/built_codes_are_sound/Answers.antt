-- `sanity_claims::built_codes_are_sound` meets its contract, a theorem of `proofs/Verdicts.antt`. Assumes nothing.
use Rattle.sanity_claims.proofs.Verdicts.{built_codes_are_sound}
use Rattle.sanity_claims.proofs.built_codes_are_sound.Goals as goal

pub returns : goal.returns
returns c = built_codes_are_sound
