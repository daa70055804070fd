-- `text_listing::built::crossing_of` meets its contract: the arrays are as long as `crossing_in` requires. Assumes nothing.
use mathlib.Core.Path.{refl}
use Rattle.text_listing.proofs.built.crossing_of.Goals as goal

pub crossing_in-requires : goal.crossing_in-requires
crossing_in-requires c = record { holds_weights = c.requires; scratch_room = record { out_room = refl; numbers_room = refl; ends_room = refl; status_room = refl; weight_room = refl; previous_room = refl; node_room = refl; leaf_room = refl } }
