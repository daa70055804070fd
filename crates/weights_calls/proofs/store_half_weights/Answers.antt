-- `weights_calls::store_half_weights` meets its contract: a table that holds one probability everywhere is right. Assumes nothing.
use Rattle.columns.specs.Places.{zero_float}
use Rattle.weights_calls.specs.Steps.{half_weight_of}
use Rattle.weights_calls.proofs.Tables.{one_known}
use Rattle.weights_calls.proofs.store_half_weights.Goals as goal

pub store_by_table-requires : goal.store_by_table-requires
store_by_table-requires c =
    let s = c in (
      s.requires.0,
      s.requires.1,
      one_known (half_weight_of s.args.max_half_weight s.args.largest) zero_float c.half_weight_of-half.result c.half_weight_of-half.ensures,
    )
