-- `weights_calls::largest_weight` meets its contract. A table that holds one probability everywhere is right. Assumes nothing.
use Rattle.columns.specs.Places.{zero_float}
use Rattle.weights_recipe.specs.Logarithm.{edge_weight}
use Rattle.weights_calls.proofs.Tables.{one_known}
use Rattle.weights_calls.proofs.largest_weight.Goals as goal

pub largest_by_table-requires : goal.largest_by_table-requires
largest_by_table-requires c = one_known edge_weight zero_float c.edge_weight-w.result c.edge_weight-w.ensures
