-- `columns::VisualizePosition::load` meets its contract: `load_f64` promises each of the three coordinates. Assumes nothing.
use Rattle.columns.specs.Places.{position}
use Rattle.columns.proofs.VisualizePosition.load.Goals as goal

pub returns : goal.returns
returns c = λ k. position (c.load_f64.ensures k) (c.load_f64-2.ensures k) (c.load_f64-3.ensures k)
