-- What a search left, read from columns cut to the vertices. Assumes nothing.
use mathlib.Core.Path.{◌≡◌, ap, ◌∙◌}
use Prim.Native.Nat.{ℕ, ◌<◌}
use native.Mathlib.Omega.{arith}
use lib.ListN.{length, get_or, take}
use Rattle.columns.specs.Limits.{sum_limit}
use Rattle.columns.proofs.Columns.{take-over}
use Rattle.engine_walks.specs.Graph.{Graph}
use Rattle.engine_walks.specs.Settling.{State}
use Rattle.query_relaxing.specs.Ready.{state_of}
use Rattle.query_questions.specs.Scratch.{ScratchColumns, SearchAfter}
use Rattle.query_search.specs.Search.{Settles}

module _ {g : Graph} {s : State} {scratch₀ scratch : ScratchColumns} (h : SearchAfter g s scratch₀ scratch) (ok : Settles g.vertices s) where
  pub status-read : take g.vertices scratch.status ≡ s.status
  status-read = ap (take g.vertices) h.status_after ∙ take-over s.status scratch₀.status g.vertices ok.status_fits

  pub weight-read : take g.vertices scratch.weight ≡ s.weight
  weight-read = ap (take g.vertices) h.weight_after ∙ take-over s.weight scratch₀.weight g.vertices ok.weight_fits

  pub previous-read : take g.vertices scratch.previous ≡ s.previous
  previous-read = ap (take g.vertices) h.previous_after ∙ take-over s.previous scratch₀.previous g.vertices ok.previous_fits

  pub state-read : state_of (take g.vertices scratch.status) (take g.vertices scratch.weight) (take g.vertices scratch.previous) ≡ s
  state-read = λ i. state_of (status-read i) (weight-read i) (previous-read i)

  pub status-length : length (take g.vertices scratch.status) ≡ g.vertices
  status-length = ap length status-read ∙ ok.status_fits
