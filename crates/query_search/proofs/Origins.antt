-- The sources of a search, wherever it begins. Assumes nothing.
use mathlib.Core.Path.{◌≡◌, refl, ap}
use mathlib.Core.List.{List}
use Prim.Native.Nat.{ℕ}
use lib.ListN.{length}
use Rattle.engine_walks.specs.Settling.{settled}
use Rattle.query_relaxing.specs.Ready.{graph_of, sources, end_of}
use Rattle.query_search.specs.declared.Origin.{Origin}
use Rattle.query_search.specs.declared.Origin.TheVariants.{At, Left}
use Rattle.query_search.specs.Search.{Starts, first_status, stop_in, state_from}
use Rattle.query_search.proofs.OneSource.{sources-only, waiting-one}
use Rattle.query_search.proofs.LeftSources.{waiting-left, settled-left}
use Rattle.query_search.proofs.Listing.{Waiting}

module _ (n : ℕ) (a b m : List ℕ) (fits : length m ≡ n) where
  pub first-waits : (o : Origin) → Starts o n → Waiting n (first_status o m n) (stop_in o n)
  first-waits (At s stop) h = waiting-one n s.0 h.0 stop.0 h.1
  first-waits Left h = waiting-left n a b m fits n refl

  pub first-settled : (o : Origin) → Starts o n → (w : ℕ → ℕ) → settled (graph_of n a b m) w (sources (first_status o m n)) (end_of n (stop_in o n)) ≡ state_from o (graph_of n a b m) w
  first-settled (At s stop) h w = ap (λ f. settled (graph_of n a b m) w f (end_of n stop.0)) (sources-only n s.0 h.0)
  first-settled Left h w = settled-left n a b m fits w
