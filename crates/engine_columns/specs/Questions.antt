-- Questions 6 and 7 of the engine's calls.
use Rattle.std.specs.Prelude.{ℕ, ◌+◌, Bool, ◌&&◌, List, length, leb}
use Rattle.columns.specs.Questions.{weights_sound, boundaries_sound}
use Rattle.columns_neighbors.specs.Sound.{graph_sound, log_sound}
use Rattle.columns_room.specs.Room.{three_long}
use Rattle.engine_columns.specs.Records.{Engine}

-- Questions at the door, 6: ends, weights and boundary bytes as long as their counts.
unfoldable pub columns_long : (v e : ℕ) (a b w m : List ℕ) → Bool
columns_long v e a b w m = three_long e (length a) (length b) (length w) && leb v (length m)

-- Questions at the door, 6, of an engine graph: these columns, and a log with room for n entries more.
unfoldable pub engine_long : ℕ → Engine → Bool
engine_long n e =
    columns_long e.counts.vertices e.counts.edges e.ends_a e.ends_b e.weights e.boundary
    && (leb (e.counts.entries + n) (length e.log_edges) && leb (e.counts.entries + n) (length e.log_weights))

-- Questions at the door, 7: ends, weights and boundary bytes sound.
unfoldable pub columns_sound : (v e : ℕ) (a b w m : List ℕ) → Bool
columns_sound v e a b w m = graph_sound v e a b && (weights_sound e w && boundaries_sound v m)

-- Questions at the door, 7, of an engine graph: these columns, and the log entries.
unfoldable pub engine_sound : Engine → Bool
engine_sound e =
    columns_sound e.counts.vertices e.counts.edges e.ends_a e.ends_b e.weights e.boundary
    && log_sound e.counts.edges e.counts.entries e.log_edges e.log_weights
