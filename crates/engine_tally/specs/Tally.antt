-- The tally of document 01's "Engine": what a list of calls says by itself, from the calls' arguments and the lengths of the columns they are lent.
-- "Engine, Tally" is the paragraph of that section that begins "Demand 3 is one claim".
use Rattle.std.specs.Prelude.{ℕ, ◌+◌, Bool, cond, ◌&&◌, List, [], ◌∷◌, length, take, leb, eqb}
use Rattle.columns.specs.Limits.{weight_limit}
use Rattle.columns.specs.Questions.{ask, all_below, all_within}
use Rattle.columns_room.specs.Room.{three_long}
use Rattle.engine_columns.specs.declared.EngineCounts.{EngineCounts}
use Rattle.engine_columns.specs.Records.{Engine, counts}
use Rattle.engine_log.specs.Load.{loaded, erased, given}
use Rattle.engine_columns.specs.Calls.{Call, load_erasures, load_weights, reset}
use Rattle.engine_columns.specs.Open.{GraphColumns}

-- Engine, Tally, sentence 5: the lengths of the columns that a call is lent.
pub record Lengths : Type 0 where
  pub ends_a : ℕ
  pub ends_b : ℕ
  pub weights : ℕ
  pub boundary : ℕ
  pub log_edges : ℕ
  pub log_weights : ℕ

-- Engine, Tally, sentence 5: the lengths of an engine graph's columns.
abbrev pub lengths_of : Engine → Lengths
lengths_of e = record {
  ends_a = length e.ends_a;
  ends_b = length e.ends_b;
  weights = length e.weights;
  boundary = length e.boundary;
  log_edges = length e.log_edges;
  log_weights = length e.log_weights;
}

-- Engine, Tally, sentence 6: a weight for each edge, the ends and boundary bytes handed to open, the opening weights, and the counts with that of log entries.
pub record Tally : Type 0 where
  pub counts : EngineCounts
  pub ends_a : List ℕ
  pub ends_b : List ℕ
  pub boundary : List ℕ
  pub opening : List ℕ
  pub weights : List ℕ

-- Engine, Tally, sentence 6: the tally at first, from what was handed to open.
abbrev pub tally_of : (v e : ℕ) → GraphColumns → Tally
tally_of v e handed = record {
  counts = counts v e 0;
  ends_a = take e handed.ends_a;
  ends_b = take e handed.ends_b;
  boundary = take v handed.boundary;
  opening = take e handed.weights;
  weights = take e handed.weights;
}

-- Engine, Tally, sentence 7; Questions at the door, 6: from the lengths, with room in the log for n entries more.
abbrev pub tally_long : ℕ → Lengths → EngineCounts → Bool
tally_long n k c =
    (three_long c.edges k.ends_a k.ends_b k.weights && leb c.vertices k.boundary)
    && (leb (c.entries + n) k.log_edges && leb (c.entries + n) k.log_weights)

-- Engine, Tally, sentence 7: the tally's answer to the questions of a load or a reset; 7 is always met.
abbrev pub tally_refusal : Call → Lengths → Tally → ℕ
tally_refusal (load_erasures es) k t =
    ask (tally_long (length es) k t.counts) 6
    (ask (eqb t.counts.entries 0) 12
    (ask (all_below t.counts.edges es) 13 0))
tally_refusal (load_weights es xs) k t =
    ask (eqb (length es) (length xs)) 6
    (ask (tally_long (length es) k t.counts) 6
    (ask (eqb t.counts.entries 0) 12
    (ask (all_below t.counts.edges es) 13
    (ask (all_within weight_limit xs) 15 0))))
tally_refusal reset k t = ask (tally_long 0 k t.counts) 6 0

-- Engine, Tally, sentences 8 and 9: the tally with other weights and another count of log entries.
abbrev pub with_weights : Tally → ℕ → List ℕ → Tally
with_weights t n w = record {
  counts = counts t.counts.vertices t.counts.edges n;
  ends_a = t.ends_a;
  ends_b = t.ends_b;
  boundary = t.boundary;
  opening = t.opening;
  weights = w;
}

-- Engine, Tally, sentences 8 and 9: the tally after an accepted call: a load goes through its list in order, reset puts every opening weight back.
abbrev pub tallied : Call → Tally → Tally
tallied (load_erasures es) t = with_weights t (t.counts.entries + length es) (loaded es erased (length es) t.weights)
tallied (load_weights es xs) t = with_weights t (t.counts.entries + length es) (loaded es (given xs) (length es) t.weights)
tallied reset t = with_weights t 0 t.opening

-- Engine, Tally, sentence 5: what the tally is fed of a call: its arguments and the lengths of the columns it is lent.
pub record Fed : Type 0 where
  pub call : Call
  pub lent : Lengths

-- Engine, Tally, sentence 7: whether the tally accepts a call.
abbrev pub is_accepted : Fed → Tally → Bool
is_accepted f t = eqb (tally_refusal f.call f.lent t) 0

-- Engine, Tally, sentences 8 to 10: the tally after a call; refused calls leave it.
abbrev pub tally_step : Fed → Tally → Tally
tally_step f t = cond (is_accepted f t) (tallied f.call t) t

-- Engine, Tally, sentence 4: the tally at the end of a list of loads and resets.
abbrev pub tally_after : List Fed → Tally → Tally
tally_after [] t = t
tally_after (f ∷ fs) t = tally_after fs (tally_step f t)

-- Engine, Tally, sentence 7: each call's number, 0 where it is accepted.
abbrev pub tally_numbers : List Fed → Tally → List ℕ
tally_numbers [] t = []
tally_numbers (f ∷ fs) t = tally_refusal f.call f.lent t ∷ tally_numbers fs (tally_step f t)
