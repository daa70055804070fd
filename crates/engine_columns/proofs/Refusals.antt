-- What the number 0 says of the columns. Assumes nothing.
use mathlib.Core.Path.{◌≡◌}
use mathlib.Core.Bool.{true, ◌&&◌}
use mathlib.Core.List.{List}
use Prim.Native.Nat.{ℕ, ◌+◌, ◌≤◌, ◌<◌}
use native.Mathlib.Omega.{arith}
use borrow.Author.Tests.{leb-true, le-leb, eqb-true}
use lib.ListN.{length, get_or, take}
use lib.Dec.{leb, eqb}
use Rattle.columns.specs.Limits.{weight_limit}
use Rattle.columns.specs.Questions.{ask, all_below, all_within, weights_sound, boundaries_sound}
use Rattle.columns.proofs.Tests.{and_both, both_and, below_at, below_first}
use Rattle.columns_neighbors.specs.Sound.{graph_sound, log_sound}
use Rattle.columns_room.specs.Room.{three_long}
use Rattle.columns_room.proofs.Refusals.{three_long_lem}
use Rattle.engine_columns.specs.Records.{Engine}
use Rattle.engine_columns.specs.Questions.{columns_long, engine_long, columns_sound, engine_sound}
use Rattle.engine_columns.specs.Calls.{load_weights, reset, engine_refusal}
use Rattle.engine_columns.specs.Open.{GraphColumns, open_refusal}
use Rattle.columns.proofs.Refusals.{met, goes_on}

-- ---- question 6

pub record ColumnsLong (v e : ℕ) (a b w m : List ℕ) : Type 0 where
  pub ends_a : e ≤ length a
  pub ends_b : e ≤ length b
  pub weights : e ≤ length w
  pub boundary : v ≤ length m

module _ (v e : ℕ) (a b w m : List ℕ) where
  pub columns-long-of : columns_long v e a b w m ≡ true → ColumnsLong v e a b w m
  unfolding columns_long
  columns-long-of h =
      let (t, s) = and_both (three_long e (length a) (length b) (length w)) _ h in
      let (p, q, r) = three_long_lem e _ _ _ t in
      record { ends_a = p; ends_b = q; weights = r; boundary = leb-true _ _ s }

  pub columns-long-from : ColumnsLong v e a b w m → columns_long v e a b w m ≡ true
  unfolding columns_long three_long
  columns-long-from l = both_and (both_and (le-leb _ _ l.ends_a) (both_and (le-leb _ _ l.ends_b) (le-leb _ _ l.weights))) (le-leb _ _ l.boundary)

pub record Long (n : ℕ) (e : Engine) : Type 0 where
  pub columns : ColumnsLong e.counts.vertices e.counts.edges e.ends_a e.ends_b e.weights e.boundary
  pub log_edges : e.counts.entries + n ≤ length e.log_edges
  pub log_weights : e.counts.entries + n ≤ length e.log_weights

pub long_of : (n : ℕ) (e : Engine) → engine_long n e ≡ true → Long n e
unfolding engine_long
long_of n e h =
    let (p, h₁) = and_both (columns_long e.counts.vertices e.counts.edges e.ends_a e.ends_b e.weights e.boundary) _ h in
    let (q, r) = and_both (leb (e.counts.entries + n) (length e.log_edges)) _ h₁ in
    record { columns = columns-long-of _ _ _ _ _ _ p; log_edges = leb-true _ _ q; log_weights = leb-true _ _ r }

pub long_from : (n : ℕ) (e : Engine) → Long n e → engine_long n e ≡ true
unfolding engine_long
long_from n e l = both_and (columns-long-from _ _ _ _ _ _ l.columns) (both_and (le-leb _ _ l.log_edges) (le-leb _ _ l.log_weights))

-- ---- question 7

pub record ColumnsSound (v e : ℕ) (a b w m : List ℕ) : Type 0 where
  pub graph : graph_sound v e a b ≡ true
  pub weights : weights_sound e w ≡ true
  pub boundary : boundaries_sound v m ≡ true

module _ (v e : ℕ) (a b w m : List ℕ) where
  pub columns-sound-of : columns_sound v e a b w m ≡ true → ColumnsSound v e a b w m
  unfolding columns_sound
  columns-sound-of h =
      let (p, h₁) = and_both (graph_sound v e a b) _ h in
      let (q, r) = and_both (weights_sound e w) _ h₁ in
      record { graph = p; weights = q; boundary = r }

  pub columns-sound-from : ColumnsSound v e a b w m → columns_sound v e a b w m ≡ true
  unfolding columns_sound
  columns-sound-from s = both_and s.graph (both_and s.weights s.boundary)

pub record Sound (e : Engine) : Type 0 where
  pub columns : ColumnsSound e.counts.vertices e.counts.edges e.ends_a e.ends_b e.weights e.boundary
  pub log_edges : all_below e.counts.edges (take e.counts.entries e.log_edges) ≡ true
  pub log_weights : weights_sound e.counts.entries e.log_weights ≡ true

pub sound_of : (e : Engine) → engine_sound e ≡ true → Sound e
unfolding engine_sound log_sound
sound_of e h =
    let (p, h₁) = and_both (columns_sound e.counts.vertices e.counts.edges e.ends_a e.ends_b e.weights e.boundary) _ h in
    let (q, r) = and_both (all_below e.counts.edges (take e.counts.entries e.log_edges)) _ h₁ in
    record { columns = columns-sound-of _ _ _ _ _ _ p; log_edges = q; log_weights = r }

pub sound_from : (e : Engine) → Sound e → engine_sound e ≡ true
unfolding engine_sound log_sound
sound_from e s = both_and (columns-sound-from _ _ _ _ _ _ s.columns) (both_and s.log_edges s.log_weights)

-- ---- what an accepted call says

-- the questions that the two loads share, before `rest`
abbrev pub shared : List ℕ → Engine → ℕ → ℕ
shared es e rest =
    ask (engine_long (length es) e) 6
    (ask (engine_sound e) 7
    (ask (eqb e.counts.entries 0) 12
    (ask (all_below e.counts.edges es) 13 rest)))

pub record Loads (es : List ℕ) (e : Engine) (rest : ℕ) : Type 0 where
  pub long : Long (length es) e
  pub sound : Sound e
  pub empty : e.counts.entries ≡ 0
  pub below : all_below e.counts.edges es ≡ true
  pub last : rest ≡ 0

pub loads_of : (es : List ℕ) (e : Engine) (rest : ℕ) → shared es e rest ≡ 0 → Loads es e rest
loads_of es e rest z =
    let q4 = ask (all_below e.counts.edges es) 13 rest in
    let q3 = ask (eqb e.counts.entries 0) 12 q4 in
    let q2 = ask (engine_sound e) 7 q3 in
    let z2 : q2 ≡ 0 = goes_on (engine_long (length es) e) 5 q2 z in
    let z3 : q3 ≡ 0 = goes_on (engine_sound e) 6 q3 z2 in
    let z4 : q4 ≡ 0 = goes_on (eqb e.counts.entries 0) 11 q4 z3 in
    record {
      long = long_of (length es) e (met (engine_long (length es) e) 5 q2 z);
      sound = sound_of e (met (engine_sound e) 6 q3 z2);
      empty = eqb-true _ _ (met (eqb e.counts.entries 0) 11 q4 z3);
      below = met (all_below e.counts.edges es) 12 rest z4;
      last = goes_on (all_below e.counts.edges es) 12 rest z4;
    }

-- each edge that an accepted load names
pub named_of : (es : List ℕ) (e : Engine) (rest : ℕ) → Loads es e rest → (i : ℕ) → i < length es → get_or es i 0 < e.counts.edges
named_of es e rest l i h = below_at e.counts.edges es l.below i h

-- what an accepted load of weights says besides
pub record Weighed (es xs : List ℕ) (e : Engine) : Type 0 where
  pub many : length es ≡ length xs
  pub loads : Loads es e (ask (all_within weight_limit xs) 15 0)
  pub fit : all_within weight_limit xs ≡ true

pub weighed_of_lem : (es xs : List ℕ) (e : Engine) → engine_refusal (load_weights es xs) e ≡ 0 → Weighed es xs e
weighed_of_lem es xs e z =
    let q = shared es e (ask (all_within weight_limit xs) 15 0) in
    let l : Loads es e (ask (all_within weight_limit xs) 15 0) =
    loads_of es e (ask (all_within weight_limit xs) 15 0) (goes_on (eqb (length es) (length xs)) 5 q z) in
    record {
      many = eqb-true _ _ (met (eqb (length es) (length xs)) 5 q z);
      loads = l;
      fit = met (all_within weight_limit xs) 14 0 l.last;
    }

-- what an accepted reset says, and any call that asks 6 and 7 alone
module _ (e : Engine) (z : engine_refusal reset e ≡ 0) where
  pub reset-long : Long 0 e
  reset-long = long_of 0 e (met (engine_long 0 e) 5 (ask (engine_sound e) 7 0) z)

  pub reset-sound : Sound e
  reset-sound = sound_of e (met (engine_sound e) 6 0 (goes_on (engine_long 0 e) 5 (ask (engine_sound e) 7 0) z))

  pub reset-named : (i : ℕ) → i < e.counts.entries → get_or e.log_edges i 0 < e.counts.edges
  reset-named i h = below_first e.counts.edges e.counts.entries e.log_edges reset-sound.log_edges (omega (arith, reset-long.log_edges)) i h

-- what an accepted open says
pub record Opens (v e : ℕ) (handed lent : GraphColumns) : Type 0 where
  pub from : ColumnsLong v e handed.ends_a handed.ends_b handed.weights handed.boundary
  pub to : ColumnsLong v e lent.ends_a lent.ends_b lent.weights lent.boundary
  pub sound : ColumnsSound v e handed.ends_a handed.ends_b handed.weights handed.boundary

pub opens_of : (v e : ℕ) (h l : GraphColumns) → open_refusal v e h l ≡ 0 → Opens v e h l
opens_of v e h l z =
    let f = columns_long v e h.ends_a h.ends_b h.weights h.boundary in
    let t = columns_long v e l.ends_a l.ends_b l.weights l.boundary in
    let s = columns_sound v e h.ends_a h.ends_b h.weights h.boundary in
    let (p, q) = and_both f t (met (f && t) 5 (ask s 7 0) z) in
    record {
      from = columns-long-of _ _ _ _ _ _ p;
      to = columns-long-of _ _ _ _ _ _ q;
      sound = columns-sound-of _ _ _ _ _ _ (met s 6 0 (goes_on (f && t) 5 (ask s 7 0) z));
    }
