-- What the columns have in common with the tally after every list of calls. Assumes nothing.
use mathlib.Core.Path.{◌≡◌, refl, sym, ap, ◌∙◌}
use mathlib.Core.Bool.{Bool, true, false, cond}
use mathlib.Core.List.{List, []}
use Prim.Native.Nat.{ℕ, ◌+◌, ◌≤◌, ◌<◌}
use native.Mathlib.Omega.{arith}
use borrow.Author.Tests.{eqb-true}
use lib.ListN.{length, get_or, take, length-take}
use lib.Seq.{get_or-take}
use lib.Dec.{eqb}
use Rattle.columns.specs.Limits.{weight_limit}
use Rattle.columns.specs.Lists.{over}
use Rattle.columns.specs.Questions.{all_below, all_within}
use Rattle.columns.proofs.Tests.{within_at, at_below, at_within, within_first}
use Rattle.columns.proofs.Columns.{take-over, over-in, length_over, after-accepted}
use Rattle.columns_neighbors.specs.Sound.{SoundGraph}
use Rattle.columns_neighbors.proofs.Ends.{graph-says, says-graph}
use Rattle.engine_columns.specs.declared.EngineCounts.{EngineCounts}
use Rattle.std.specs.Prelude.{Result}
use Rattle.columns.specs.declared.refusal.Refusal.{Refusal}
use Rattle.columns.specs.Refusals.{question_of}
use Rattle.columns_answers.proofs.Said.{question-of}
use Rattle.engine_columns.specs.Records.{Engine, engine, counts}
use Rattle.engine_log.specs.Load.{loaded, earlier, named, undone, erased, given}
use Rattle.engine_columns.specs.Questions.{columns_long, engine_long}
use Rattle.engine_columns.specs.Calls.{Call, load_erasures, load_weights, reset, engine_refusal, changed, loaded_by, Modified}
use Rattle.engine_columns.specs.Open.{GraphColumns, open_refusal, Opened}
use Rattle.engine_tally.specs.Tally.{lengths_of, Tally, tally_of, tally_long, tally_refusal, with_weights, tallied, tally_step}
use Rattle.engine_log.proofs.Loads.{loaded-length, named-length, earlier-length, undone-length, undo_load, take-loaded, within_loaded, named_at, earlier_at}
use Rattle.engine_columns.proofs.Refusals.{Long, Sound, Opens, opens_of, sound_from, Loads, loads_of, named_of, Weighed, weighed_of_lem}

-- what holds of the columns after every list of calls
pub record Agrees (t : Tally) (e : Engine) : Type 0 where
  pub counts_are : e.counts ≡ t.counts
  pub ends_a_are : take t.counts.edges e.ends_a ≡ t.ends_a
  pub ends_b_are : take t.counts.edges e.ends_b ≡ t.ends_b
  pub boundary_are : take t.counts.vertices e.boundary ≡ t.boundary
  pub weights_are : take t.counts.edges e.weights ≡ t.weights
  -- undoing the log gives the opening weights, which are sound
  pub back : take t.counts.edges (undone e.log_edges e.log_weights e.counts.entries e.weights) ≡ t.opening
  pub opening_sound : all_within weight_limit t.opening ≡ true
  pub long : Long 0 e
  pub sound : Sound e

pub long_same : (n : ℕ) (e : Engine) (c : EngineCounts) → e.counts ≡ c → engine_long n e ≡ tally_long n (lengths_of e) c
unfolding engine_long columns_long
long_same n e c h = rw h

-- the engine's questions are the tally's
pub refusal_same : (call : Call) (t : Tally) (e : Engine) → Agrees t e → engine_refusal call e ≡ tally_refusal call (lengths_of e) t
refusal_same (load_erasures es) t e a = rw (sound_from e a.sound, long_same (length es) e t.counts a.counts_are, a.counts_are)
refusal_same (load_weights es xs) t e a = rw (sound_from e a.sound, long_same (length es) e t.counts a.counts_are, a.counts_are)
refusal_same reset t e a = rw (sound_from e a.sound, long_same 0 e t.counts a.counts_are)

-- an accepted load keeps the agreement
module _ (es : List ℕ) (x : ℕ → ℕ) (t : Tally) (e : Engine) (a : Agrees t e) (l : Long (length es) e) (z : e.counts.entries ≡ 0)
    (inside : (i : ℕ) → i < length es → get_or es i 0 < e.counts.edges) (fit : (i : ℕ) → i < length es → x i ≤ weight_limit) where
  -- the weights after the first i entries are sound
  so_far : (i : ℕ) → i ≤ length es → all_within weight_limit (take e.counts.edges (loaded es x i e.weights)) ≡ true
  so_far i h =
      ap (all_within weight_limit) (take-loaded e.counts.edges es x i e.weights (λ j g. inside j (omega arith)))
      ∙ within_loaded weight_limit es x i (take e.counts.edges e.weights) a.sound.columns.weights (λ j g. fit j (omega arith))

  load-sound : Sound (loaded_by es x e)
  load-sound =
      let s = a.sound in
      let n = length es in
      let w = e.weights in
      record {
        columns = record { graph = s.columns.graph; weights = so_far n (omega arith); boundary = s.columns.boundary };
        log_edges = at_below e.counts.edges (take n (named es n e.log_edges))
            (λ i h. let i_in : i < n = omega (arith, length-take n (named es n e.log_edges)) in
            rw (get_or-take n (named es n e.log_edges) i 0 i_in, named_at es n e.log_edges i i_in (omega (arith, l.log_edges))) (inside i i_in));
        log_weights = at_within weight_limit (take n (earlier es x n w e.log_weights))
            (λ i h. let i_in : i < n = omega (arith, length-take n (earlier es x n w e.log_weights)) in
            rw (get_or-take n (earlier es x n w e.log_weights) i 0 i_in, earlier_at es x n w e.log_weights i i_in (omega (arith, l.log_weights)))
            (within_first weight_limit e.counts.edges (loaded es x i w) (so_far i (omega arith)) (omega (arith, loaded-length es x i w, l.columns.weights)) (get_or es i 0) (inside i i_in)));
      }

  load-long : Long 0 (loaded_by es x e)
  load-long = record {
    columns = record {
      ends_a = l.columns.ends_a;
      ends_b = l.columns.ends_b;
      weights = rw loaded-length l.columns.weights;
      boundary = l.columns.boundary;
    };
    log_edges = rw named-length (omega (arith, l.log_edges));
    log_weights = rw earlier-length (omega (arith, l.log_weights));
  }

  load-agrees : Agrees (with_weights t (t.counts.entries + length es) (loaded es x (length es) t.weights)) (loaded_by es x e)
  load-agrees =
      let n = length es in
      let w = e.weights in
      let zt : t.counts.entries ≡ 0 = sym (ap (λ (c : EngineCounts). c.entries) a.counts_are) ∙ z in
      let q : t.counts.entries + n ≡ n = omega arith in
      let in_t : (i : ℕ) → i < n → get_or es i 0 < t.counts.edges = λ i h. rw (← a.counts_are) (inside i h) in
      record {
        counts_are = rw (q, a.counts_are);
        ends_a_are = a.ends_a_are;
        ends_b_are = a.ends_b_are;
        boundary_are = a.boundary_are;
        weights_are = take-loaded t.counts.edges es x n w in_t ∙ ap (loaded es x n) a.weights_are;
        back =
            ap (take t.counts.edges) (undo_load es x n w e.log_edges e.log_weights (omega (arith, l.log_edges)) (omega (arith, l.log_weights)))
            ∙ rw z at a.back;
        opening_sound = a.opening_sound;
        long = load-long;
        sound = load-sound;
      }

-- an accepted reset keeps the agreement
reset_agrees : (t : Tally) (e : Engine) → Agrees t e → Agrees (tallied reset t) (changed reset e)
reset_agrees t e a =
    let s = a.sound in
    let u = undone e.log_edges e.log_weights e.counts.entries e.weights in
    let b : take e.counts.edges u ≡ t.opening = ap (λ (c : EngineCounts). take c.edges u) a.counts_are ∙ a.back in
    record {
      counts_are = rw a.counts_are;
      ends_a_are = a.ends_a_are;
      ends_b_are = a.ends_b_are;
      boundary_are = a.boundary_are;
      weights_are = a.back;
      back = a.back;
      opening_sound = a.opening_sound;
      long = record {
        columns = record {
          ends_a = a.long.columns.ends_a;
          ends_b = a.long.columns.ends_b;
          weights = rw undone-length a.long.columns.weights;
          boundary = a.long.columns.boundary;
        };
        log_edges = omega arith;
        log_weights = omega arith;
      };
      sound = record {
        columns = record { graph = s.columns.graph; weights = rw b a.opening_sound; boundary = s.columns.boundary };
        log_edges = none_below;
        log_weights = none_within;
      };
    }
  where
    none_below : all_below e.counts.edges [] ≡ true
    none_below = at_below e.counts.edges [] (λ i h. absurd (omega arith))

    none_within : all_within weight_limit [] ≡ true
    none_within = at_within weight_limit [] (λ i h. absurd (omega arith))

-- an accepted call keeps the agreement
pub accepted_agrees : (call : Call) (t : Tally) (e : Engine) → Agrees t e → engine_refusal call e ≡ 0 → Agrees (tallied call t) (changed call e)
accepted_agrees (load_erasures es) t e a z =
    let l : Loads es e 0 = loads_of es e 0 z in
    load-agrees es erased t e a l.long l.empty (named_of es e 0 l) (λ i h. omega arith)
accepted_agrees (load_weights es xs) t e a z =
    let w : Weighed es xs e = weighed_of_lem es xs e z in
    load-agrees es (given xs) t e a w.loads.long w.loads.empty (named_of es e _ w.loads)
    (λ i h. within_at weight_limit xs w.fit i (rw (← w.many) h))
accepted_agrees reset t e a z = reset_agrees t e a

-- one call
pub step_agrees : (call : Call) (t : Tally) (e e₁ : Engine) (r : Result EngineCounts Refusal) → Agrees t e → Modified call e r e₁
    → (question_of r ≡ tally_refusal call (lengths_of e) t) × Agrees (tally_step (record { call = call; lent = lengths_of e }) t) e₁
step_agrees call t e e₁ r a s = (
  question-of r s.answers ∙ refusal_same call t e a,
  rw (s.engine_after, ← refusal_same call t e a) (go (eqb (engine_refusal call e) 0) refl),
)
  where
    go : (b : Bool) → eqb (engine_refusal call e) 0 ≡ b → Agrees (cond b (tallied call t) t) (cond b (changed call e) e)
    go true h = accepted_agrees call t e a (eqb-true _ _ h)
    go false h = a

-- ---- what an accepted open leaves agrees with the tally at first

-- the first n places of a column whose first n were copied
copied : (n : ℕ) (s d : List ℕ) → n ≤ length s → take n (over (take n s) d) ≡ take n s
copied n s d h = take-over (take n s) d n (omega (arith, length-take n s))

copied_at : (n : ℕ) (s d : List ℕ) → n ≤ length s → (i : ℕ) → i < n → get_or (over (take n s) d) i 0 ≡ get_or s i 0
copied_at n s d h i l = over-in (take n s) d 0 i (omega (arith, length-take n s)) ∙ get_or-take n s i 0 l

copied_length : (n : ℕ) (s d : List ℕ) → n ≤ length s → n ≤ length d → length (over (take n s) d) ≡ length d
copied_length n s d h g = length_over (take n s) d (omega (arith, length-take n s))

copied_graph : (v e : ℕ) (a b a' b' : List ℕ) → e ≤ length a' → e ≤ length b' → SoundGraph v e a b → SoundGraph v e (over (take e a) a') (over (take e b) b')
copied_graph v e a b a' b' la lb s =
    let ga = copied_at e a a' s.long_a in
    let gb = copied_at e b b' s.long_b in
    record {
      some_vertex = s.some_vertex;
      few_vertices = s.few_vertices;
      few_edges = s.few_edges;
      long_a = rw (copied_length e a a' s.long_a la) la;
      long_b = rw (copied_length e b b' s.long_b lb) lb;
      in_a = λ k h. rw (ga k h) (s.in_a k h);
      in_b = λ k h. rw (gb k h) (s.in_b k h);
      differ = λ k h q. s.differ k h (sym (ga k h) ∙ q ∙ gb k h);
      apart = λ j k h l o. s.apart j k h l (rw (ga j (omega arith), gb j (omega arith), ga k l, gb k l) at o);
    }

pub opened_agrees : (v e : ℕ) (h l o : GraphColumns) (r : Result EngineCounts Refusal) (le lw : List ℕ) → Opened v e h l r o → question_of r ≡ 0
    → Agrees (tally_of v e h) (engine (counts v e 0) o.ends_a o.ends_b o.weights o.boundary le lw)
opened_agrees v e h l o r le lw s z =
    let d : open_refusal v e h l ≡ 0 = sym (question-of r s.answers) ∙ z in
    let p : Opens v e h l = opens_of v e h l d in
    let f = p.from in
    let g = p.to in
    let a-is : o.ends_a ≡ over (take e h.ends_a) l.ends_a = s.ends_a_after ∙ after-accepted (open_refusal v e h l) (take e h.ends_a) l.ends_a d in
    let b-is : o.ends_b ≡ over (take e h.ends_b) l.ends_b = s.ends_b_after ∙ after-accepted (open_refusal v e h l) (take e h.ends_b) l.ends_b d in
    let w-is : o.weights ≡ over (take e h.weights) l.weights = s.weights_after ∙ after-accepted (open_refusal v e h l) (take e h.weights) l.weights d in
    let m-is : o.boundary ≡ over (take v h.boundary) l.boundary = s.boundary_after ∙ after-accepted (open_refusal v e h l) (take v h.boundary) l.boundary d in
    rw (a-is, b-is, w-is, m-is) (record {
      counts_are = refl;
      ends_a_are = copied e h.ends_a l.ends_a f.ends_a;
      ends_b_are = copied e h.ends_b l.ends_b f.ends_b;
      boundary_are = copied v h.boundary l.boundary f.boundary;
      weights_are = copied e h.weights l.weights f.weights;
      back = copied e h.weights l.weights f.weights;
      opening_sound = p.sound.weights;
      long = record {
        columns = record {
          ends_a = rw (copied_length e h.ends_a l.ends_a f.ends_a g.ends_a) g.ends_a;
          ends_b = rw (copied_length e h.ends_b l.ends_b f.ends_b g.ends_b) g.ends_b;
          weights = rw (copied_length e h.weights l.weights f.weights g.weights) g.weights;
          boundary = rw (copied_length v h.boundary l.boundary f.boundary g.boundary) g.boundary;
        };
        log_edges = omega arith;
        log_weights = omega arith;
      };
      sound = record {
        columns = record {
          graph = says-graph v e _ _ (copied_graph v e h.ends_a h.ends_b l.ends_a l.ends_b g.ends_a g.ends_b (graph-says v e h.ends_a h.ends_b p.sound.graph));
          weights = ap (all_within weight_limit) (copied e h.weights l.weights f.weights) ∙ p.sound.weights;
          boundary = ap (all_within 2) (copied v h.boundary l.boundary f.boundary) ∙ p.sound.boundary;
        };
        log_edges = at_below e [] (λ i k. absurd (omega arith));
        log_weights = at_within weight_limit [] (λ i k. absurd (omega arith));
      };
    })
