-- What an accepted query says of its columns. Assumes nothing.
use mathlib.Core.Path.{◌≡◌, sym, ◌∙◌, subst}
use mathlib.Core.Bool.{Bool, true, ◌&&◌}
use mathlib.Core.List.{List}
use Prim.Native.Nat.{ℕ, ◌*◌, ◌<◌, ◌≤◌}
use native.Mathlib.Omega.{arith}
use lib.ListN.{length, get_or, take, length-take}
use lib.Seq.{get_or-take, length-take-le}
use lib.Dec.{leb}
use borrow.Author.Tests.{leb-true}
use Rattle.columns.specs.Limits.{weight_limit}
use Rattle.columns.specs.Questions.{ask}
use Rattle.columns.proofs.Tests.{and_both, within_at}
use Rattle.columns_neighbors.specs.Sound.{SoundGraph}
use Rattle.columns_neighbors.proofs.Ends.{graph-says}
use Rattle.engine_columns.specs.Records.{Engine}
use Rattle.engine_columns.specs.declared.EngineCounts.{EngineCounts}
use Rattle.engine_columns.specs.Questions.{columns_long, columns_sound, engine_long, engine_sound}
use Rattle.engine_columns.proofs.Refusals.{ColumnsLong, columns-long-of, columns-long-from, Long, long_of, ColumnsSound, columns-sound-from, Sound, sound_of}
use Rattle.query_questions.specs.Queries.{query_refusal}
use Rattle.query_search.specs.Search.{Searchable}
use Rattle.query_questions.specs.Scratch.{scratch_of, scratch_lengths, scratch_long, ScratchLengths}
use Rattle.columns.proofs.Refusals.{met, goes_on}

pub record ScratchLong (c : EngineCounts) (l : ScratchLengths) : Type 0 where
  pub numbers_long : 2 * c.edges ≤ l.neighbor_numbers
  pub ends_long : c.vertices ≤ l.list_ends
  pub status_long : c.vertices ≤ l.status
  pub weight_long : c.vertices ≤ l.weight
  pub previous_long : c.vertices ≤ l.previous
  pub node_long : c.vertices ≤ l.node
  pub leaf_long : c.vertices ≤ l.leaf

pub scratch_of_lem : (c : EngineCounts) (l : ScratchLengths) → scratch_long c l ≡ true → ScratchLong c l
unfolding scratch_long
scratch_of_lem c l h =
    let (p₁, h₁) = and_both (leb (2 * c.edges) l.neighbor_numbers) _ h in
    let (p₂, h₂) = and_both (leb c.vertices l.list_ends) _ h₁ in
    let (p₃, h₃) = and_both (leb c.vertices l.status) _ h₂ in
    let (p₄, h₄) = and_both (leb c.vertices l.weight) _ h₃ in
    let (p₅, h₅) = and_both (leb c.vertices l.previous) _ h₄ in
    let (p₆, p₇) = and_both (leb c.vertices l.node) _ h₅ in
    record {
      numbers_long = leb-true _ _ p₁;
      ends_long = leb-true _ _ p₂;
      status_long = leb-true _ _ p₃;
      weight_long = leb-true _ _ p₄;
      previous_long = leb-true _ _ p₅;
      node_long = leb-true _ _ p₆;
      leaf_long = leb-true _ _ p₇;
    }

-- the same for a tactic: the tests, and what they say
pub columns_fit : (v e : ℕ) (a b w m : List ℕ) → columns_long v e a b w m ≡ true
    → (columns_long v e a b w m ≡ true) × (e ≤ length a) × (e ≤ length b) × (e ≤ length w) × (v ≤ length m)
columns_fit v e a b w m h = let l = columns-long-of v e a b w m h in (h, l.ends_a, l.ends_b, l.weights, l.boundary)

pub scratch_fit : (c : EngineCounts) (l : ScratchLengths) → scratch_long c l ≡ true
    → (scratch_long c l ≡ true) × (c.vertices ≤ l.list_ends) × (c.vertices ≤ l.status) × (c.vertices ≤ l.weight) × (c.vertices ≤ l.previous) × (c.vertices ≤ l.node) × (c.vertices ≤ l.leaf)
scratch_fit c l h = let s = scratch_of_lem c l h in (h, s.ends_long, s.status_long, s.weight_long, s.previous_long, s.node_long, s.leaf_long)

-- a column cut to a count that it has room for is as long as the count
pub cut_is : (n : ℕ) (column : List ℕ) → n ≤ length column → n ≡ length (take n column)
cut_is n column h = sym (length-take-le n column h)

-- 6, 7 and 13 of any query
pub record QueryAsked (e : Engine) (fits within : Bool) (next : ℕ) : Type 0 where
  pub long : Long 0 e
  pub fits_are : fits ≡ true
  pub sound : Sound e
  pub in_range : within ≡ true
  pub last : next ≡ 0

pub query_of : (e : Engine) (fits within : Bool) (next : ℕ) → query_refusal e fits within next ≡ 0 → QueryAsked e fits within next
query_of e fits within next z =
    let q3 = ask within 13 next in
    let q2 = ask (engine_sound e) 7 q3 in
    let (p, q) = and_both (engine_long 0 e) fits (met (engine_long 0 e && fits) 5 q2 z) in
    let z2 = goes_on (engine_long 0 e && fits) 5 q2 z in
    let z3 = goes_on (engine_sound e) 6 q3 z2 in
    record {
      long = long_of 0 e p;
      fits_are = q;
      sound = sound_of e (met (engine_sound e) 6 q3 z2);
      in_range = met within 12 next z3;
      last = goes_on within 12 next z3;
    }

-- what a search needs of the engine's columns
pub query_columns : (e : Engine) (fits within : Bool) (next : ℕ) → query_refusal e fits within next ≡ 0
    → (columns_long e.counts.vertices e.counts.edges e.ends_a e.ends_b e.weights e.boundary ≡ true) × (columns_sound e.counts.vertices e.counts.edges e.ends_a e.ends_b e.weights e.boundary ≡ true)
query_columns e fits within next z = let q = query_of e fits within next z in (columns-long-from _ _ _ _ _ _ q.long.columns, columns-sound-from _ _ _ _ _ _ q.sound.columns)

-- columns cut to their counts
cut_graph : (v e : ℕ) (a b : List ℕ) → SoundGraph v e a b → SoundGraph v e (take e a) (take e b)
cut_graph v e a b s =
    let ga : (k : ℕ) → k < e → get_or (take e a) k 0 ≡ get_or a k 0 = λ k h. get_or-take e a k 0 h in
    let gb : (k : ℕ) → k < e → get_or (take e b) k 0 ≡ get_or b k 0 = λ k h. get_or-take e b k 0 h in
    record {
      some_vertex = s.some_vertex;
      few_vertices = s.few_vertices;
      few_edges = s.few_edges;
      long_a = omega (arith, length-take e a, s.long_a);
      long_b = omega (arith, length-take e b, s.long_b);
      in_a = λ k h. rw (ga k h) (s.in_a k h);
      in_b = λ k h. rw (gb k h) (s.in_b k h);
      differ = λ k h q. s.differ k h (sym (ga k h) ∙ q ∙ gb k h);
      apart = λ j k h l o. s.apart j k h l (rw (ga j (omega arith), gb j (omega arith), ga k l, gb k l) at o);
    }

module _ (c : EngineCounts) (a b w m numbers ends status weight previous node leaf : List ℕ)
    (long : ColumnsLong c.vertices c.edges a b w m) (ok : ColumnsSound c.vertices c.edges a b w m)
    (s : ScratchLong c (scratch_lengths (scratch_of numbers ends status weight previous node leaf))) where
  abbrev v : ℕ
  v = c.vertices

  abbrev E : ℕ
  E = c.edges

  pub cut-length : length (take v status) ≡ v
  cut-length = length-take-le v status s.status_long

  pub searchable : Searchable (length (take v status)) (take E a) (take E b) (take E w) numbers (take v ends) (take v weight) (take v previous) (take v node) (take v leaf)
  searchable =
      let la : length (take E a) ≡ E = length-take-le E a long.ends_a in
      let lb : length (take E b) ≡ E = length-take-le E b long.ends_b in
      let lw : length (take E w) ≡ E = length-take-le E w long.weights in
      record {
        graph = subst (λ n. SoundGraph n (length (take E a)) (take E a) (take E b)) (sym cut-length)
            (subst (λ k. SoundGraph v k (take E a) (take E b)) (sym la) (cut_graph v E a b (graph-says v E a b ok.graph)));
        same_b = lb ∙ sym la;
        same_w = lw ∙ sym la;
        weights_within = λ k h. within_at weight_limit (take E w) ok.weights k h;
        numbers_fit = omega (arith, s.numbers_long);
        ends_fit = omega (arith, length-take-le v ends s.ends_long, cut-length);
        weight_fits = length-take-le v weight s.weight_long ∙ sym cut-length;
        previous_fits = length-take-le v previous s.previous_long ∙ sym cut-length;
        node_fits = omega (arith, length-take-le v node s.node_long, cut-length);
        leaf_fits = length-take-le v leaf s.leaf_long ∙ sym cut-length;
      }
