-- What a path query that meets the questions before 17 says of its columns. Assumes nothing.
use mathlib.Core.Path.{◌≡◌, refl, sym, ap, ◌∙◌, subst}
use mathlib.Core.Logic.{◌≢◌}
use mathlib.Core.Bool.{Bool, true, false, not, ◌&&◌, false≢true, cond}
use mathlib.Core.List.{List, map}
use mathlib.Core.Option.{Option, some, none}
use Prim.Native.Nat.{ℕ, zero, suc, ◌<◌, ◌≤◌}
use native.Mathlib.Omega.{arith}
use lib.ListN.{length, take, length-map}
use lib.Seq.{sets}
use lib.Dec.{leb, ltb, eqb}
use borrow.Author.Tests.{leb-true, ltb-true, lt-ltb, eq-eqb, ne_eqb}
use Rattle.std.specs.Prelude.{Result, Ok, Err}
use Rattle.columns.specs.declared.refusal.Refusal.{Refusal}
use Rattle.columns.specs.declared.refusal.Refusal.TheVariants.{Unreached}
use Rattle.columns.specs.Refusals.{number}
use Rattle.columns.specs.Questions.{ask}
use Rattle.columns.proofs.Tests.{and_both}
use Rattle.columns.proofs.Columns.{sets_over}
use Rattle.engine_columns.specs.Records.{Engine}
use Rattle.engine_columns.specs.Questions.{columns_long, columns_sound}
use Rattle.engine_columns.proofs.Refusals.{Long, Sound}
use Rattle.engine_walks.specs.Graph.{Graph}
use Rattle.engine_walks.specs.Settling.{State, weight_at, settled}
use Rattle.engine_walks.specs.Answers.{FoundPath, only, taken, read_back_of, step_into, path}
use Rattle.query_relaxing.specs.Ready.{state_of, end_of}
use Rattle.query_questions.specs.Queries.{graph_in, weights_in}
use Rattle.query_questions.specs.Scratch.{ScratchColumns, scratch_fits, is_free, SearchAfter}
use Rattle.query_search.specs.Search.{Settles}
use Rattle.query_read_back.specs.Path.{path_of}
use Rattle.query_read_back.proofs.Back.{read_short, path_of_lem}
use Rattle.query_paths.specs.declared.PathCounts.{PathCounts}
use Rattle.query_paths.specs.GetPath.{path_counts, path_asked, path_refusal, PathSaid, vertices_after, steps_after, GotPath}
use Rattle.columns_answers.proofs.Said.{accepted-of, refusal-of, no_zero}
use Rattle.query_search.proofs.Asked.{query_of, query_columns}
use Rattle.query_search.proofs.Scratch.{ask-kept, query_kept, scratch_free, scratch_kept}
use Rattle.query_search.proofs.Reading.{state-read}
use Rattle.columns.proofs.Refusals.{met}

pub record PathAsked (e : Engine) (scratch : Bool) (a b vertices steps : ℕ) : Type 0 where
  pub long : Long 0 e
  pub sound : Sound e
  pub vertices_long : e.counts.vertices ≤ vertices
  pub steps_long : e.counts.vertices ≤ steps
  pub scratch_is : scratch ≡ true
  pub a_in : a < e.counts.vertices
  pub b_in : b < e.counts.vertices
  pub differ : b ≢ a

differ_of : (a b : ℕ) → not (eqb a b) ≡ true → b ≢ a
differ_of a b h e = let q = sym (ap not (eq-eqb a b (sym e))) ∙ h in let z : ◌≡◌ {A = ℕ} 0 1 = cc in omega arith

module _ (e : Engine) (scratch : Bool) (a b vertices steps : ℕ) where
  pub path-asked : path_asked e scratch a b vertices steps ≡ 0 → PathAsked e scratch a b vertices steps
  path-asked z =
      let v = e.counts.vertices in
      let q = query_of e _ _ _ z in
      let (x, f) = and_both (leb v vertices) _ q.fits_are in
      let (y, s) = and_both (leb v steps) scratch f in
      let (i, j) = and_both (ltb a v) (ltb b v) q.in_range in
      record {
        long = q.long;
        sound = q.sound;
        vertices_long = leb-true _ _ x;
        steps_long = leb-true _ _ y;
        scratch_is = s;
        a_in = ltb-true _ _ i;
        b_in = ltb-true _ _ j;
        differ = differ_of a b (met (not (eqb a b)) 15 0 q.last);
      }

  -- what a search needs of the engine's columns
  pub path_columns : path_asked e scratch a b vertices steps ≡ 0
      → (columns_long e.counts.vertices e.counts.edges e.ends_a e.ends_b e.weights e.boundary ≡ true) × (columns_sound e.counts.vertices e.counts.edges e.ends_a e.ends_b e.weights e.boundary ≡ true)
  path_columns z =
      let v = e.counts.vertices in query_columns e (leb v vertices && (leb v steps && scratch)) (ltb a v && ltb b v) (ask (not (eqb a b)) 16 0) z

  -- a question before 17 leaves scratch as it was
  pub kept-number : path_asked e scratch a b vertices steps ≢ 0 → is_free (path_asked e scratch a b vertices steps) ≡ false
  kept-number f =
      let v = e.counts.vertices in
      query_kept e (leb v vertices && (leb v steps && scratch)) (ltb a v && ltb b v) (ask (not (eqb a b)) 16 0) (λ g. ask-kept (not (eqb a b)) 16 0 refl (λ x. absurd (x refl)) g) f

  -- 17 is no number of a question before 17
  pub before-17 : path_asked e scratch a b vertices steps ≢ 17
  before-17 z = false≢true (sym (kept-number (λ x. absurd (omega arith))) ∙ ap is_free z)

-- after success and after 17 scratch is free
free_number : (p : Option FoundPath) → is_free (path_refusal 0 p) ≡ true
free_number none = refl
free_number (some p) = refl

-- ---- the path in a settled state

module _ (s : State) (n a b : ℕ) where
  abbrev vs : List ℕ
  vs = read_back_of s a n b

  abbrev there : FoundPath
  there = record { vertices = vs; steps = map (step_into s) vs; total = weight_at s b }

  -- what is left of the columns and said, where b was taken or not
  pub record Left (o : Option FoundPath) (r : Result PathCounts Refusal) (vertices₀ vertices steps₀ steps : List ℕ) : Type 0 where
    pub path_said : PathSaid 0 o r
    pub vertices_left : vertices ≡ vertices_after o vertices₀
    pub steps_left : steps ≡ steps_after o steps₀

  pub path_there : {count total : ℕ} {vertices₀ vertices steps₀ steps : List ℕ} → taken s b ≡ true → count ≡ length vs → total ≡ weight_at s b
      → n ≤ length vertices₀ → n ≤ length steps₀ → vertices ≡ sets vertices₀ 0 vs → steps ≡ sets steps₀ 0 (map (step_into s) vs)
      → Left (path_of s n a b) (Ok (path_counts count total)) vertices₀ vertices steps₀ steps
  path_there {count} {total} {vertices₀} {vertices} {steps₀} {steps} t c w l m p q =
      let short = read_short s a n b in
      subst (λ k. Left (cond k (some there) none) (Ok (path_counts count total)) vertices₀ vertices steps₀ steps) (sym t) (record {
        path_said = rw (c, w) (accepted-of refl);
        vertices_left = p ∙ sets_over vertices₀ vs (omega (arith, short));
        steps_left = q ∙ sets_over steps₀ (map (step_into s) vs) (omega (arith, short, length-map vs (step_into s)));
      })

  pub path_none : {vertices₀ steps₀ : List ℕ} → taken s b ≡ false → Left (path_of s n a b) (Err Unreached) vertices₀ vertices₀ steps₀ steps₀
  path_none {vertices₀} {steps₀} t =
      subst (λ k. Left (cond k (some there) none) (Err Unreached) vertices₀ vertices₀ steps₀ steps₀) (sym t) (record { path_said = refusal-of Unreached refl; vertices_left = refl; steps_left = refl })

-- ---- the whole call

module _ (e : Engine) (a b : ℕ) (vertices₀ steps₀ : List ℕ) (scratch₀ : ScratchColumns) where
  abbrev asked : ℕ
  asked = path_asked e (scratch_fits e.counts scratch₀) a b (length vertices₀) (length steps₀)

  abbrev g : Graph
  g = graph_in e

  abbrev settles : State
  settles = settled g (weights_in e) (only a) (some b)

  -- the state that is read from scratch
  abbrev read : ScratchColumns → State
  read scratch = state_of (take g.vertices scratch.status) (take g.vertices scratch.weight) (take g.vertices scratch.previous)

  pub path_found : {r : Result PathCounts Refusal} {vertices steps : List ℕ} {scratch : ScratchColumns} → asked ≡ 0
      → SearchAfter g (settled g (weights_in e) (only a) (end_of g.vertices b)) scratch₀ scratch → Settles g.vertices (settled g (weights_in e) (only a) (end_of g.vertices b))
      → PathSaid 0 (path_of (read scratch) g.vertices a b) r → vertices ≡ vertices_after (path_of (read scratch) g.vertices a b) vertices₀ → steps ≡ steps_after (path_of (read scratch) g.vertices a b) steps₀
      → GotPath e a b r vertices₀ vertices steps₀ steps scratch₀ scratch
  path_found {r} {scratch = scratch} z after_search ok f v s =
      let k = path-asked e _ a b _ _ z in
      let w = weights_in e in
      let same : settled g w (only a) (end_of g.vertices b) ≡ settles = ap (λ x. settled g w (only a) (cond x (some b) none)) (lt-ltb b g.vertices k.b_in) in
      let q = path_of_lem g w a b (read scratch) (state-read after_search ok ∙ same) in
      let p = path g w a b in
      let said_so = subst (λ o. PathSaid 0 o r) q f in
      record {
        answers = subst (λ n. PathSaid n p r) (sym z) said_so;
        vertices_after_holds = v ∙ ap (λ o. vertices_after o vertices₀) q ∙ sym (ap (λ n. cond (eqb n 0) (vertices_after p vertices₀) vertices₀) z);
        steps_after_holds = s ∙ ap (λ o. steps_after o steps₀) q ∙ sym (ap (λ n. cond (eqb n 0) (steps_after p steps₀) steps₀) z);
        scratch_after = scratch_free _ g settles scratch₀ scratch (ap is_free said_so.number_is ∙ free_number p) (subst (λ t. SearchAfter g t scratch₀ scratch) same after_search);
      }

  pub path_refused : (r : Refusal) → number r ≡ asked → GotPath e a b (Err r) vertices₀ vertices₀ steps₀ steps₀ scratch₀ scratch₀
  path_refused r d =
      let f : asked ≢ 0 = λ z. no_zero r (d ∙ z) in
      let p = path g (weights_in e) a b in
      record {
        answers = refusal-of r (d ∙ past asked p f);
        vertices_after_holds = sym (ap (λ k. cond k (vertices_after p vertices₀) vertices₀) (ne_eqb asked 0 f));
        steps_after_holds = sym (ap (λ k. cond k (steps_after p steps₀) steps₀) (ne_eqb asked 0 f));
        scratch_after = scratch_kept _ g settles scratch₀ (ap is_free d ∙ kept-number e _ a b _ _ f);
      }
    where
      past : (n : ℕ) (o : Option FoundPath) → n ≢ 0 → n ≡ path_refusal n o
      past zero o f = absurd (f refl)
      past (suc n) o f = refl
