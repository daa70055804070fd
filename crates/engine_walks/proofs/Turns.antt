-- Settling keeps `Inv` and comes to rest. Of the tie rule only `changes_fair` is used, of the choice only `to_take_is`. Assumes nothing.
use mathlib.Core.Path.{◌≡◌, refl, sym, ap, ap₂, ◌∙◌, subst, subst₂}
use mathlib.Core.Logic.{◌⊎◌, inl, inr, ⊎_elim, ◌≢◌}
use mathlib.Core.Bool.{Bool, true, false, not, cond, ◌&&◌}
use mathlib.Core.List.{List, [], ◌∷◌}
use mathlib.Core.Option.{Option, some, none}
use Prim.Native.Nat.{ℕ, zero, suc, ◌+◌, ◌≤◌, ◌<◌, zero-le}
use native.Mathlib.Decide.{ℕ_discrete, dec_lt}
use native.Mathlib.Omega.{arith}
use lib.ListN.{length, get_or, length-set, get_or-eq_default}
use lib.Seq.{get_or-set_same, get_or-set_other}
use lib.Dec.{eqb, lit<}
use lib.IntN.{pos, negsuc}
use borrow.Author.Tests.{eqb-true, eqb-false, eq-eqb, ne_eqb, lt-ltb, le-ltb}
use Rattle.engine_walks.specs.Lists.{bit}
use Rattle.engine_walks.specs.Graph.{Graph, edges, end_a, end_b, GraphInRange, Joins, stay}
use Rattle.engine_walks.specs.Settling.{State, status_at, weight_at, previous_at, to_take, start, changes, waits, by_status, offer, relax_edge, relax, mark, take_vertex, take_chosen, stopped, next, settle, settled}
use Rattle.engine_walks.specs.Answers.{table_weight, table_previous}
use Rattle.engine_walks.specs.Claims.{IsSource, EndTaken, IsFirst}
use Rattle.columns.proofs.Counting.{length-each, getD-each}
use Rattle.engine_walks.proofs.LeastWeights.{Takes, Inv, keeps}
use Rattle.engine_walks.proofs.Offers.{Offered, Relaxed, outcome-open, relaxed-none, relaxed-skip, relaxed-edge, takes}
use Rattle.engine_walks.proofs.FirstLeast.{first-least}

-- every column has n places
pub record Fits (n : ℕ) (s : State) : Type 0 where
  pub status_fits : length s.status ≡ n
  pub weight_fits : length s.weight ≡ n
  pub previous_fits : length s.previous ≡ n

-- ---- the tie rule

-- an entry that changes gets no greater weight; one that stays has no greater weight
abbrev Fair : (k w' : ℕ) → Bool → Type 0
Fair k w' b = (b ≡ true → k ≤ w') × (b ≡ false → w' ≤ k)

fair_true : {k w' : ℕ} {b : Bool} → k ≤ w' → b ≡ true → Fair k w' b
fair_true h e = (λ p. h, λ p. absurd (let z : ◌≡◌ {A = ℕ} 0 1 = cc in omega arith))

fair_false : {k w' : ℕ} {b : Bool} → w' ≤ k → b ≡ false → Fair k w' b
fair_false h e = (λ p. absurd (let z : ◌≡◌ {A = ℕ} 0 1 = cc in omega arith), λ p. h)

changes_fair : (u k q w' q' : ℕ) → Fair k w' (changes u k q w' q')
unfolding changes
changes_fair u k q w' q' = elim (dec_lt k w') [
  | yes h ↦ fair_true (omega arith) (simp (lt-ltb k w' h, ne_eqb k w' (omega arith)))
  | no f ↦ elim (dec_lt w' k) [
    | yes h ↦ fair_false (omega arith) (simp (le-ltb k w' (omega arith), ne_eqb k w' (omega arith)))
    | no h ↦ (λ p. omega arith, λ p. omega arith)
  ]
]

-- ---- one offer

waits_fits : {n : ℕ} {s : State} (v k a : ℕ) → Fits n s → Fits n (waits v k a s)
waits_fits {s = s} v k a f = record {
  status_fits = length-set s.status v 1 ∙ f.status_fits;
  weight_fits = length-set s.weight v k ∙ f.weight_fits;
  previous_fits = length-set s.previous v a ∙ f.previous_fits;
}

-- what an offer does, and that it keeps the columns' lengths
abbrev OfferedFits : (n a : ℕ) → State → ℕ → ℕ → State → Type 0
OfferedFits n a s u k s' = Offered s a u k s' × Fits n s'

accepted : {n : ℕ} {s : State} (a u k : ℕ) → Fits n s → u < n → status_at s u ≤ 1 → (status_at s u ≡ 1 → k ≤ weight_at s u) → OfferedFits n a s u k (waits u k a s)
accepted {n} {s} a u k f h l m = (
  record {
    far = λ v z. (get_or-set_other s.status u v 1 0 z, get_or-set_other s.weight u v k 0 z, get_or-set_other s.previous u v a 0 z);
    done = λ z. absurd (omega arith);
    chosen = λ z. inl (
      get_or-set_same s.status u 1 0 (omega (arith, f.status_fits)),
      get_or-set_same s.weight u k 0 (omega (arith, f.weight_fits)),
      get_or-set_same s.previous u a 0 (omega (arith, f.previous_fits)),
      m,
    );
  },
  waits_fits u k a f,
)

declined : {n : ℕ} {s : State} (a u k : ℕ) → Fits n s → 1 ≤ status_at s u → (status_at s u ≡ 1 → weight_at s u ≤ k) → OfferedFits n a s u k s
declined a u k f l m = (
  record {
    far = λ v z. (refl, refl, refl);
    done = λ z. (refl, refl, refl);
    chosen = λ z. inr (omega arith, (refl, refl, refl), m (omega arith));
  },
  f,
)

by_status_is : {n : ℕ} {s : State} (a u k : ℕ) → Fits n s → u < n → (x : ℕ) → status_at s u ≡ x → (b : Bool) → Fair k (weight_at s u) b
    → OfferedFits n a s u k (by_status x b (waits u k a s) s)
unfolding by_status
by_status_is a u k f h zero e b d = accepted a u k f h (omega arith) (λ z. absurd (omega arith))
by_status_is a u k f h (suc zero) e true d = accepted a u k f h (omega arith) (λ z. d.0 refl)
by_status_is a u k f h (suc zero) e false d = declined a u k f (omega arith) (λ z. d.1 refl)
by_status_is a u k f h (suc (suc x)) e b d = declined a u k f (omega arith) (λ z. absurd (omega arith))

offer_is : (n a q u k : ℕ) (s : State) → Fits n s → u < n → OfferedFits n a s u k (offer a q u k s)
unfolding offer
offer_is n a q u k s f h = by_status_is a u k f h (status_at s u) refl _ (changes_fair u k _ (weight_at s u) _)

module _ {g : Graph} (ok : GraphInRange g) {w : ℕ → ℕ} {a W : ℕ} (q : ℕ) where
  -- one edge
  edge-is : (n : ℕ) {σ : State} (s : State) → n < edges g → Fits g.vertices s → Relaxed g w a W n σ s
      → Relaxed g w a W (suc n) σ (relax_edge g w a q W n s) × Fits g.vertices (relax_edge g w a q W n s)
  unfolding relax_edge
  edge-is n {σ} s h f r = go (eqb (end_a g n) a) refl (eqb (end_b g n) a) refl
    where
      go : (b : Bool) → eqb (end_a g n) a ≡ b → (c : Bool) → eqb (end_b g n) a ≡ c
          → let s' : State = cond b (offer a q (end_b g n) (W + w n) s) (cond c (offer a q (end_a g n) (W + w n) s) s) in
          Relaxed g w a W (suc n) σ s' × Fits g.vertices s'
      go true d c k = let o = offer_is g.vertices a q (end_b g n) (W + w n) s f (ok.b_in n h) in
          let only : (v : ℕ) → Joins g n a v → v ≡ end_b g n = λ v. ⊎_elim (λ z. sym z.1) (λ z. sym z.0 ∙ eqb-true (end_a g n) a d ∙ sym z.1) in
          (relaxed-edge r (inl (eqb-true (end_a g n) a d, refl)) only o.0, o.1)
      go false d true k = let o = offer_is g.vertices a q (end_a g n) (W + w n) s f (ok.a_in n h) in
          let only : (v : ℕ) → Joins g n a v → v ≡ end_a g n = λ v. ⊎_elim (λ z. absurd (eqb-false (end_a g n) a d z.0)) (λ z. sym z.0) in
          (relaxed-edge r (inr (refl, eqb-true (end_b g n) a k)) only o.0, o.1)
      go false d false k = (relaxed-skip r (λ v. ⊎_elim (λ z. eqb-false (end_a g n) a d z.0) (λ z. eqb-false (end_b g n) a k z.1)), f)

  relax-is : (n : ℕ) (s : State) → n ≤ edges g → Fits g.vertices s
      → Relaxed g w a W n s (relax g w a q W n s) × Fits g.vertices (relax g w a q W n s)
  unfolding relax
  relax-is zero s h f = (relaxed-none, f)
  relax-is (suc n) s h f = let i = relax-is n s (omega arith) f in edge-is n (relax g w a q W n s) h i.1 i.0

-- ---- the choice

-- it waits and has the least weight of all that wait; or nothing waits
abbrev pub IsToTake : ℕ → State → Option ℕ → Type 0
IsToTake n s none = (v : ℕ) → v < n → status_at s v ≢ 1
IsToTake n s (some a) = (a < n) × (status_at s a ≡ 1) × ((v : ℕ) → v < n → status_at s v ≡ 1 → weight_at s a ≤ weight_at s v)

pub to_take_is : (n : ℕ) (s : State) → IsToTake n s (to_take n s)
to_take_is n s = go (to_take n s) (first-least (λ v. eqb (status_at s v) 1) (weight_at s) n)
  where
    go : (o : Option ℕ) → IsFirst (λ v. eqb (status_at s v) 1) (weight_at s) n o → IsToTake n s o
    go none p = λ v h. eqb-false (status_at s v) 1 (p v h)
    go (some a) p = (p.0, eqb-true (status_at s a) 1 p.1, λ v h q. (p.2 v h (eq-eqb (status_at s v) 1 q)).0)

-- a vertex that waits or was taken has a place in the columns
pub not_absent_in : {n v k : ℕ} {s : State} → Fits n s → status_at s v ≡ suc k → v < n
not_absent_in {n} {v} {k} {s} f e = elim (dec_lt v n) [
  | yes h ↦ h
  | no h ↦ absurd (omega (arith, get_or-eq_default s.status 0 {n = v} (omega (arith, f.status_fits))))
]

-- ---- how many vertices are not taken

-- 1 for a status other than taken
not_taken : ℕ → ℕ
not_taken zero = 1
not_taken (suc zero) = 1
not_taken (suc (suc x)) = 0

not_taken_le : (x : ℕ) → not_taken x ≤ 1
unfolding not_taken
not_taken_le zero = omega arith
not_taken_le (suc zero) = omega arith
not_taken_le (suc (suc x)) = omega arith

not_taken_falls : (x y : ℕ) → (x ≡ 2 → y ≡ 2) → x ≤ 2 → not_taken y ≤ not_taken x
unfolding not_taken
not_taken_falls zero y k h = not_taken_le y
not_taken_falls (suc zero) y k h = not_taken_le y
not_taken_falls (suc (suc zero)) y k h = subst (λ z. not_taken z ≤ 0) (sym (k refl)) (omega arith)
not_taken_falls (suc (suc (suc x))) y k h = absurd (omega arith)

untaken : List ℕ → ℕ
unfolding not_taken
untaken [] = 0
untaken (x ∷ l) = not_taken x + untaken l

untaken_le : (l l' : List ℕ) → length l ≡ length l' → ((v : ℕ) → not_taken (get_or l' v 0) ≤ not_taken (get_or l v 0)) → untaken l' ≤ untaken l
unfolding untaken
untaken_le [] [] e h = zero-le
untaken_le [] (y ∷ l') e h = absurd (omega arith)
untaken_le (x ∷ l) [] e h = absurd (omega arith)
untaken_le (x ∷ l) (y ∷ l') e h = omega (arith, h 0, untaken_le l l' (omega arith) (λ v. h (suc v)))

untaken_lt : (l l' : List ℕ) (a : ℕ) → length l ≡ length l' → ((v : ℕ) → not_taken (get_or l' v 0) ≤ not_taken (get_or l v 0)) → a < length l
    → not_taken (get_or l' a 0) < not_taken (get_or l a 0) → untaken l' < untaken l
unfolding untaken
untaken_lt [] [] a e h b k = absurd (omega arith)
untaken_lt [] (y ∷ l') a e h b k = absurd (omega arith)
untaken_lt (x ∷ l) [] a e h b k = absurd (omega arith)
untaken_lt (x ∷ l) (y ∷ l') zero e h b k = omega (arith, untaken_le l l' (omega arith) (λ v. h (suc v)))
untaken_lt (x ∷ l) (y ∷ l') (suc a) e h b k = omega (arith, h 0, untaken_lt l l' a (omega arith) (λ v. h (suc v)) (omega arith) k)

untaken_most : (l : List ℕ) → untaken l ≤ length l
unfolding untaken
untaken_most [] = zero-le
untaken_most (x ∷ l) = omega (arith, not_taken_le x, untaken_most l)

-- what every state of a settling keeps
pub record Valid (g : Graph) (w : ℕ → ℕ) (Source : ℕ → Type 0) (s : State) : Type 0 where
  pub inv : Inv g w Source s
  pub fits : Fits g.vertices s

-- ---- the start

pub start_status : (g : Graph) (source : ℕ → Bool) (v : ℕ) → v < g.vertices → status_at (start g source) v ≡ bit (source v)
unfolding start
start_status g source v h = getD-each g.vertices (λ v. bit (source v)) 0 v h

pub start_previous : (g : Graph) (source : ℕ → Bool) (v : ℕ) → v < g.vertices → previous_at (start g source) v ≡ v
unfolding start
start_previous g source v h = getD-each g.vertices (λ v. v) 0 v h

pub start_fits : (g : Graph) (source : ℕ → Bool) → Fits g.vertices (start g source)
unfolding start
start_fits g source = record {
  status_fits = length-each g.vertices _;
  weight_fits = length-each g.vertices _;
  previous_fits = length-each g.vertices _;
}

pub start_weight : (g : Graph) (source : ℕ → Bool) (v : ℕ) → weight_at (start g source) v ≡ 0
unfolding start
start_weight g source v = elim (dec_lt v g.vertices) [
  | yes h ↦ getD-each g.vertices (λ v. 0) 0 v h
  | no h ↦ get_or-eq_default (start g source).weight 0 {n = v} (omega (arith, (start_fits g source).weight_fits))
]

-- the test and the property name the same sources
pub record Sources (g : Graph) (source : ℕ → Bool) (Source : ℕ → Type 0) : Type 0 where
  pub inside : (v : ℕ) → Source v → v < g.vertices
  pub passes : (v : ℕ) → Source v → source v ≡ true
  pub named : (v : ℕ) → v < g.vertices → source v ≡ true → Source v

-- the sources that a test names
pub test_sources : (g : Graph) (source : ℕ → Bool) → Sources g source (IsSource g source)
test_sources g source = record { inside = λ v p. p.0; passes = λ v p. p.1; named = λ v h e. (h, e) }

module _ {g : Graph} {source : ℕ → Bool} {Source : ℕ → Type 0} (n : Sources g source Source) where
  -- a vertex is absent, or it waits and is a source
  pub start-each : (v : ℕ) → (status_at (start g source) v ≡ 0) ⊎ ((status_at (start g source) v ≡ 1) × Source v)
  start-each v = elim (dec_lt v g.vertices) [
    | yes h ↦ go h (source v) refl
    | no h ↦ inl (get_or-eq_default (start g source).status 0 {n = v} (omega (arith, (start_fits g source).status_fits)))
  ]
    where
      go : v < g.vertices → (b : Bool) → source v ≡ b → (status_at (start g source) v ≡ 0) ⊎ ((status_at (start g source) v ≡ 1) × Source v)
      go h true e = inr (start_status g source v h ∙ ap bit e, n.named v h e)
      go h false e = inl (start_status g source v h ∙ ap bit e)

  pub start-valid : (w : ℕ → ℕ) → Valid g w Source (start g source)
  start-valid w = record {
    inv = record {
      small = λ v. ⊎_elim (λ e. omega arith) (λ e. omega arith) (start-each v);
      source = λ v p. (omega (arith, start_status g source v (n.inside v p), ap bit (n.passes v p)), start_weight g source v);
      found = λ v h. ⊎_elim (λ e. absurd (omega arith)) (λ e. (v, [], e.1, stay, sym (start_weight g source v))) (start-each v);
      order = λ u v p q. ⊎_elim (λ e. absurd (omega arith)) (λ e. absurd (omega arith)) (start-each u);
      closed = λ e x y h j p. ⊎_elim (λ d. absurd (omega arith)) (λ d. absurd (omega arith)) (start-each x);
    };
    fits = start_fits g source;
  }

-- ---- turns

-- nothing waits, or settling has stopped
abbrev pub Resting : (source : ℕ → Bool) (end : Option ℕ) → State → Type 0
Resting source end s = ((v : ℕ) → status_at s v ≢ 1) ⊎ (stopped source end s ≡ true)

-- and so a turn changes nothing
abbrev pub AtRest : (g : Graph) (w : ℕ → ℕ) (source : ℕ → Bool) (end : Option ℕ) → State → Type 0
AtRest g w source end s = Resting source end s × (next g w source end s ≡ s)

-- two states with the same entry at v, or with none taken there, have the same row
same_row : (s s' : State) (v : ℕ) → status_at s' v ≡ status_at s v → weight_at s' v ≡ weight_at s v → previous_at s' v ≡ previous_at s v
    → (table_weight s' v ≡ table_weight s v) × (table_previous s' v ≡ table_previous s v)
same_row s s' v p q r = (ap₂ (λ x y. cond (eqb x 2) (pos y) (negsuc 0)) p q, ap₂ (λ x y. cond (eqb x 2) y 0) p r)

no_row : (s s' : State) (v : ℕ) → status_at s' v ≢ 2 → status_at s v ≢ 2
    → (table_weight s' v ≡ table_weight s v) × (table_previous s' v ≡ table_previous s v)
no_row s s' v p q =
    (rw (ne_eqb (status_at s v) 2 q, ne_eqb (status_at s' v) 2 p), rw (ne_eqb (status_at s v) 2 q, ne_eqb (status_at s' v) 2 p))

module _ {g : Graph} (ok : GraphInRange g) (w : ℕ → ℕ) where
  taken-relaxed : (a : ℕ) (s : State) → Fits g.vertices s
      → Relaxed g w a (weight_at s a) (edges g) (mark s a) (take_vertex g w a s) × Fits g.vertices (take_vertex g w a s)
  unfolding take_vertex
  taken-relaxed a s f = relax-is ok (previous_at s a) (edges g) (mark s a) (omega arith) (record {
    status_fits = length-set s.status a 2 ∙ f.status_fits;
    weight_fits = f.weight_fits;
    previous_fits = f.previous_fits;
  })

  pub take-is : (a : ℕ) (s : State) → Fits g.vertices s → IsToTake g.vertices s (some a)
      → Takes g w s a (take_vertex g w a s) × Fits g.vertices (take_vertex g w a s)
  unfolding take_vertex
  take-is a s f p =
      let r = taken-relaxed a s f in
      (takes (omega (arith, f.status_fits, p.0)) p.1 (λ v e. p.2 v (not_absent_in {k = 0} {s = s} f e) e) r.0, r.1)

  -- the offers of a change no row of the table: it is the same as if the search stopped before them
  pub offers-keep-rows : (a : ℕ) (s : State) → Fits g.vertices s → ((v : ℕ) → status_at (mark s a) v ≤ 2) → (v : ℕ)
      → (table_weight (take_vertex g w a s) v ≡ table_weight (mark s a) v) × (table_previous (take_vertex g w a s) v ≡ table_previous (mark s a) v)
  offers-keep-rows a s f small v =
      let r = (taken-relaxed a s f).0 in
      elim (ℕ_discrete (status_at (mark s a) v) 2) [
        | yes e ↦ let k = r.kept v e in same_row (mark s a) (take_vertex g w a s) v k.0 k.1 k.2
        | no h ↦ let l : status_at (mark s a) v ≤ 1 = omega (arith, small v) in
            no_row (mark s a) (take_vertex g w a s) v (λ e. omega (arith, outcome-open (r.other v l) l)) h
      ]

  module _ {source : ℕ → Bool} {Source : ℕ → Type 0} (n : Sources g source Source) (end : Option ℕ) where
    -- a law of turns: what the start has, what a turn at rest keeps and a turn that takes a vertex, not stopped, keeps, holds after k turns
    module _ (P : ℕ → State → Type 0) (first : P 0 (start g source)) (rests : (k : ℕ) (s : State) → P k s → P (suc k) s)
        (moves : (k a : ℕ) (s s' : State) → Valid g w Source s → stopped source end s ≡ false → Takes g w s a s' → P k s → P (suc k) s') where
      pub after-turns : (k : ℕ) → Valid g w Source (settle g w source end k) × P k (settle g w source end k)
      unfolding settle next
      after-turns zero = (start-valid n w, first)
      after-turns (suc k) =
          let s : State = settle g w source end k in
          let i = after-turns k in
          go s i (stopped source end s) refl (to_take g.vertices s) (to_take_is g.vertices s)
        where
          go : (s : State) → Valid g w Source s × P k s → (b : Bool) → stopped source end s ≡ b → (o : Option ℕ) → IsToTake g.vertices s o
              → Valid g w Source (cond b s (take_chosen g w s o)) × P (suc k) (cond b s (take_chosen g w s o))
          go s i true e o p = (i.0, rests k s i.1)
          go s i false e none p = (i.0, rests k s i.1)
          go s i false e (some a) p =
              let t = take-is a s i.0.fits p in
              (record { inv = keeps i.0.inv t.0; fits = t.1 }, moves k a s (take_vertex g w a s) i.0 e t.0 i.1)

    pub settle-valid : (k : ℕ) → Valid g w Source (settle g w source end k)
    settle-valid k = (after-turns (λ k s. Unit {0}) tt (λ k s p. tt) (λ k a s s' i f t p. tt) k).0

    -- ---- enough turns

    take-fewer : (a : ℕ) (s : State) → Valid g w Source s → IsToTake g.vertices s (some a) → untaken (take_vertex g w a s).status < untaken s.status
    unfolding not_taken
    take-fewer a s i p =
        let t = take-is a s i.fits p in
        let x = t.0 in
        untaken_lt s.status (take_vertex g w a s).status a (i.fits.status_fits ∙ sym t.1.status_fits)
        (λ v. not_taken_falls (status_at s v) (status_at (take_vertex g w a s) v) (λ e. (x.kept v e).0 ∙ e) (i.inv.small v)) (omega (arith, i.fits.status_fits, p.0))
        (subst₂ (λ y z. not_taken y < not_taken z) (sym x.took.0) (sym x.waits) (lit< tt))

    -- a turn is at rest, or leaves fewer
    progress : (s : State) → Valid g w Source s → AtRest g w source end s ⊎ (untaken (next g w source end s).status < untaken s.status)
    unfolding next
    progress s i = go (stopped source end s) refl (to_take g.vertices s) (to_take_is g.vertices s)
      where
        go : (b : Bool) → stopped source end s ≡ b → (o : Option ℕ) → IsToTake g.vertices s o
            → (Resting source end s × (cond b s (take_chosen g w s o) ≡ s)) ⊎ (untaken (cond b s (take_chosen g w s o)).status < untaken s.status)
        go true e o p = inl (inr e, refl)
        go false e none p = inl (inl (λ v q. p v (not_absent_in {k = 0} {s = s} i.fits q) q), refl)
        go false e (some a) p = inr (take-fewer a s i p)

    count : (k : ℕ) → AtRest g w source end (settle g w source end k) ⊎ (untaken (settle g w source end k).status + k ≤ g.vertices)
    unfolding settle
    count zero = inr (omega (arith, untaken_most (start g source).status, (start_fits g source).status_fits))
    count (suc k) = go (settle g w source end k) (count k) (progress (settle g w source end k) (settle-valid k))
      where
        go : (r : State) → AtRest g w source end r ⊎ (untaken r.status + k ≤ g.vertices)
            → AtRest g w source end r ⊎ (untaken (next g w source end r).status < untaken r.status)
            → AtRest g w source end (next g w source end r) ⊎ (untaken (next g w source end r).status + suc k ≤ g.vertices)
        go r (inl h) p = inl (subst (AtRest g w source end) (sym h.1) h)
        go r (inr c) (inl h) = inl (subst (AtRest g w source end) (sym h.1) h)
        go r (inr c) (inr d) = inr (omega arith)

    -- after as many turns as there are vertices settling is at rest, and further turns change nothing
    pub settled-rests : AtRest g w source end (settled g w source end)
    settled-rests = go (settled g w source end) (count g.vertices) (progress (settled g w source end) (settle-valid g.vertices))
      where
        go : (r : State) → AtRest g w source end r ⊎ (untaken r.status + g.vertices ≤ g.vertices)
            → AtRest g w source end r ⊎ (untaken (next g w source end r).status < untaken r.status) → AtRest g w source end r
        go r (inl h) p = h
        go r (inr c) (inl h) = h
        go r (inr c) (inr d) = absurd (omega arith)

-- ---- the end

and_false : (a : Bool) {b : Bool} → b ≡ false → (a && b) ≡ false
and_false true e = e
and_false false e = refl

-- an end that is a source stops nothing
pub source_stops_nothing : (source : ℕ → Bool) (b : ℕ) (s : State) → source b ≡ true → stopped source (some b) s ≡ false
unfolding stopped
source_stops_nothing source b s p = simp p

-- an end that is not taken does not stop yet
pub untaken_stops_nothing : (source : ℕ → Bool) (b : ℕ) (s : State) → status_at s b ≢ 2 → stopped source (some b) s ≡ false
unfolding stopped
untaken_stops_nothing source b s f = and_false (not (source b)) (ne_eqb (status_at s b) 2 f)

-- settling stops only at an end that is no source, once it is taken
pub end_taken : (source : ℕ → Bool) (end : Option ℕ) (s : State) → stopped source end s ≡ true → EndTaken source end s
unfolding stopped
end_taken source none s e = absurd (let z : ◌≡◌ {A = ℕ} 0 1 = cc in omega arith)
end_taken source (some b) s e = (
  λ p. let f = source_stops_nothing source b s p in let z : ◌≡◌ {A = ℕ} 0 1 = cc in omega arith,
  elim (ℕ_discrete (status_at s b) 2) [ yes p ↦ p | no p ↦ absurd (let f = untaken_stops_nothing source b s p in let z : ◌≡◌ {A = ℕ} 0 1 = cc in omega arith) ],
)
