-- Reading a path back, step by step. Assumes nothing.
use mathlib.Core.Path.{◌≡◌, refl, sym, ap, ◌∙◌}
use mathlib.Core.Bool.{Bool, true, false, cond}
use mathlib.Core.List.{List, [], ◌∷◌, ◌++◌, map, append_assoc, append-nil}
use mathlib.Core.Option.{Option, some, none}
use Prim.Native.Nat.{ℕ, zero, suc, ◌+◌, ◌-◌, ◌<◌, ◌≤◌}
use native.Mathlib.Omega.{arith}
use lib.ListN.{length, set, length-append}
use lib.Seq.{sets, set_comm}
use lib.Dec.{eqb}
use Rattle.columns.specs.declared.VertexIndex.{VertexIndex}
use Rattle.engine_walks.specs.Graph.{Graph}
use Rattle.engine_walks.specs.Settling.{State, previous_at, settled}
use Rattle.engine_walks.specs.Answers.{entry, behind, read_back_of, taken, step_into, only, path, path_in}
use Rattle.std.specs.Prelude.{Some, None}
use Rattle.query_read_back.specs.Path.{entry_of, step_back, path_of}

-- the path of a to b in s, written down to place i and read back to v
pub record Written (s : State) (a n b i v : ℕ) (vertices₀ vertices steps₀ steps : List ℕ) : Type 0 where
  pub room : ℕ
  pub rest : List ℕ
  pub reads : read_back_of s a n b ≡ read_back_of s a room v ++ rest
  pub count : length (read_back_of s a room v) ≡ i
  pub in_vertices : vertices ≡ sets vertices₀ i rest
  pub in_steps : steps ≡ sets steps₀ i (map (step_into s) rest)

-- an entry says which step there was
pub entry_none : (o : Option ℕ) → entry_of o ≡ None → o ≡ none
entry_none none e = refl
entry_none (some v) e = absurd (let z : ◌≡◌ {A = ℕ} 0 1 = cc in omega arith)

pub entry_some : (o : Option ℕ) (p : VertexIndex) → entry_of o ≡ Some p → o ≡ some p.0
entry_some none p e = absurd (let z : ◌≡◌ {A = ℕ} 0 1 = cc in omega arith)
entry_some (some v) p e = let q : ◌≡◌ {A = VertexIndex} (record { 0 = v }) p = cc in ap (λ (x : VertexIndex). some x.0) q

module _ (s : State) (a : ℕ) where
  read_by : (n v : ℕ) → read_back_of s a (suc n) v ≡ behind (read_back_of s a n) (step_back s a v) v
  unfolding read_back_of
  read_by n v = go (eqb v a)
    where
      go : (b : Bool) → cond b [] (behind (read_back_of s a n) (entry s v) v) ≡ behind (read_back_of s a n) (cond b none (entry s v)) v
      go true = refl
      go false = refl

  pub back_none : (n v : ℕ) → step_back s a v ≡ none → read_back_of s a (suc n) v ≡ []
  back_none n v e = read_by n v ∙ ap (λ o. behind (read_back_of s a n) o v) e

  pub back_some : (n v p : ℕ) → step_back s a v ≡ some p → read_back_of s a (suc n) v ≡ read_back_of s a n p ++ (v ∷ [])
  back_some n v p e = read_by n v ∙ ap (λ o. behind (read_back_of s a n) o v) e

  pub back-zero : (v : ℕ) → read_back_of s a 0 v ≡ []
  unfolding read_back_of
  back-zero v = refl

  -- a path read back in at most n steps has at most n vertices
  pub read_short : (n v : ℕ) → length (read_back_of s a n v) ≤ n
  read_short zero v = omega (arith, ap length (back-zero v))
  read_short (suc n) v = by (read_short n) (step_back s a v) refl
    where
      by : ((p : ℕ) → length (read_back_of s a n p) ≤ n) → (o : Option ℕ) → step_back s a v ≡ o → length (read_back_of s a (suc n) v) ≤ suc n
      by less none e = omega (arith, ap length (back_none n v e))
      by less (some p) e = omega (arith, ap length (back_some n v p e), length-append (read_back_of s a n p) (v ∷ []), less p)

  -- one step more of the count
  pub count-more : (n j v p : ℕ) → j < n → step_back s a v ≡ some p → length (read_back_of s a (n - j) v) ≡ length (read_back_of s a (n - (j + 1)) p) + 1
  count-more n j v p h e =
      let k : n - j ≡ suc (n - (j + 1)) = omega arith in
      ap (λ m. length (read_back_of s a m v)) k ∙ ap length (back_some (n - (j + 1)) v p e) ∙ length-append (read_back_of s a (n - (j + 1)) p) (v ∷ [])

  pub count_none : (n j v : ℕ) → j < n → step_back s a v ≡ none → length (read_back_of s a (n - j) v) ≡ 0
  count_none n j v h e =
      let k : n - j ≡ suc (n - (j + 1)) = omega arith in
      ap (λ m. length (read_back_of s a m v)) k ∙ ap length (back_none (n - (j + 1)) v e)

  pub count-end : (n j v : ℕ) → n ≤ j → length (read_back_of s a (n - j) v) ≡ 0
  count-end n j v h = let k : n - j ≡ 0 = omega arith in ap (λ m. length (read_back_of s a m v)) k ∙ ap length (back-zero v)

sets_before : (xs : List ℕ) (i y : ℕ) (j : ℕ) (ys : List ℕ) → i < j → sets (set xs i y) j ys ≡ set (sets xs j ys) i y
sets_before xs i y j [] h = refl
sets_before xs i y j (z ∷ ys) h =
    ap (λ (l : List ℕ). sets l (suc j) ys) (set_comm xs i j y z (λ e. omega (arith, h, e))) ∙ sets_before (set xs j z) i y (suc j) ys (omega (arith, h))

pub step_some : (s : State) (a v p : ℕ) → step_back s a v ≡ some p → p ≡ previous_at s v
step_some s a v p e = go (eqb v a) (taken s v) e
  where
    go : (x y : Bool) → cond x none (cond y (some (previous_at s v)) none) ≡ some p → p ≡ previous_at s v
    go true y e = absurd (let z : ◌≡◌ {A = ℕ} 0 1 = cc in omega arith)
    go false false e = absurd (let z : ◌≡◌ {A = ℕ} 0 1 = cc in omega arith)
    go false true e = let q : ◌≡◌ {A = ℕ} (previous_at s v) p = cc in sym q

module _ (s : State) (a n b : ℕ) (vertices₀ steps₀ : List ℕ) where
  pub written-more : (i v : ℕ) (vertices steps : List ℕ) → Written s a n b (suc i) v vertices₀ vertices steps₀ steps
      → Written s a n b i (previous_at s v) vertices₀ (set vertices i v) steps₀ (set steps i (step_into s v))
  written-more i v vertices steps w = by-room w.room refl
    where
      end : Type 0
      end = Written s a n b i (previous_at s v) vertices₀ (set vertices i v) steps₀ (set steps i (step_into s v))

      by-step : (m : ℕ) → w.room ≡ suc m → (o : Option ℕ) → step_back s a v ≡ o → end
      by-step m em none e =
          let q = ap (λ r. length (read_back_of s a r v)) em ∙ ap length (back_none s a m v e) in
          let c = w.count in absurd (omega (arith, q, c))
      by-step m em (some p) e =
          let q : read_back_of s a w.room v ≡ read_back_of s a m (previous_at s v) ++ (v ∷ []) =
          ap (λ r. read_back_of s a r v) em ∙ back_some s a m v p e ∙ ap (λ u. read_back_of s a m u ++ (v ∷ [])) (step_some s a v p e) in
          let l = ap length q ∙ length-append (read_back_of s a m (previous_at s v)) (v ∷ []) in
          let c = w.count in
          record {
            room = m;
            rest = v ∷ w.rest;
            reads = w.reads ∙ ap (λ r. r ++ w.rest) q ∙ append_assoc (read_back_of s a m (previous_at s v)) (v ∷ []) w.rest;
            count = omega (arith, l, c);
            in_vertices = ap (λ (r : List ℕ). set r i v) w.in_vertices ∙ sym (sets_before vertices₀ i v (suc i) w.rest (omega arith));
            in_steps = ap (λ (r : List ℕ). set r i (step_into s v)) w.in_steps ∙ sym (sets_before steps₀ i (step_into s v) (suc i) (map (step_into s) w.rest) (omega arith));
          }

      by-room : (r : ℕ) → w.room ≡ r → end
      by-room zero e =
          let q = ap (λ r. length (read_back_of s a r v)) e ∙ ap length (back-zero s a v) in
          let c = w.count in absurd (omega (arith, q, c))
      by-room (suc m) e = by-step m e (step_back s a v) refl

  -- while places are left, there is a step back
  pub step-there : (i v : ℕ) (vertices steps : List ℕ) → Written s a n b (suc i) v vertices₀ vertices steps₀ steps → step_back s a v ≡ none → ⊥
  step-there i v vertices steps w e = by-room w.room refl
    where
      by-room : (r : ℕ) → w.room ≡ r → ⊥
      by-room zero q = let c = w.count in absurd (omega (arith, ap (λ r. length (read_back_of s a r v)) q ∙ ap length (back-zero s a v), c))
      by-room (suc m) q = let c = w.count in absurd (omega (arith, ap (λ r. length (read_back_of s a r v)) q ∙ ap length (back_none s a m v e), c))

  all_read : (v : ℕ) (vertices steps : List ℕ) (w : Written s a n b 0 v vertices₀ vertices steps₀ steps) → w.rest ≡ read_back_of s a n b
  all_read v vertices steps w = sym (w.reads ∙ ap (λ r. r ++ w.rest) (none_left (read_back_of s a w.room v) w.count))
    where
      none_left : (l : List ℕ) → length l ≡ 0 → l ≡ []
      none_left [] e = refl
      none_left (x ∷ l) e = absurd (omega (arith, e))

-- the path in a state that is the settled one
pub path_of_lem : (g : Graph) (w : ℕ → ℕ) (a b : ℕ) (s : State) → s ≡ settled g w (only a) (some b) → path_of s g.vertices a b ≡ path g w a b
unfolding path path_in
path_of_lem g w a b s e = ap (λ t. path_of t g.vertices a b) e
