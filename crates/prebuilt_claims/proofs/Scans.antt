-- The Rust's loop over the peers finds the nearest virtual vertex, and its test for edges in the middle is that of a row. Assumes nothing.
use mathlib.Core.Path.{◌≡◌, refl, sym, ap, ◌∙◌}
use mathlib.Core.Bool.{Bool, true, false, cond, ◌&&◌, ◌||◌}
use mathlib.Core.List.{List}
use mathlib.Core.Option.{Option, some, none}
use Prim.Native.Nat.{ℕ, zero, suc, ◌+◌, ◌<◌}
use native.Mathlib.Omega.{arith}
use lib.ListN.{get_or}
use lib.Dec.{ltb, eqb}
use lib.IntN.{ℤ, pos, negsuc}
use borrow.Author.Tests.{eqb-true}
use Rattle.columns.proofs.Counting.{getD-each}
use Rattle.engine_walks.specs.Graph.{Graph}
use Rattle.engine_walks.specs.Settling.{lesser, first_least, weight_at, settled}
use Rattle.engine_walks.specs.Answers.{weight_in, table, taken, table_weight, only}
use Rattle.engine_walks.specs.Claims.{IsFirst}
use Rattle.engine_walks.proofs.FirstLeast.{first-least}
use Rattle.prebuilt_entries.specs.Entries.{is_virtual, entry_by}
use Rattle.prebuilt_entries.specs.Nearest.{is_reached, amount, nearest_in, boundary_in, weight_to, vertex_to}
use Rattle.prebuilt_claims.specs.Prebuilt.{virtual, reached, complete_edge, Peer, offered, boundary_below, get_boundary_weight, remaining, get_edge_weight, edge_entry, weight_entry, vertex_entry}

peer : ℕ → ℕ → Peer
peer u weight = record { vertex = u; weight = weight }

true_false : {A : Type 0} {b : Bool} → b ≡ true → b ≡ false → A
true_false {b = b} p q = absurd (let z : ◌≡◌ {A = ℕ} 0 1 = cc in omega arith)

-- ---- the loop over the peers

module _ (g : Graph) (w : ℕ → ℕ) (v : ℕ) where
  abbrev T : List ℤ
  T = (table g w v none).weights

  abbrev at : ℕ → ℕ
  at u = amount (weight_in T u)

  abbrev pub peerOf : Option ℕ → Option Peer
  peerOf none = none
  peerOf (some u) = some (record { vertex = u; weight = at u })

  one : (n : ℕ) (b same : Bool) (z : ℤ) (o : Option ℕ) → (b ≡ true → same ≡ false) → z ≡ weight_in T n
      → cond b (offered n (cond same none (reached z)) (peerOf o)) (peerOf o) ≡ peerOf (cond (b && is_reached z) (lesser at n o) o)
  one n false same z o f e = refl
  one n true true z o f e = true_false refl (f refl)
  one n true false (negsuc k) o f e = refl
  one n true false (pos k) none f e = ap (λ (j : ℕ). some (record { vertex = n; weight = j })) (ap amount e)
  one n true false (pos k) (some a) f e = two (ltb (at n) (at a)) (ltb k (at a)) (ap (λ (z : ℤ). ltb (amount z) (at a)) e)
    where
      two : (b c : Bool) → c ≡ b → cond c (some (record { vertex = n; weight = k })) (some (record { vertex = a; weight = at a })) ≡ peerOf (cond b (some n) (some a))
      two true true q = ap (λ (j : ℕ). some (record { vertex = n; weight = j })) (ap amount e)
      two true false q = true_false refl (sym q)
      two false true q = true_false refl q
      two false false q = refl

  pub scan : virtual g v ≡ false → (n : ℕ) → boundary_below g w v n ≡ peerOf (nearest_in g.boundary T n)
  unfolding boundary_below first_least
  scan inner zero = refl
  scan inner (suc n) =
      ap (λ o. cond (virtual g n) (offered n (complete_edge g w v n) o) o) (scan inner n)
      ∙ one n (virtual g n) (eqb n v) (weight_in T n) (nearest_in g.boundary T n) (λ e. other (eqb n v) refl e) refl
    where
      other : (b : Bool) → eqb n v ≡ b → virtual g n ≡ true → b ≡ false
      other false q e = refl
      other true q e = true_false (ap (virtual g) (sym (eqb-true n v q)) ∙ e) inner

  pub scanned : get_boundary_weight g w v ≡ peerOf (boundary_in g.boundary T g.vertices v)
  scanned = go (virtual g v) refl
    where
      go : (b : Bool) → virtual g v ≡ b → cond b none (boundary_below g w v g.vertices) ≡ peerOf (cond b none (nearest_in g.boundary T g.vertices))
      go true q = refl
      go false q = scan q g.vertices

  -- the two columns
  known : (z : ℤ) → is_reached z ≡ true → z ≡ pos (amount z)
  known (pos k) q = refl
  known (negsuc n) q = true_false q refl

  weight-by : (b : Bool) (o : Option ℕ) → IsFirst (λ u. is_virtual (get_or g.boundary u 0) && is_reached (weight_in T u)) at g.vertices o
      → weight_to T (cond b none o) ≡ weight_entry (peerOf (cond b none o))
  weight-by true o p = refl
  weight-by false none p = refl
  weight-by false (some u) p = known (weight_in T u) (second (is_virtual (get_or g.boundary u 0)) (is_reached (weight_in T u)) p.1)
    where
      second : (a b : Bool) → (a && b) ≡ true → b ≡ true
      second true b q = q
      second false b q = true_false q refl

  pub weight-column : weight_to T (boundary_in g.boundary T g.vertices v) ≡ weight_entry (get_boundary_weight g w v)
  weight-column = weight-by (virtual g v) (nearest_in g.boundary T g.vertices) (first-least _ _ g.vertices) ∙ ap weight_entry (sym scanned)

  vertex-by : (o : Option ℕ) → vertex_to o ≡ vertex_entry (peerOf o)
  vertex-by none = refl
  vertex-by (some u) = refl

  pub vertex-column : vertex_to (boundary_in g.boundary T g.vertices v) ≡ vertex_entry (get_boundary_weight g w v)
  vertex-column = vertex-by (boundary_in g.boundary T g.vertices v) ∙ ap vertex_entry (sym scanned)

-- ---- an entry of a row

entry_by_lem : (own other same : Bool) (a b : Option Peer) (found : Bool) (k : ℕ)
    → entry_by (own || (other || same)) (weight_entry a) (weight_entry b) (cond found (pos k) (negsuc 0))
    ≡ edge_entry (remaining a b (cond (own || other) none (cond same none (reached (cond found (pos k) (negsuc 0))))))
entry_by_lem true other same a b found k = refl
entry_by_lem false true same a b found k = refl
entry_by_lem false false true a b found k = refl
entry_by_lem false false false none b false k = refl
entry_by_lem false false false (some x) none false k = refl
entry_by_lem false false false (some x) (some y) false k = refl
entry_by_lem false false false none b true k = refl
entry_by_lem false false false (some x) none true k = refl
entry_by_lem false false false (some x) (some y) true k = go (ltb (x.weight + y.weight) k)
  where
    go : (m : Bool) → cond m (negsuc 0) (pos k) ≡ edge_entry (cond m none (some k))
    go true = refl
    go false = refl

module _ (g : Graph) (w : ℕ → ℕ) (v u : ℕ) (h : u < g.vertices) where
  in_table : weight_in (table g w v none).weights u ≡ cond (taken (settled g w (only v) none) u) (pos (weight_at (settled g w (only v) none) u)) (negsuc 0)
  unfolding table
  in_table = getD-each g.vertices (table_weight (settled g w (only v) none)) (negsuc 0) u h

  pub entry-is : entry_by (virtual g v || (virtual g u || eqb u v)) (weight_entry (get_boundary_weight g w v)) (weight_entry (get_boundary_weight g w u)) (weight_in (table g w v none).weights u)
      ≡ edge_entry (get_edge_weight g w v u)
  entry-is =
      let z = in_table in
      ap (entry_by (virtual g v || (virtual g u || eqb u v)) (weight_entry (get_boundary_weight g w v)) (weight_entry (get_boundary_weight g w u))) z
      ∙ entry_by_lem (virtual g v) (virtual g u) (eqb u v) (get_boundary_weight g w v) (get_boundary_weight g w u) (taken (settled g w (only v) none) u) (weight_at (settled g w (only v) none) u)
      ∙ ap (λ x. edge_entry (remaining (get_boundary_weight g w v) (get_boundary_weight g w u) (cond (virtual g v || virtual g u) none (cond (eqb u v) none (reached x))))) (sym z)
