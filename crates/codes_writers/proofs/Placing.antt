-- Laws of runs of stored vertices. Assumes nothing.
use mathlib.Core.Path.{◌≡◌, refl, sym, ap, ◌∙◌, subst}
use Prim.Native.Nat.{ℕ, zero, suc, ◌+◌, ◌-◌, ◌*◌, ◌≤◌, ◌<◌}
use native.Mathlib.Nat.{add-zero, le_antisymm}
use native.Mathlib.Omega.{arith}
use mathlib.Core.List.{List, [], ◌∷◌, ◌++◌}
use lib.ListN.{length}
use lib.Seq.{length-sets}
use lib.Ieee.{Float}
use Rattle.columns.specs.Lists.{each, joined}
use Rattle.columns.proofs.Counting.{each_more, joined-more}
use Rattle.codes_writers.specs.declared.CodeVertex.{CodeVertex}
use Rattle.codes_writers.specs.Edges.{boundaries, positions_i, positions_j, positions_t}
use Rattle.codes_writers.specs.Steps.{VertexRoom, Placed}
use Rattle.codes_writers.proofs.Wrote.{run_then, next_then}

-- the columns keep their lengths
pub record Kept (m₀ : List ℕ) (i₀ j₀ t₀ : List Float) (m : List ℕ) (i j t : List Float) : Type 0 where
  pub kept_m : length m ≡ length m₀
  pub kept_i : length i ≡ length i₀
  pub kept_j : length j ≡ length j₀
  pub kept_t : length t ≡ length t₀

module _ {m₀ : List ℕ} {i₀ j₀ t₀ : List Float} {at : ℕ} where
  pub placed-none : Placed m₀ i₀ j₀ t₀ at [] m₀ i₀ j₀ t₀ at
  placed-none = record { in_m = refl; in_i = refl; in_j = refl; in_t = refl; next = sym (add-zero at) }

  module _ {vs : List CodeVertex} {m : List ℕ} {i j t : List Float} {r : ℕ} where
    pub placed-kept : Placed m₀ i₀ j₀ t₀ at vs m i j t r → Kept m₀ i₀ j₀ t₀ m i j t
    placed-kept p = record {
      kept_m = ap length p.in_m ∙ length-sets m₀ at (boundaries vs);
      kept_i = ap length p.in_i ∙ length-sets i₀ at (positions_i vs);
      kept_j = ap length p.in_j ∙ length-sets j₀ at (positions_j vs);
      kept_t = ap length p.in_t ∙ length-sets t₀ at (positions_t vs);
    }

    -- one run after another
    pub placed-then : {us : List CodeVertex} {m' : List ℕ} {i' j' t' : List Float} {r' : ℕ}
        → Placed m₀ i₀ j₀ t₀ at vs m i j t r → Placed m i j t r us m' i' j' t' r' → Placed m₀ i₀ j₀ t₀ at (vs ++ us) m' i' j' t' r'
    placed-then {us} p q = record {
      in_m = run_then (λ (v : CodeVertex). v.boundary) m₀ at vs us p.in_m p.next q.in_m;
      in_i = run_then (λ (v : CodeVertex). v.position.i) i₀ at vs us p.in_i p.next q.in_i;
      in_j = run_then (λ (v : CodeVertex). v.position.j) j₀ at vs us p.in_j p.next q.in_j;
      in_t = run_then (λ (v : CodeVertex). v.position.t) t₀ at vs us p.in_t p.next q.in_t;
      next = next_then at vs us p.next q.next;
    }

    pub placed-as : {us : List CodeVertex} → vs ≡ us → Placed m₀ i₀ j₀ t₀ at vs m i j t r → Placed m₀ i₀ j₀ t₀ at us m i j t r
    placed-as e p = subst (λ (l : List CodeVertex). Placed m₀ i₀ j₀ t₀ at l m i j t r) e p

    -- room for k more, where the run so far and k more fit
    pub more_room : (n k : ℕ) → VertexRoom m₀ i₀ j₀ t₀ at n → length vs + k ≤ n → Placed m₀ i₀ j₀ t₀ at vs m i j t r → VertexRoom m i j t r k
    more_room n k w h p =
        let kept = placed-kept p in
        record {
          room_m = omega (arith, w.room_m, kept.kept_m, p.next);
          room_i = omega (arith, w.room_i, kept.kept_i, p.next);
          room_j = omega (arith, w.room_j, kept.kept_j, p.next);
          room_t = omega (arith, w.room_t, kept.kept_t, p.next);
        }

  -- a loop that stores one vertex a turn: the turn, the end
  module _ (f : ℕ → CodeVertex) {k : ℕ} {m : List ℕ} {i j t : List Float} {r : ℕ} where
    pub each_placed : {m' : List ℕ} {i' j' t' : List Float} {r' : ℕ}
        → Placed m₀ i₀ j₀ t₀ at (each k f) m i j t r → Placed m i j t r (f k ∷ []) m' i' j' t' r' → Placed m₀ i₀ j₀ t₀ at (each (k + 1) f) m' i' j' t' r'
    each_placed p q = placed-as (sym (each_more k f)) (placed-then p q)

    pub each-done : {n : ℕ} → Placed m₀ i₀ j₀ t₀ at (each k f) m i j t r → k ≤ n → n ≤ k → Placed m₀ i₀ j₀ t₀ at (each n f) m i j t r
    each-done p h l = placed-as (ap (λ (x : ℕ). each x f) (le_antisymm h l)) p

  -- a loop that stores a list of vertices a turn
  module _ (f : ℕ → List CodeVertex) {k : ℕ} {m : List ℕ} {i j t : List Float} {r : ℕ} where
    pub joined-placed : {m' : List ℕ} {i' j' t' : List Float} {r' : ℕ}
        → Placed m₀ i₀ j₀ t₀ at (joined k f) m i j t r → Placed m i j t r (f k) m' i' j' t' r' → Placed m₀ i₀ j₀ t₀ at (joined (k + 1) f) m' i' j' t' r'
    joined-placed p q = placed-as (sym (joined-more k f)) (placed-then p q)

    pub joined-done : {n : ℕ} → Placed m₀ i₀ j₀ t₀ at (joined k f) m i j t r → k ≤ n → n ≤ k → Placed m₀ i₀ j₀ t₀ at (joined n f) m i j t r
    joined-done p h l = placed-as (ap (λ (x : ℕ). joined x f) (le_antisymm h l)) p
