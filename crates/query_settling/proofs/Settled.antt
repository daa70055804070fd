-- The loop of turns: where it begins, that its sums fit, and where it ends. Assumes nothing.
use mathlib.Core.Path.{◌≡◌, refl, sym, ap, ◌∙◌}
use mathlib.Core.Bool.{Bool, true, false, not, cond, ◌&&◌}
use mathlib.Core.List.{List, []}
use mathlib.Core.Option.{Option, some, none}
use Prim.Native.Nat.{ℕ, zero, suc, ◌+◌, ◌^◌, ◌-◌, ◌<◌, ◌≤◌}
use native.Mathlib.Decide.{dec_lt}
use native.Mathlib.Omega.{arith}
use lib.ListN.{length, get_or}
use lib.Dec.{eqb, ltb}
use borrow.Author.Tests.{ne_eqb, lt-ltb, le-ltb}
use Rattle.columns.specs.Lists.{each}
use Rattle.columns.proofs.Counting.{each-getD, each_same}
use Rattle.engine_walks.specs.Lists.{bit}
use Rattle.engine_walks.specs.Graph.{GraphInRange}
use Rattle.engine_walks.specs.Settling.{State, status_at, weight_at, start, stopped, to_take, take_chosen, next, settle, settled}
use Rattle.engine_walks.proofs.Limits.{sums_fit}
use Rattle.engine_walks.proofs.TurnCases.{settle-next, next-stopped, next-none, settled-early}
use Rattle.query_relaxing.specs.Ready.{graph_of, weighs, state_of, sources, end_of, Listed, Offers, Begun}

module _ (n : ℕ) (a b w status weight previous : List ℕ) (stop : ℕ) (len : length status ≡ n) (begun : Begun status weight previous w stop) where
  abbrev source : ℕ → Bool
  source = sources status

  abbrev end : Option ℕ
  end = end_of n stop

  -- before the first turn
  byte : (x : ℕ) → x ≤ 1 → bit (eqb x 1) ≡ x
  byte zero h = refl
  byte (suc zero) h = refl
  byte (suc (suc x)) h = absurd (omega arith)

  status-is : status ≡ each n (λ v. bit (source v))
  status-is = sym (each-getD status 0) ∙ ap (λ k. each k (λ v. get_or status v 0)) len ∙ sym (each_same n _ _ (λ v h. byte (get_or status v 0) (begun.bytes v)))

  pub begins : (m : List ℕ) → state_of status weight previous ≡ settle (graph_of n a b m) (weighs w) source end 0
  unfolding settle start
  begins m =
      (λ i. state_of (status-is i) (begun.no_weight i) (begun.own_previous i))
      ∙ ap (λ k. state_of (each n (λ v. bit (source v))) (each k (λ v. 0)) (each k (λ v. v))) len

  -- whether the end was taken
  pub stopped_by : (s : State) → stopped source end s ≡ (ltb stop n && eqb (status_at s stop) 2)
  unfolding stopped
  stopped_by s = elim (dec_lt stop n) [
    | yes h ↦ ap (λ c. stopped source (cond c (some stop) none) s) (lt-ltb stop n h)
        ∙ ap (λ c. not c && eqb (status_at s stop) 2) (ne_eqb (get_or status stop 0) 1 begun.no_source)
        ∙ sym (ap (λ c. c && eqb (status_at s stop) 2) (lt-ltb stop n h))
    | no h ↦ ap (λ c. stopped source (cond c (some stop) none) s) (le-ltb stop n (omega arith))
        ∙ sym (ap (λ c. c && eqb (status_at s stop) 2) (le-ltb stop n (omega arith)))
  ]

  module _ (t : ℕ) (s : State) (at : (m : List ℕ) → s ≡ settle (graph_of n a b m) (weighs w) source end t) where
    -- what a waiting vertex may offer fits
    pub offers-fit : {numbers ends : List ℕ} → Listed n a b w numbers ends → n ≤ 4096 → t < n → Offers s w
    offers-fit l few h v e p k =
        let g = graph_of n a b [] in
        let ok : GraphInRange g = record { a_in = l.in_a; b_in = l.in_b; byte = λ v h. omega arith } in
        let q = ((sums_fit g (weighs w) ok).1 few (λ e h. begun.weights_within e (omega (arith, l.same_w)))).0.offers source end t v e h (omega (arith, l.same_w)) (ap (λ z. status_at z v) (sym (at [])) ∙ p) in
        omega (arith, ap (λ z. weight_at z v) (at []), q)

    -- the end was taken, or nothing waits: that was the last turn
    pub ends-stopped : (m : List ℕ) → (ltb stop n && eqb (status_at s stop) 2) ≡ true → t ≤ n → s ≡ settled (graph_of n a b m) (weighs w) source end
    ends-stopped m e h =
        let g = graph_of n a b m in
        at m ∙ sym (settled-early g (weighs w) source end t (next-stopped g (weighs w) source end (settle g (weighs w) source end t)
        (ap (stopped source end) (sym (at m)) ∙ stopped_by s ∙ e)) h)

    pub ends-none : (m : List ℕ) → to_take n s ≡ none → t ≤ n → s ≡ settled (graph_of n a b m) (weighs w) source end
    ends-none m e h =
        let g = graph_of n a b m in
        at m ∙ sym (settled-early g (weighs w) source end t (next-none g (weighs w) source end (settle g (weighs w) source end t)
        (ap (to_take n) (sym (at m)) ∙ e)) h)

    -- one turn more
    pub goes_on : (m : List ℕ) (s' : State) → (ltb stop n && eqb (status_at s stop) 2) ≡ false → s' ≡ take_chosen (graph_of n a b m) (weighs w) s (to_take n s)
        → s' ≡ settle (graph_of n a b m) (weighs w) source end (t + 1)
    unfolding next
    goes_on m s' e p =
        let g = graph_of n a b m in
        p ∙ sym (ap (λ c. cond c s (take_chosen g (weighs w) s (to_take n s))) (stopped_by s ∙ e))
        ∙ ap (next g (weighs w) source end) (at m) ∙ sym (settle-next g (weighs w) source end t)
