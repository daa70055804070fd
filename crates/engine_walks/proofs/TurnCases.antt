-- The tie rule, an offer, an edge and a turn, case by case, as code goes through them. Assumes nothing.
use mathlib.Core.Path.{◌≡◌, refl, sym, ap, ◌∙◌}
use mathlib.Core.Logic.{◌≢◌}
use mathlib.Core.Bool.{Bool, true, false, cond}
use mathlib.Core.Option.{Option, some, none}
use Prim.Native.Nat.{ℕ, zero, suc, ◌+◌, ◌-◌, ◌≤◌, ◌<◌}
use native.Mathlib.Numerals.{add-one}
use native.Mathlib.Omega.{arith}
use lib.ListN.{set}
use lib.Seq.{set-get_or}
use lib.Dec.{ltb}
use borrow.Author.Tests.{eq-eqb, ne_eqb, lt-ltb, le-ltb}
use Rattle.engine_walks.specs.Graph.{Graph, end_a, end_b}
use Rattle.engine_walks.specs.Settling.{State, status_at, weight_at, previous_at, to_take, apart, changes, waits, by_status, offer, relax_edge, relax, take_vertex, take_chosen, stopped, next, settle, settled}

-- ---- the tie rule

module _ (u k q w' q' : ℕ) where
  pub changes-lighter : k < w' → changes u k q w' q' ≡ true
  unfolding changes
  changes-lighter h = simp (lt-ltb k w' h, ne_eqb k w' (omega arith))

  pub changes-heavier : w' < k → changes u k q w' q' ≡ false
  unfolding changes
  changes-heavier h = simp (le-ltb k w' (omega arith), ne_eqb k w' (omega arith))

  module _ (e : k ≡ w') where
    pub changes-nearer : apart u q < apart u q' → changes u k q w' q' ≡ true
    unfolding changes
    changes-nearer h =
        simp (le-ltb k w' (omega arith), eq-eqb k w' e, lt-ltb (apart u q) (apart u q') h, ne_eqb (apart u q) (apart u q') (omega arith))

    pub changes-farther : apart u q' < apart u q → changes u k q w' q' ≡ false
    unfolding changes
    changes-farther h =
        simp (le-ltb k w' (omega arith), eq-eqb k w' e, le-ltb (apart u q) (apart u q') (omega arith), ne_eqb (apart u q) (apart u q') (omega arith))

    pub changes-equally-near : apart u q ≡ apart u q' → changes u k q w' q' ≡ ltb q q'
    unfolding changes
    changes-equally-near h =
        simp (le-ltb k w' (omega arith), eq-eqb k w' e, le-ltb (apart u q) (apart u q') (omega arith), eq-eqb (apart u q) (apart u q') h)

-- ---- an offer

module _ (a q u k : ℕ) (s : State) where
  pub offer-absent : status_at s u ≡ 0 → offer a q u k s ≡ waits u k a s
  unfolding offer by_status
  offer-absent e = rw e

  pub offer-changes : status_at s u ≡ 1 → changes u k q (weight_at s u) (previous_at s u) ≡ true → offer a q u k s ≡ waits u k a s
  unfolding offer by_status
  offer-changes e c = rw (e, c)

  pub offer-stays : status_at s u ≡ 1 → changes u k q (weight_at s u) (previous_at s u) ≡ false → offer a q u k s ≡ s
  unfolding offer by_status
  offer-stays e c = rw (e, c)

  pub offer-skips : status_at s u ≡ 2 → offer a q u k s ≡ s
  unfolding offer by_status
  offer-skips e = rw e

  -- a vertex that waits keeps its status byte
  pub waits-again : status_at s u ≡ 1
      → waits u k a s ≡ record { status = s.status; weight = set s.weight u k; previous = set s.previous u a }
  waits-again e =
      ap (λ l. record { status = l; weight = set s.weight u k; previous = set s.previous u a })
      (ap (set s.status u) (sym e) ∙ set-get_or s.status u 0)

-- ---- an edge

module _ (g : Graph) (w : ℕ → ℕ) (a q W e : ℕ) (s : State) where
  pub edge-from-a : end_a g e ≡ a → relax_edge g w a q W e s ≡ offer a q (end_b g e) (W + w e) s
  unfolding relax_edge
  edge-from-a p = rw (eq-eqb (end_a g e) a p)

  pub edge-from-b : end_a g e ≢ a → end_b g e ≡ a → relax_edge g w a q W e s ≡ offer a q (end_a g e) (W + w e) s
  unfolding relax_edge
  edge-from-b f p = rw (ne_eqb (end_a g e) a f, eq-eqb (end_b g e) a p)

  pub edge-elsewhere : end_a g e ≢ a → end_b g e ≢ a → relax_edge g w a q W e s ≡ s
  unfolding relax_edge
  edge-elsewhere f h = rw (ne_eqb (end_a g e) a f, ne_eqb (end_b g e) a h)

  -- one edge more, as a loop counts
  pub relax-next : relax g w a q W (e + 1) s ≡ relax_edge g w a q W e (relax g w a q W e s)
  unfolding relax
  relax-next = rw add-one

-- ---- a turn

module _ (g : Graph) (w : ℕ → ℕ) (source : ℕ → Bool) (end : Option ℕ) where
  pub next-stopped : (s : State) → stopped source end s ≡ true → next g w source end s ≡ s
  unfolding next
  next-stopped s e = rw e

  pub next-none : (s : State) → to_take g.vertices s ≡ none → next g w source end s ≡ s
  unfolding next
  next-none s e = go (stopped source end s)
    where
      go : (b : Bool) → cond b s (take_chosen g w s (to_take g.vertices s)) ≡ s
      go true = refl
      go false = rw e

  pub next-takes : (s : State) (a : ℕ) → stopped source end s ≡ false → to_take g.vertices s ≡ some a → next g w source end s ≡ take_vertex g w a s
  unfolding next
  next-takes s a p e = rw (p, e)

  -- one turn more, as a loop counts
  pub settle-next : (k : ℕ) → settle g w source end (k + 1) ≡ next g w source end (settle g w source end k)
  unfolding settle
  settle-next k = rw add-one

  -- a turn that changes nothing is the last that matters
  module _ (k : ℕ) (rest : next g w source end (settle g w source end k) ≡ settle g w source end k) where
    stays : (j : ℕ) → settle g w source end (j + k) ≡ settle g w source end k
    stays zero = ap (settle g w source end) (omega arith)
    stays (suc j) = ap (settle g w source end) (omega arith) ∙ settle-next (j + k) ∙ ap (next g w source end) (stays j) ∙ rest

    pub settled-early : k ≤ g.vertices → settled g w source end ≡ settle g w source end k
    settled-early h = ap (settle g w source end) (omega arith) ∙ stays (g.vertices - k)
