-- What questions 2 to 5 say of a code that they accept. Assumes nothing.
use mathlib.Core.Path.{◌≡◌, refl, subst}
use mathlib.Core.Bool.{Bool, true, false, ◌||◌}
use mathlib.Core.Logic.{◌⊎◌, inl, inr}
use Prim.Native.Nat.{ℕ, ◌+◌, ◌-◌, ◌*◌, ◌/◌, ◌%◌, ◌≤◌, ◌<◌}
use native.Mathlib.Nat.{mul-le-mul_left, mul_left_comm, mul_assoc, mul-add}
use native.Mathlib.Decide.{ℕ_discrete, dec_le}
use native.Mathlib.Omega.{arith}
use lib.Dec.{eqb, leb}
use borrow.Author.Tests.{leb-true, eqb-true, eq-eqb, ne_eqb, le-leb, lt-leb}
use Rattle.columns.specs.Limits.{vertex_limit}
use Rattle.columns.specs.Questions.{ask}
use Rattle.columns.proofs.Tests.{and_both}
use Rattle.columns.proofs.Counting.{times_next}
use Rattle.codes_layers.specs.Counts.{layer_vertex_num, vertex_num, layer_edge_num, gap_edge_num, edge_num}
use Rattle.codes_layers.proofs.ByKind.{few}
use Rattle.codes_layers.specs.Accepts.{kind_known, distance_sound, rounds_sound, code_refusal, Buildable}

-- yes goes on
pub ask_zero : (b : Bool) (number next : ℕ) → ask b number next ≡ 0 → 1 ≤ number → (b ≡ true) × (next ≡ 0)
ask_zero true number next e h = (refl, e)
ask_zero false number next e h = absurd (omega arith)

or_cases : (a b : Bool) → (a || b) ≡ true → (a ≡ true) ⊎ (b ≡ true)
or_cases true b e = inl refl
or_cases false b e = inr e

pub record Distance (d : ℕ) : Type 0 where
  pub odd : d % 2 ≡ 1
  pub three : 3 ≤ d
  pub few : d ≤ 4095

pub distance_says : (d : ℕ) → distance_sound d ≡ true → Distance d
unfolding distance_sound
distance_says d e =
    let p = and_both (eqb (d % 2) 1) _ e in
    let q = and_both (leb 3 d) (leb d 4095) p.1 in
    record { odd = eqb-true (d % 2) 1 p.0; three = leb-true 3 d q.0; few = leb-true d 4095 q.1 }

-- 0 rounds, or a kind with layers
abbrev pub Layered : (kind rounds : ℕ) → Type 0
Layered kind rounds = (rounds ≡ 0) ⊎ ((kind ≡ 3) ⊎ ((kind ≡ 4) ⊎ (kind ≡ 6)))

pub rounds_says : (kind rounds : ℕ) → rounds_sound kind rounds ≡ true → (rounds ≤ 4095) × Layered kind rounds
unfolding rounds_sound
rounds_says kind rounds e =
    let p = and_both (leb rounds 4095) _ e in
    (leb-true rounds 4095 p.0, go (or_cases (eqb rounds 0) _ p.1))
  where
    last : (eqb kind 4 ≡ true) ⊎ (eqb kind 6 ≡ true) → Layered kind rounds
    last (inl q) = inr (inr (inl (eqb-true kind 4 q)))
    last (inr q) = inr (inr (inr (eqb-true kind 6 q)))

    more : (eqb kind 3 ≡ true) ⊎ ((eqb kind 4 || eqb kind 6) ≡ true) → Layered kind rounds
    more (inl q) = inr (inl (eqb-true kind 3 q))
    more (inr q) = last (or_cases (eqb kind 4) (eqb kind 6) q)

    go : (eqb rounds 0 ≡ true) ⊎ ((eqb kind 3 || (eqb kind 4 || eqb kind 6)) ≡ true) → Layered kind rounds
    go (inl q) = inl (eqb-true rounds 0 q)
    go (inr q) = more (or_cases (eqb kind 3) (eqb kind 4 || eqb kind 6) q)

pub record Accepted (kind d rounds : ℕ) : Type 0 where
  pub first : 1 ≤ kind
  pub last : kind ≤ 6
  pub distance : Distance d
  pub few_rounds : rounds ≤ 4095
  pub layers : Layered kind rounds
  pub few_vertices : vertex_num kind d rounds ≤ 4096

-- the questions are met, and what comes next is met too
pub accepted : (kind d rounds next : ℕ) → code_refusal kind d rounds next ≡ 0 → Accepted kind d rounds × (next ≡ 0)
unfolding code_refusal kind_known
accepted kind d rounds next e =
    let p = ask_zero (kind_known kind) 2 _ e (omega arith) in
    let q = ask_zero (distance_sound d) 3 _ p.1 (omega arith) in
    let r = ask_zero (rounds_sound kind rounds) 4 _ q.1 (omega arith) in
    let s = ask_zero (leb (vertex_num kind d rounds) vertex_limit) 5 next r.1 (omega arith) in
    let k = and_both (leb 1 kind) (leb kind 6) p.0 in
    let t = rounds_says kind rounds r.0 in (
      record {
        first = leb-true 1 kind k.0;
        last = leb-true kind 6 k.1;
        distance = distance_says d q.0;
        few_rounds = t.0;
        layers = t.1;
        few_vertices = leb-true _ _ s.0;
      },
      s.1,
    )

-- the questions are met where more questions follow and are met
pub buildable : (kind d rounds next : ℕ) → code_refusal kind d rounds next ≡ 0 → Buildable kind d rounds
buildable kind d rounds next e = subst (λ (n : ℕ). code_refusal kind d rounds n ≡ 0) (accepted kind d rounds next e).1 e

-- a code with few vertices has few edges
layer_few : (kind d : ℕ) → 3 ≤ d → layer_edge_num kind d ≤ 2 * layer_vertex_num kind d
unfolding layer_edge_num layer_vertex_num
layer_few kind d h = elim (ℕ_discrete kind 1) [
  | yes e ↦ simp (eq-eqb _ _ e) (omega arith)
  | no f ↦ elim (dec_le kind 4) [
    | yes l ↦ simp (ne_eqb _ _ f, le-leb _ _ l) (omega (arith, few (d - 1) (d - 1) (d) (d) (omega arith) (omega arith), mul-add d d 1))
    | no l ↦ simp (ne_eqb _ _ f, lt-leb kind 4 (omega arith)) (omega (arith, few (d) (d) (2 * ((d + 1) / 2)) (d + 1) (omega arith) (omega arith), mul_assoc 2 ((d + 1) / 2) (d + 1)))
  ]
]

gap_few : (kind d : ℕ) → 3 ≤ d → gap_edge_num kind d ≤ 4 * layer_vertex_num kind d
unfolding gap_edge_num layer_vertex_num
gap_few kind d h = elim (ℕ_discrete kind 3) [
  | yes e ↦ simp (eq-eqb _ _ e, ne_eqb kind 1 (λ q. omega arith), le-leb kind 4 (omega arith)) (omega (arith, few (d) (d - 1) (d) (d + 1) (omega arith) (omega arith)))
  | no f ↦ elim (ℕ_discrete kind 4) [
    | yes e ↦ simp (ne_eqb _ _ f, eq-eqb _ _ e, ne_eqb kind 1 (λ q. omega arith), le-leb kind 4 (omega arith))
        (omega (
          arith,
          few (d) (d - 1) (d) (d + 1) (omega arith) (omega arith),
          few (d) (d - 2) (d) (d + 1) (omega arith) (omega arith),
          few (d - 1) (d - 1) (d) (d + 1) (omega arith) (omega arith),
          few (d - 1) (d - 2) (d) (d + 1) (omega arith) (omega arith),
        ))
    | no g ↦ elim (ℕ_discrete kind 6) [
      | yes e ↦ simp (ne_eqb _ _ f, ne_eqb _ _ g, eq-eqb _ _ e) (omega arith)
      | no l ↦ simp (ne_eqb _ _ f, ne_eqb _ _ g, ne_eqb _ _ l) (omega arith)
    ]
  ]
]

-- at most six edges a vertex
pub edges_six : (kind d rounds : ℕ) → 3 ≤ d → edge_num kind d rounds ≤ 6 * vertex_num kind d rounds
edges_six kind d rounds three =
    let l : (rounds + 1) * layer_edge_num kind d ≤ (rounds + 1) * (2 * layer_vertex_num kind d) = mul-le-mul_left (rounds + 1) (layer_few kind d three) in
    let g : rounds * gap_edge_num kind d ≤ rounds * (4 * layer_vertex_num kind d) = mul-le-mul_left rounds (gap_few kind d three) in
    omega (arith, l, g, mul_left_comm (rounds + 1) 2 (layer_vertex_num kind d), mul_left_comm rounds 4 (layer_vertex_num kind d), times_next rounds (layer_vertex_num kind d))

pub edges_few : (kind d rounds : ℕ) → Accepted kind d rounds → edge_num kind d rounds ≤ 24576
edges_few kind d rounds ok = omega (arith, edges_six kind d rounds ok.distance.three, ok.few_vertices)
