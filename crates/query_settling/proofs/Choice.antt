-- The vertex that a turn takes, by the least key, and the edges that it goes through, by its neighbour list. Assumes nothing.
use mathlib.Core.Path.{◌≡◌, refl, sym, ap, ◌∙◌, subst}
use mathlib.Core.Logic.{◌≢◌}
use mathlib.Core.Bool.{cond}
use mathlib.Core.List.{List}
use mathlib.Core.Option.{some, none}
use Prim.Native.Nat.{ℕ, zero, suc, ◌+◌, ◌*◌, ◌-◌, ◌%◌, ◌<◌, ◌≤◌}
use native.Mathlib.Decide.{ℕ_discrete}
use native.Mathlib.Numerals.{add-one}
use native.Mathlib.Omega.{arith}
use lib.ListN.{length, get_or, take, drop, length-drop}
use lib.Seq.{get_or-take, get_or-drop}
use lib.Dec.{eqb}
use borrow.Author.Tests.{eq-eqb, ne_eqb, eqb-true}
use Rattle.columns.specs.Limits.{sum_limit}
use Rattle.columns.specs.Lists.{joined}
use Rattle.query_queue.specs.Tree.{Least}
use Rattle.query_queue.specs.Tree as Q
use Rattle.columns_neighbors.specs.Lists.{lists, neighbors, hits}
use Rattle.columns_neighbors.proofs.Placing.{list_of, lists_more, lists-count, apart, neighbors_at, EdgeOf}
use Rattle.engine_walks.specs.Graph.{Graph}
use Rattle.engine_walks.specs.Settling as S
use Rattle.engine_walks.specs.Settling.{State, status_at, weight_at, previous_at, to_take, mark, relax_edge, take_chosen, relax_along}
use Rattle.engine_walks.proofs.FirstLeast.{first-least-one}
use Rattle.engine_walks.proofs.Neighbors.{incident, incident_is, along-next, relax-incident}
use Rattle.query_relaxing.specs.Ready.{key_of, Ready, Listed, Along, Offers, graph_of, weighs, start_in}

-- ---- the least key

module _ {n : ℕ} {s : State} {node leaf : List ℕ} (r : Ready n s node leaf) (key : ℕ) (l : Least leaf n key) where
  waiting : (v : ℕ) → v < n → status_at s v ≡ 1 → (get_or leaf v 0 ≡ weight_at s v * 4096 + v) × (get_or leaf v 0 < Q.no_key)
  waiting v h e =
      let k = r.keys v h ∙ ap (λ x. key_of x (weight_at s v) v) e in
      (k, omega (arith, k, r.weights_within v h, r.few))

  absent : (v : ℕ) → v < n → status_at s v ≢ 1 → get_or leaf v 0 ≡ Q.no_key
  absent v h f = r.keys v h ∙ ap (λ b. cond b (weight_at s v * 4096 + v) Q.no_key) (ne_eqb (status_at s v) 1 f)

  -- no vertex waits
  pub takes_none : key ≡ Q.no_key → to_take n s ≡ none
  takes_none e = first-least-one (λ v. eqb (status_at s v) 1) (weight_at s) n none
      (λ v h. ne_eqb (status_at s v) 1 (λ q. omega (arith, l.below v h, (waiting v h q).1)))

  -- the vertex that the least key names
  pub taken_is : key ≢ Q.no_key → (key % 4096 < n) × (status_at s (key % 4096) ≡ 1) × (to_take n s ≡ some (key % 4096))
  taken_is f =
      let v = l.number in
      elim (ℕ_discrete (status_at s v) 1) [
        | no q ↦ absurd (f (sym l.there ∙ absent v l.inside q))
        | yes q ↦
            let k : key ≡ weight_at s v * 4096 + v = sym l.there ∙ (waiting v l.inside q).0 in
            let v-is : key % 4096 ≡ v = omega (arith, l.inside, r.few) in
            subst (λ a. (a < n) × (status_at s a ≡ 1) × (to_take n s ≡ some a)) (sym v-is) (
              l.inside,
              q,
              first-least-one (λ u. eqb (status_at s u) 1) (weight_at s) n (some v) (
                l.inside,
                eq-eqb (status_at s v) 1 q,
                λ u h e. let w = (waiting u h (eqb-true (status_at s u) 1 e)).0 in
                    (omega (arith, l.below u h, l.inside, r.few), λ g. omega (arith, l.below u h, l.inside, r.few)),
              ),
            )
      ]

-- ---- the list of a vertex

-- one place more of the lists, as a loop goes through them
pub along_more : (g : Graph) (w : ℕ → ℕ) (a q W : ℕ) (numbers : List ℕ) (from i : ℕ) (s : State) → from ≤ i → i < length numbers
    → relax_along g w a q W (take (i + 1 - from) (drop from numbers)) s ≡ relax_edge g w a q W (get_or numbers i 0) (relax_along g w a q W (take (i - from) (drop from numbers)) s)
along_more g w a q W numbers from i s h l =
    let k : i + 1 - from ≡ suc (i - from) = omega arith in
    let j : from + (i - from) ≡ i = omega arith in
    ap (λ n. relax_along g w a q W (take n (drop from numbers)) s) k
    ∙ along-next g w a q W (drop from numbers) (i - from) s (omega (arith, length-drop from numbers))
    ∙ ap (λ e. relax_edge g w a q W e (relax_along g w a q W (take (i - from) (drop from numbers)) s)) (get_or-drop from numbers (i - from) 0 ∙ ap (λ n. get_or numbers n 0) j)

pub along_none : (g : Graph) (w : ℕ → ℕ) (a q W : ℕ) (numbers : List ℕ) (from : ℕ) (s : State) → relax_along g w a q W (take (from - from) (drop from numbers)) s ≡ s
unfolding relax_along
along_none g w a q W numbers from s = let z : from - from ≡ 0 = omega arith in ap (λ n. relax_along g w a q W (take n (drop from numbers)) s) z

module _ {n : ℕ} {a b w numbers ends : List ℕ} (l : Listed n a b w numbers ends) (v : ℕ) (inside : v < n) where
  abbrev E : ℕ
  E = length a

  abbrev from : ℕ
  from = start_in ends v

  abbrev to : ℕ
  to = get_or ends v 0

  from_is : from ≡ length (lists a b E v)
  from_is = go v inside
    where
      go : (u : ℕ) → u < n → start_in ends u ≡ length (lists a b E u)
      go zero h = unfold lists joined in refl
      go (suc u) h = l.ends_are u (omega arith) ∙ ap (λ k. length (lists a b E k)) (add-one u)

  to_is : to ≡ from + length (neighbors a b E v)
  to_is = omega (arith, l.ends_are v inside, lists_more a b E v, from_is)

  total : length (lists a b E n) ≡ 2 * E
  total = lists-count a b E n l.in_a l.in_b

  to_in : to ≤ length numbers
  to_in = omega (arith, to_is, from_is, apart a b E v n inside, total, l.numbers_fit)

  -- the places of v hold its list
  pub part_is : take (to - from) (drop from numbers) ≡ neighbors a b E v
  part_is =
      let m : to - from ≡ length (neighbors a b E v) = omega (arith, to_is) in
      (λ i. take (m i) (drop (from_is i) numbers)) ∙ list_of a b E n v numbers l.numbers_are inside

  entry : (i : ℕ) → from ≤ i → i < to → EdgeOf a b E v (get_or numbers i 0)
  entry i h k =
      let j : from + (i - from) ≡ i = omega arith in
      let at : get_or (neighbors a b E v) (i - from) 0 ≡ get_or numbers i 0 =
      ap (λ x. get_or x (i - from) 0) (sym part_is) ∙ get_or-take (to - from) (drop from numbers) (i - from) 0 (omega arith) ∙ get_or-drop from numbers (i - from) 0 ∙ ap (λ x. get_or numbers x 0) j in
      subst (EdgeOf a b E v) at (neighbors_at a b E v (i - from) (omega (arith, to_is)))

  pub along : (W : ℕ) → ((e : ℕ) → e < E → W + get_or w e 0 < sum_limit) → Along n a b w numbers from to v W
  along W within = record {
    same_b = l.same_b;
    same_w = l.same_w;
    in_a = l.in_a;
    in_b = l.in_b;
    ordered = omega (arith, to_is);
    inside = to_in;
    edge = λ i h k. (entry i h k).before;
    at_v = λ i h k. (entry i h k).at_v;
    weights_within = within;
  }

  incident-neighbors : (m : List ℕ) → neighbors a b E v ≡ incident (graph_of n a b m) v E
  incident-neighbors m = incident_is (graph_of n a b m) v (λ k. neighbors a b k v) (unfold neighbors joined in refl) (λ k. unfold neighbors joined hits in refl) E

  -- going through them is the turn that takes v
  pub taken-along : (m : List ℕ) (s : State)
      → relax_along (graph_of n a b m) (weighs w) v (previous_at s v) (weight_at s v) (take (to - from) (drop from numbers)) (mark s v) ≡ S.take_vertex (graph_of n a b m) (weighs w) v s
  unfolding S.take_vertex
  taken-along m s =
      let g = graph_of n a b m in
      let q = previous_at s v in
      let W = weight_at s v in
      ap (λ es. relax_along g (weighs w) v q W es (mark s v)) (part_is ∙ incident-neighbors m)
      ∙ sym (relax-incident g (weighs w) v q W E (mark s v) l.differ)

-- ---- a turn as the code makes it: v is the vertex of the least key, whose list stands at the places from `from` to `to`

module _ {n : ℕ} {s : State} {node leaf : List ℕ} (r : Ready n s node leaf) (key : ℕ) (l : Least leaf n key) (f : key ≢ Q.no_key)
    {a b w numbers ends : List ℕ} (listed : Listed n a b w numbers ends) (v u from' to' : ℕ)
    (v-is : v ≡ key % 4096) (u-is : u ≡ key % 4096) (from-is' : from' ≡ start_in ends v) (to-is' : to' ≡ get_or ends v 0) where
  pub v_in : v < n
  v_in = subst (λ x. x < n) (sym v-is) (taken_is r key l f).0

  v-waits : status_at s v ≡ 1
  v-waits = ap (status_at s) v-is ∙ (taken_is r key l f).1

  pub turn_along : {n' : ℕ} → n ≡ n' → Offers s w → Along n' a b w numbers from' to' u (weight_at s v)
  turn_along {n'} e offers =
      subst (λ k. Along k a b w numbers from' to' u (weight_at s v)) e
      (subst (λ k. Along n a b w numbers k to' u (weight_at s v)) (sym from-is')
      (subst (λ k. Along n a b w numbers (start_in ends v) k u (weight_at s v)) (sym to-is')
      (subst (λ k. Along n a b w numbers (start_in ends v) (get_or ends v 0) k (weight_at s v)) (v-is ∙ sym u-is)
      (along listed v v_in (weight_at s v) (λ e h. offers v e v-waits (omega (arith, listed.same_w)))))))

  pub turn_is : (m : List ℕ) (s' : State)
      → s' ≡ relax_along (graph_of n a b m) (weighs w) u (previous_at s v) (weight_at s v) (take (to' - from') (drop from' numbers)) (mark s v)
      → s' ≡ take_chosen (graph_of n a b m) (weighs w) s (to_take n s)
  turn_is m s' p =
      let g = graph_of n a b m in
      p ∙ (λ i. relax_along g (weighs w) ((u-is ∙ sym v-is) i) (previous_at s v) (weight_at s v) (take (to-is' i - from-is' i) (drop (from-is' i) numbers)) (mark s v))
      ∙ taken-along listed v v_in m s ∙ ap (take_chosen g (weighs w) s) (ap some v-is ∙ sym (taken_is r key l f).2)
