-- Laws of stamps, of last places with the same number, and of numbers twice in a list. Assumes nothing.
use mathlib.Core.Path.{◌≡◌, refl, sym, ap, ◌∙◌, subst}
use mathlib.Core.Bool.{Bool, true, false, ◌&&◌, cond, false≢true}
use mathlib.Core.List.{List}
use Prim.Native.Nat.{ℕ, zero, suc, ◌+◌, ◌-◌, ◌≤◌, ◌<◌}
use native.Mathlib.Decide.{ℕ_discrete}
use native.Mathlib.Numerals.{add-one}
use native.Mathlib.Omega.{arith}
use borrow.Author.Tests.{eq-eqb, ne_eqb, leb-true, ltb-true, le-leb, lt-ltb}
use lib.Dec.{eqb, leb, ltb}
use lib.ListN.{length, get_or, take, drop, length-take, length-drop}
use lib.Seq.{get_or-take, get_or-drop}
use Rattle.std.specs.Prelude.{Option, None, Some, is_some}
use Rattle.sanity_verdicts.specs.declared.Finding.{Finding}
use Rattle.sanity_verdicts.specs.declared.Finding.TheVariants.{NoEdges, EdgeTwice}
use Rattle.sanity_verdicts.specs.Sanity.{edge_numbered, vertex_numbered, first_of, found_if, twice, at_vertex, lists_finding}
use Rattle.columns.proofs.Tests.{and_both, both_and}
use Rattle.columns_neighbors.specs.Lists.{sum_to, neighbor_list_at}
use Rattle.columns_neighbors.proofs.Placing.{sum_more, sum_ascends}
use Rattle.columns_places.specs.Places.{LastSame}
use Rattle.sanity_verdicts.specs.ListSteps.{Seen, Stamped, Below, Ascends}
use Rattle.sanity_verdicts.proofs.Scans.{none_of, first_none, first_next, first_stop, first-all, first_same, first_any, found_false}

module _ (numbers : List ℕ) (start : ℕ) where
  -- none of the numbers
  pub seen_none : (i x : ℕ) → ((j : ℕ) → j < i → get_or numbers (start + j) 0 ≡ x → ⊥) → Seen numbers start i x false
  seen_none i x f = record { yes = λ t. absurd (false≢true t); no = λ t. f }

  -- a new stamp, before the first number
  pub stamp_new : (v : ℕ) (mark : List ℕ) → Below v mark → Stamped numbers start 0 (v + 1) mark
  stamp_new v mark b = record {
    most = λ x h. omega (arith, b.most x h);
    stamped = λ x h t. absurd (omega (arith, b.most x h));
    has = λ j h. absurd (omega arith);
  }

  -- seen by the last place with the same number
  pub seen_last : (i x p : ℕ) → get_or numbers (start + i) 0 ≡ x → LastSame numbers (start + i) p → Seen numbers start i x (leb start p && ltb p (start + i))
  seen_last i x p e l = record {
    yes = λ t.
        let (t₁, t₂) = and_both (leb start p) (ltb p (start + i)) t in
        let a : start ≤ p = leb-true start p t₁ in
        let b : p < start + i = ltb-true p (start + i) t₂ in
        let at : start + (p - start) ≡ p = omega arith in
        (p - start, (omega arith, ap (λ (m : ℕ). get_or numbers m 0) at ∙ l.same ∙ e));
    no = λ t j h q.
        let (b, m) = l.last (start + j) (omega arith) (q ∙ sym e) in
        false≢true (sym t ∙ both_and (le-leb start p (omega arith)) (lt-ltb p (start + i) b));
  }

pub stamp_below : {numbers : List ℕ} {start i stamp : ℕ} {mark : List ℕ} → Stamped numbers start i stamp mark → Below stamp mark
stamp_below s = record { most = s.most }

pub below_more : (v : ℕ) {mark : List ℕ} → Below v mark → Below (v + 1) mark
below_more v b = record { most = λ x h. omega (arith, b.most x h) }

-- ---- the loop over a list

-- the part of a column that starts at a place and has a length
abbrev pub part : (numbers : List ℕ) (start len : ℕ) → List ℕ
part numbers start len = take len (drop start numbers)

-- the finding at place i of a vertex's list
finding : (list : List ℕ) (v i : ℕ) → Option Finding
finding list v i = first_of i (λ j. found_if (eqb (get_or list j 0) (get_or list i 0)) (EdgeTwice (edge_numbered (get_or list i 0)) (vertex_numbered v)))

-- no finding at the first i places
pub NoneTwice : (list : List ℕ) (v i : ℕ) → Type 0
NoneTwice list v i = first_of i (finding list v) ≡ None

pub none_start : (list : List ℕ) (v : ℕ) → NoneTwice list v 0
unfolding NoneTwice first_of
none_start list v = refl

module _ (numbers : List ℕ) (start len v : ℕ) (fits : start + len ≤ length numbers) where
  list_length : length (part numbers start len) ≡ len
  list_length = omega (arith, length-take len (drop start numbers), length-drop start numbers)

  list_at : (i : ℕ) → i < len → get_or (part numbers start len) i 0 ≡ get_or numbers (start + i) 0
  list_at i h = get_or-take len (drop start numbers) i 0 h ∙ get_or-drop start numbers i 0

  module _ (i x : ℕ) (h : i < len) (e : get_or numbers (start + i) 0 ≡ x) where
    finding-none : Seen numbers start i x false → finding (part numbers start len) v i ≡ None
    unfolding finding
    finding-none s = first-all _ i (λ j l. found_false _ _ (ne_eqb (get_or (part numbers start len) j 0) (get_or (part numbers start len) i 0) (λ q. s.no refl j l (sym (list_at j (omega arith)) ∙ q ∙ list_at i h ∙ e))))

    finding-some : Seen numbers start i x true → finding (part numbers start len) v i ≡ Some (EdgeTwice (edge_numbered x) (vertex_numbered v))
    unfolding finding
    finding-some s =
        let list = part numbers start len in
        let (j, (l, q)) = s.yes refl in
        first_any (λ j. eqb (get_or list j 0) (get_or list i 0)) (EdgeTwice (edge_numbered (get_or list i 0)) (vertex_numbered v)) i j l (eq-eqb _ _ (list_at j (omega arith) ∙ q ∙ sym e ∙ sym (list_at i h)))
        ∙ ap (λ (y : ℕ). Some (EdgeTwice (edge_numbered y) (vertex_numbered v))) (list_at i h ∙ e)

    pub none_next : {r : Bool} → Seen numbers start i x r → r ≡ false → NoneTwice (part numbers start len) v i → NoneTwice (part numbers start len) v (i + 1)
    unfolding NoneTwice
    none_next {r} s f n = first_next (finding (part numbers start len) v) i n (finding-none (subst (Seen numbers start i x) f s))

    pub twice_stop : {r : Bool} → Seen numbers start i x r → r ≡ true → NoneTwice (part numbers start len) v i → Some (EdgeTwice (edge_numbered x) (vertex_numbered v)) ≡ twice (part numbers start len) v
    unfolding NoneTwice twice finding
    twice_stop {r} s t n =
        let it = finding-some (subst (Seen numbers start i x) t s) in
        sym (first_stop (finding (part numbers start len) v) (length (part numbers start len)) i (omega (arith, list_length)) n (ap is_some it) ∙ it)

  pub twice_none : NoneTwice (part numbers start len) v len → None ≡ twice (part numbers start len) v
  unfolding NoneTwice twice finding
  twice_none n = sym (ap (λ (k : ℕ). first_of k (finding (part numbers start len) v)) list_length ∙ n)

-- ---- lists that ascend

module _ (numbers : List ℕ) (start len : ℕ) (a : Ascends numbers start len) where
  above : (i j : ℕ) → j < i → i < len → get_or numbers (start + j) 0 < get_or numbers (start + i) 0
  above zero j h l = absurd (omega arith)
  above (suc i) j h l =
      let next : get_or numbers (start + i) 0 < get_or numbers (start + suc i) 0 = subst (λ (k : ℕ). get_or numbers (start + i) 0 < get_or numbers (start + k) 0) (add-one i) (a i (omega arith)) in
      elim (ℕ_discrete j i) [
        | yes e ↦ subst (λ (k : ℕ). get_or numbers (start + k) 0 < get_or numbers (start + suc i) 0) (sym e) next
        | no e ↦ omega (arith, above i j (omega arith) (omega arith))
      ]

  -- no number stands twice in a list that ascends
  twice-ascends : (v : ℕ) → start + len ≤ length numbers → twice (part numbers start len) v ≡ None
  unfolding twice finding
  twice-ascends v fits = first-all (finding (part numbers start len) v) (length (part numbers start len)) (λ i l.
      let h : i < len = omega (arith, list_length numbers start len v fits) in
      finding-none numbers start len v fits i (get_or numbers (start + i) 0) h refl (seen_none numbers start i (get_or numbers (start + i) 0) (λ j k e. omega (arith, above i j k h))))

-- ---- the finding at a vertex

pub no_edges : (list : List ℕ) (len v : ℕ) → len ≡ 0 → Some (NoEdges (vertex_numbered v)) ≡ at_vertex list len v
unfolding at_vertex
no_edges list len v e = ap (λ (t : Bool). cond t (Some (NoEdges (vertex_numbered v))) (twice list v)) (sym (eq-eqb len 0 e))

pub some_edges : (list : List ℕ) (len v : ℕ) → (len ≡ 0 → ⊥) → twice list v ≡ at_vertex list len v
unfolding at_vertex
some_edges list len v f = ap (λ (t : Bool). cond t (Some (NoEdges (vertex_numbered v))) (twice list v)) (sym (ne_eqb len 0 f))

-- the list of vertex v ends within the column
pub list_room : (lengths numbers : List ℕ) (n v : ℕ) {start len : ℕ} → v < n → sum_to n lengths ≤ length numbers → start ≡ sum_to v lengths → len ≡ get_or lengths v 0 → start + len ≤ length numbers
list_room lengths numbers n v h t p q = omega (arith, sum_more v lengths, sum_ascends (v + 1) n lengths (omega arith))

-- the finding at vertex v, from where its list starts and its length
pub vertex_is : (lengths numbers : List ℕ) (v : ℕ) {len start : ℕ} {r : Option Finding} → len ≡ get_or lengths v 0 → start ≡ sum_to v lengths
    → r ≡ at_vertex (part numbers start len) len v → r ≡ at_vertex (neighbor_list_at lengths numbers v) (get_or lengths v 0) v
vertex_is lengths numbers v {len} {start} {r} p q e = e ∙ λ i. at_vertex (take (p i) (drop (q i) numbers)) (p i) v

-- where the lists ascend, a finding is a vertex without edges
pub lists_ascend : (lengths numbers : List ℕ) (n : ℕ) → sum_to n lengths ≤ length numbers → ((u : ℕ) → u < n → Ascends numbers (sum_to u lengths) (get_or lengths u 0))
    → first_of n (λ u. found_if (eqb (get_or lengths u 0) 0) (NoEdges (vertex_numbered u))) ≡ lists_finding n lengths numbers
unfolding at_vertex
lists_ascend lengths numbers n fits a = first_same n _ _ (λ u h.
    ap (λ (x : Option Finding). cond (eqb (get_or lengths u 0) 0) (Some (NoEdges (vertex_numbered u))) x)
    (sym (twice-ascends numbers (sum_to u lengths) (get_or lengths u 0) (a u h) u (list_room lengths numbers n u h fits refl refl))))

-- ---- what the loops over a list and over the vertices need

pub ruleset list_laws = (none_start, none_next, twice_stop, twice_none, stamp_new, stamp_below)

pub ruleset vertex_laws = (no_edges, some_edges, below_more)

pub ruleset room_laws = (list_room, sum_more)

pub ruleset finding_laws = (vertex_is, none_of, first_none, first_next, first_stop)
