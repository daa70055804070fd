-- A built code that was opened is a graph of `codes_graphs`. Assumes nothing.
use Rattle.std.specs.Prelude.{Option, Ok}
use mathlib.Core.Path.{◌≡◌, sym, ap, ◌∙◌, subst}
use mathlib.Core.Bool.{true}
use mathlib.Core.List.{List, ◌++◌}
use mathlib.Core.Option.{some}
use Prim.Native.Nat.{ℕ, ◌≤◌}
use native.Mathlib.Nat.{min-le_right}
use lib.ListN.{length, take, drop, length-map, length-take, take-append-drop}
use lib.Ieee.{Float}
use Rattle.columns.specs.Lists.{over, after}
use Rattle.columns.specs.Questions.{ask, weights_sound, boundaries_sound}
use Rattle.columns.proofs.Tests.{both_and}
use Rattle.columns_neighbors.specs.Sound.{graph_sound}
use Rattle.columns.proofs.Columns.{take-over, after-accepted}
use Rattle.engine_columns.specs.Questions.{columns_long}
use Rattle.engine_columns.specs.Open.{GraphColumns, graph_columns, open_refusal}
use Rattle.engine_columns.proofs.Refusals.{ColumnsLong, columns-long-from, ColumnsSound, columns-sound-from}
use Rattle.engine_tally.specs.Tally.{tally_of}
use Rattle.engine_walks.specs.Answers.{crossing}
use Rattle.codes_writers.specs.Edges.{Ends, firsts, seconds, boundaries}
use Rattle.codes_writers.specs.declared.CodeVertex.{CodeVertex}
use Rattle.codes_layers.specs.Codes.{edges_of, vertices_of}
use Rattle.codes_layers.specs.Counts.{vertex_num, edge_num}
use Rattle.codes_layers.specs.Accepts.{Buildable}
use Rattle.codes_layers.proofs.Accepted.{buildable}
use Rattle.codes_graphs.specs.Graphs.{built_graph}
use Rattle.codes_graphs.specs.Claims.{BuiltCode}
use Rattle.codes_graphs.proofs.Sound.{codes_are_sound}
use Rattle.codes_graphs.proofs.Distance.{codes_have_distance}
use Rattle.codes_calls.specs.Columns.{CodeColumns}
use Rattle.codes_calls.specs.CreateCode.{code_counts, create_refusal, refusal_in, CreateCode}
use Rattle.codes_calls.proofs.Cases.{code_case}
use Rattle.codes_calls.specs.NewCode.{new_refusal, new_refusal_in, WeightedCode}
use Rattle.claims.specs.Listed.{tally_graph}
use Rattle.claims.specs.BuildersCalled.{CodeBuilt, create_called, new_called, new_diagonal_called, create_returned, new_returned, new_diagonal_returned}

accepted_code : (kind d rounds : ℕ) (c : CodeColumns) → refusal_in kind d rounds c ≡ 0 → Buildable kind d rounds
unfolding create_refusal
accepted_code kind d rounds c z = buildable kind d rounds _ z

-- what a built code hands to open
pub record BuiltGraph (kind d rounds v e : ℕ) (ends_a ends_b boundary : List ℕ) : Type 0 where
  pub accepted : Buildable kind d rounds
  pub vertices_are : v ≡ vertex_num kind d rounds
  pub edges_are : e ≡ edge_num kind d rounds
  pub ends_a_are : take e ends_a ≡ firsts (edges_of kind d rounds)
  pub ends_b_are : take e ends_b ≡ seconds (edges_of kind d rounds)
  pub boundary_are : take v boundary ≡ boundaries (vertices_of kind d rounds)

-- the lists are as long as the counts
module _ (kind d rounds : ℕ) (ok : Buildable kind d rounds) where
  firsts-long : length (firsts (edges_of kind d rounds)) ≡ edge_num kind d rounds
  firsts-long = length-map (edges_of kind d rounds) (λ (x : Ends). x.0) ∙ (codes_are_sound kind d rounds ok).edges

  seconds-long : length (seconds (edges_of kind d rounds)) ≡ edge_num kind d rounds
  seconds-long = length-map (edges_of kind d rounds) (λ (x : Ends). x.1) ∙ (codes_are_sound kind d rounds ok).edges

  boundaries-long : length (boundaries (vertices_of kind d rounds)) ≡ vertex_num kind d rounds
  boundaries-long = length-map (vertices_of kind d rounds) (λ (x : CodeVertex). x.boundary) ∙ (codes_are_sound kind d rounds ok).vertices

-- from the columns of any builder
columns_say : (kind d rounds q v e : ℕ) (a₀ b₀ m₀ a b m : List ℕ) → Buildable kind d rounds → (q ≡ 0) × (v ≡ vertex_num kind d rounds) × (e ≡ edge_num kind d rounds)
    → a ≡ after q (firsts (edges_of kind d rounds)) a₀ → b ≡ after q (seconds (edges_of kind d rounds)) b₀ → m ≡ after q (boundaries (vertices_of kind d rounds)) m₀
    → BuiltGraph kind d rounds v e a b m
columns_say kind d rounds q v e a₀ b₀ m₀ a b m ok (z, p, r) in_a in_b in_m =
    let es = edges_of kind d rounds in
    let vs = vertices_of kind d rounds in
    record {
      accepted = ok;
      vertices_are = p;
      edges_are = r;
      ends_a_are = ap (take e) (in_a ∙ after-accepted q (firsts es) a₀ z) ∙ take-over (firsts es) a₀ e (firsts-long kind d rounds ok ∙ sym r);
      ends_b_are = ap (take e) (in_b ∙ after-accepted q (seconds es) b₀ z) ∙ take-over (seconds es) b₀ e (seconds-long kind d rounds ok ∙ sym r);
      boundary_are = ap (take v) (in_m ∙ after-accepted q (boundaries vs) m₀ z) ∙ take-over (boundaries vs) m₀ v (boundaries-long kind d rounds ok ∙ sym p);
    }

create_says : (kind d rounds : ℕ) (lent back : CodeColumns) (v e : ℕ) → CreateCode kind d rounds lent back (Ok (code_counts v e))
    → BuiltGraph kind d rounds v e back.ends_a back.ends_b back.boundary
create_says kind d rounds lent back v e h =
    let k = code_case h.answers in
    columns_say kind d rounds (refusal_in kind d rounds lent) v e lent.ends_a lent.ends_b lent.boundary _ _ _ (accepted_code kind d rounds lent k.0) k h.columns_after.ends_a_after h.columns_after.ends_b_after h.columns_after.boundary_after

accepted_new : (kind d rounds : ℕ) (p : Float) (diagonal : Option Float) (max : ℕ) (c : CodeColumns) → new_refusal_in kind d rounds p diagonal max c ≡ 0 → Buildable kind d rounds
unfolding new_refusal
accepted_new kind d rounds p diagonal max c z = buildable kind d rounds _ z

weighted_says : (kind d rounds : ℕ) (p : Float) (diagonal : Option Float) (max : ℕ) (lent back : CodeColumns) (v e : ℕ)
    → WeightedCode kind d rounds p diagonal max lent back (Ok (code_counts v e)) → BuiltGraph kind d rounds v e back.ends_a back.ends_b back.boundary
weighted_says kind d rounds p diagonal max lent back v e h =
    let q = new_refusal_in kind d rounds p diagonal max lent in
    let k = code_case h.answers in
    columns_say kind d rounds q v e lent.ends_a lent.ends_b lent.boundary _ _ _ (accepted_new kind d rounds p diagonal max lent k.0) k
    h.columns_after.ends_a_after h.columns_after.ends_b_after h.columns_after.boundary_after

pub built_of : (kind d rounds v e : ℕ) (a b m : List ℕ) → CodeBuilt kind d rounds v e a b m → BuiltGraph kind d rounds v e a b m
built_of kind d rounds v e a b m (create_called v' e' (create_returned κs x q s h)) = create_says _ _ _ _ _ v' e' h
built_of kind d rounds v e a b m (new_called v' e' (new_returned κs x q s h)) = weighted_says _ _ _ _ _ _ _ _ v' e' h
built_of kind d rounds v e a b m (new_diagonal_called v' e' (new_diagonal_returned κs x q s h)) = weighted_says _ _ _ _ _ _ _ _ v' e' h

-- handed on in other columns
pub handed_on : {kind d rounds v e : ℕ} {a b m a' b' m' : List ℕ} → BuiltGraph kind d rounds v e a b m → take e a' ≡ take e a → take e b' ≡ take e b → take v m' ≡ take v m
    → BuiltGraph kind d rounds v e a' b' m'
handed_on g p q r = record {
  accepted = g.accepted;
  vertices_are = g.vertices_are;
  edges_are = g.edges_are;
  ends_a_are = p ∙ g.ends_a_are;
  ends_b_are = q ∙ g.ends_b_are;
  boundary_are = r ∙ g.boundary_are;
}

-- opened, its crossing weight with every weight 1 is d
pub built_distance : (kind d rounds v e : ℕ) (handed : GraphColumns) → BuiltGraph kind d rounds v e handed.ends_a handed.ends_b handed.boundary
    → crossing (tally_graph (tally_of v e handed)) (λ k. 1) ≡ some d
unfolding built_graph
built_distance kind d rounds v e handed b =
    (λ i. crossing (record { vertices = b.vertices_are i; ends_a = b.ends_a_are i; ends_b = b.ends_b_are i; boundary = b.boundary_are i }) (λ k. 1))
    ∙ (codes_have_distance kind d rounds b.accepted).crossing_weight

-- ---- opened

-- a column that is written over its own first places
own_places : (n : ℕ) (vs column : List ℕ) → take n column ≡ vs → length vs ≡ n → column ≡ over vs column
own_places n vs column p q = sym (take-append-drop n column) ∙ (λ i. p i ++ drop (sym q i) column)

has_places : (n : ℕ) (vs column : List ℕ) → take n column ≡ vs → length vs ≡ n → n ≤ length column
has_places n vs column p q = subst (λ k. k ≤ length column) (sym (length-take n column) ∙ ap length p ∙ q) (min-le_right n (length column))

module _ (kind d rounds v e : ℕ) (a b m : List ℕ) (g : BuiltGraph kind d rounds v e a b m) where
  code : BuiltCode kind d rounds
  code = codes_are_sound kind d rounds g.accepted

  abbrev es : List Ends
  es = edges_of kind d rounds

  abbrev vs : List CodeVertex
  vs = vertices_of kind d rounds

  many-firsts : length (firsts es) ≡ e
  many-firsts = firsts-long kind d rounds g.accepted ∙ sym g.edges_are

  many-seconds : length (seconds es) ≡ e
  many-seconds = seconds-long kind d rounds g.accepted ∙ sym g.edges_are

  many-boundaries : length (boundaries vs) ≡ v
  many-boundaries = boundaries-long kind d rounds g.accepted ∙ sym g.vertices_are

  -- question 6, with weights that are long enough
  pub built-long : (w : List ℕ) → e ≤ length w → ColumnsLong v e a b w m
  built-long w l = record {
    ends_a = has_places e (firsts es) a g.ends_a_are many-firsts;
    ends_b = has_places e (seconds es) b g.ends_b_are many-seconds;
    weights = l;
    boundary = has_places v (boundaries vs) m g.boundary_are many-boundaries;
  }

  -- question 7, with weights that are sound
  built-sound : (w : List ℕ) → weights_sound e w ≡ true → ColumnsSound v e a b w m
  built-sound w s = record {
    graph = (λ i. graph_sound (g.vertices_are i) (g.edges_are i) (own_places e (firsts es) a g.ends_a_are many-firsts i) (own_places e (seconds es) b g.ends_b_are many-seconds i)) ∙ code.graph a b;
    weights = s;
    boundary = (λ i. boundaries_sound (g.vertices_are i) (own_places v (boundaries vs) m g.boundary_are many-boundaries i)) ∙ code.boundary m;
  }

  pub built-accepted : (w : List ℕ) (lent : GraphColumns) → e ≤ length w → weights_sound e w ≡ true → columns_long v e lent.ends_a lent.ends_b lent.weights lent.boundary ≡ true
      → open_refusal v e (graph_columns a b w m) lent ≡ 0
  built-accepted w lent l s t =
      λ i. ask (both_and (columns-long-from v e a b w m (built-long w l)) t i) 6 (ask (columns-sound-from v e a b w m (built-sound w s) i) 7 0)
