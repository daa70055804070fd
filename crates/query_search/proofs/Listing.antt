-- The neighbour lists that a search goes through. Assumes nothing.
use mathlib.Core.Path.{◌≡◌, refl, ap, ◌∙◌, subst}
use mathlib.Core.List.{List}
use Prim.Native.Nat.{ℕ, ◌≤◌}
use native.Mathlib.Omega.{arith}
use lib.ListN.{length, take, get_or}
use Rattle.columns.proofs.Columns.{take-over}
use Rattle.columns_neighbors.specs.Lists.{lists, ListsFilled}
use Rattle.engine_walks.specs.Settling.{State}
use Rattle.query_relaxing.specs.Ready.{Listed, Ready}
use Rattle.query_search.specs.Search.{Searchable, ListsBuilt}

pub listed : {n : ℕ} {a b w numbers₀ ends₀ weight previous node leaf lengths₀ lengths numbers ends : List ℕ} → Searchable n a b w numbers₀ ends₀ weight previous node leaf
    → ListsFilled a b (length a) n lengths₀ numbers₀ lengths numbers ends → length numbers ≡ length numbers₀ → length ends ≡ length ends₀ → Listed n a b w numbers ends
listed {n} {a} {b} {numbers₀ = numbers₀} s f ln le = record {
  same_b = s.same_b;
  same_w = s.same_w;
  in_a = s.graph.in_a;
  in_b = s.graph.in_b;
  differ = s.graph.differ;
  few_edges = s.graph.few_edges;
  ends_fit = omega (arith, s.ends_fit);
  numbers_fit = omega (arith, s.numbers_fit);
  numbers_are = ap (take (length (lists a b (length a) n))) f.numbers_are ∙ take-over (lists a b (length a) n) numbers₀ (length (lists a b (length a) n)) refl;
  ends_are = f.ends_are;
}

-- the same number of vertices by another name
pub searchable_as : {n n' : ℕ} {a b w numbers ends weight previous node leaf : List ℕ} → n ≡ n'
    → Searchable n a b w numbers ends weight previous node leaf → Searchable n' a b w numbers ends weight previous node leaf
searchable_as {a = a} {b} {w} {numbers} {ends} {weight} {previous} {node} {leaf} e s = subst (λ k. Searchable k a b w numbers ends weight previous node leaf) e s

-- status bytes before the first turn, 0 and 1, and no end among the vertices that wait
pub record Waiting (n : ℕ) (status : List ℕ) (stop : ℕ) : Type 0 where
  pub fits : length status ≡ n
  pub bytes : (v : ℕ) → get_or status v 0 ≤ 1
  pub no_source : get_or status stop 0 ≡ 1 → ⊥

pub waiting_as : {n n' stop : ℕ} {status : List ℕ} → n ≡ n' → Waiting n status stop → Waiting n' status stop
waiting_as {stop = stop} {status = status} e s = subst (λ k. Waiting k status stop) e s

pub built_as : {n n' : ℕ} {a b numbers₀ numbers ends : List ℕ} → n ≡ n' → ListsBuilt n a b numbers₀ numbers ends → ListsBuilt n' a b numbers₀ numbers ends
built_as {a = a} {b} {numbers₀} {numbers} {ends} e l = subst (λ k. ListsBuilt k a b numbers₀ numbers ends) e l

-- the same state by another name
pub ready_in : {n : ℕ} {s s' : State} {node leaf : List ℕ} → s ≡ s' → Ready n s node leaf → Ready n s' node leaf
ready_in {n} {node = node} {leaf = leaf} e r = subst (λ t. Ready n t node leaf) e r
