-- What a search leaves in scratch, from what it leaves in columns cut to their counts: a cut column, with the places past it, is the whole one. Assumes nothing.
use mathlib.Core.Path.{◌≡◌, refl, sym, ap, ◌∙◌, subst}
use mathlib.Core.Logic.{◌≢◌}
use mathlib.Core.Bool.{Bool, true, false, ◌&&◌}
use mathlib.Core.List.{List, ◌++◌}
use Prim.Native.Nat.{ℕ, ◌+◌, ◌*◌, ◌-◌, ◌<◌, min}
use native.Mathlib.Decide.{dec_lt}
use native.Mathlib.Omega.{arith}
use lib.ListN.{length, get_or, drop, get_or-append}
use lib.Seq.{ext_get_or, drop_at}
use borrow.Author.Tests.{lt-ltb, le-ltb}
use Rattle.columns.specs.Lists.{each, over}
use Rattle.columns.proofs.Counting.{length-each, getD-each}
use Rattle.query_queue.specs.Tree.{Tree, place_of}
use Rattle.columns_neighbors.specs.Lists.{lists}
use Rattle.engine_walks.specs.Graph.{Graph, edges}
use Rattle.engine_walks.specs.Settling.{State, status_at, weight_at}
use Rattle.query_relaxing.specs.Ready.{graph_of, key_of}
use Rattle.query_search.specs.declared.Origin.{Origin}
use Rattle.columns.specs.Questions.{ask}
use Rattle.engine_columns.specs.Records.{Engine}
use Rattle.engine_columns.specs.Questions.{engine_long, engine_sound}
use Rattle.query_questions.specs.Queries.{query_refusal}
use Rattle.query_questions.specs.Scratch.{ScratchColumns, scratch_of, is_free, SearchAfter, ScratchAfter}
use Rattle.query_search.specs.Search.{Searched, state_from}

-- the same number of vertices by another name
pub searched_as : {n n' : ℕ} {a b m numbers₀ numbers ends status weight previous node leaf : List ℕ} (o : Origin) (w : ℕ → ℕ) → n ≡ n'
    → Searched (graph_of n a b m) (state_from o (graph_of n a b m) w) numbers₀ numbers ends status weight previous node leaf
    → Searched (graph_of n' a b m) (state_from o (graph_of n' a b m) w) numbers₀ numbers ends status weight previous node leaf
searched_as {a = a} {b} {m} {numbers₀} {numbers} {ends} {status} {weight} {previous} {node} {leaf} o w e h =
    subst (λ k. Searched (graph_of k a b m) (state_from o (graph_of k a b m) w) numbers₀ numbers ends status weight previous node leaf) e h

-- a column from its values
column_is : (column : List ℕ) (n : ℕ) (f : ℕ → ℕ) → length column ≡ n → ((v : ℕ) → v < n → get_or column v 0 ≡ f v) → column ≡ each n f
column_is column n f e h = ext_get_or 0 column (each n f) (e ∙ sym (length-each n f)) (λ v l. h v (omega arith) ∙ sym (getD-each n f 0 v (omega arith)))

whole : (cut values column₀ : List ℕ) (n : ℕ) → cut ≡ values → length values ≡ n → cut ++ drop n column₀ ≡ over values column₀
whole cut values column₀ n p q = λ i. p i ++ drop (sym q i) column₀

-- the tree reads the first places alone
module _ (node leaf x y : List ℕ) (n : ℕ) (p : length node ≡ n) (q : length leaf ≡ n) where
  place_same : (j : ℕ) → j < 2 * n → place_of (node ++ x) (leaf ++ y) n j ≡ place_of node leaf n j
  unfolding place_of
  place_same j h = elim (dec_lt j n) [
    | yes l ↦ rw (lt-ltb j n l) (get_or-append node x 0 j (omega arith))
    | no l ↦ rw (le-ltb j n (omega arith)) (get_or-append leaf y 0 (j - n) (omega arith))
  ]

  tree-same : Tree node leaf n → Tree (node ++ x) (leaf ++ y) n
  tree-same t k h l =
      place_same k (omega arith) ∙ t k h l ∙ (λ i. min (sym (place_same (2 * k) (omega arith)) i) (sym (place_same (2 * k + 1) (omega arith)) i))

pub search_left : (g : Graph) (s : State) (scratch₀ : ScratchColumns) {numbers ends status weight previous node leaf : List ℕ}
    → length ends ≡ g.vertices → length node ≡ g.vertices → Searched g s scratch₀.neighbor_numbers numbers ends status weight previous node leaf
    → SearchAfter g s scratch₀
    (scratch_of numbers (ends ++ drop g.vertices scratch₀.list_ends) (status ++ drop g.vertices scratch₀.status) (weight ++ drop g.vertices scratch₀.weight)
    (previous ++ drop g.vertices scratch₀.previous) (node ++ drop g.vertices scratch₀.node) (leaf ++ drop g.vertices scratch₀.leaf))
search_left g s scratch₀ {ends = ends} {status} {weight} {previous} {node} {leaf} e d f =
    let n : ℕ = g.vertices in
    let r = f.ready in
    record {
      neighbor_numbers_after = f.built.numbers_are;
      list_ends_after = whole ends _ scratch₀.list_ends n (column_is ends n (λ v. length (lists g.ends_a g.ends_b (edges g) (v + 1))) e f.built.ends_are) (length-each n _);
      status_after = whole status s.status scratch₀.status n (ap (λ t. t.status) f.state) r.status_fits;
      weight_after = whole weight s.weight scratch₀.weight n (ap (λ t. t.weight) f.state) r.weight_fits;
      previous_after = whole previous s.previous scratch₀.previous n (ap (λ t. t.previous) f.state) r.previous_fits;
      leaf_after = whole leaf _ scratch₀.leaf n (column_is leaf n (λ v. key_of (status_at s v) (weight_at s v) v) r.leaf_fits r.keys) (length-each n _);
      node_past = drop_at node (drop n scratch₀.node) n d;
      node_tree = tree-same node leaf _ _ n d r.leaf_fits r.tree;
    }

-- by the number of the answer
pub scratch_free : (number : ℕ) (g : Graph) (s : State) (scratch₀ scratch : ScratchColumns) → is_free number ≡ true → SearchAfter g s scratch₀ scratch
    → ScratchAfter number g s scratch₀ scratch
scratch_free number g s scratch₀ scratch e h = record { free = λ z. h; kept = λ z. absurd (let q : ◌≡◌ {A = ℕ} 0 1 = cc in omega arith) }

pub scratch_kept : (number : ℕ) (g : Graph) (s : State) (scratch : ScratchColumns) → is_free number ≡ false → ScratchAfter number g s scratch scratch
scratch_kept number g s scratch e = record { free = λ z. absurd (let q : ◌≡◌ {A = ℕ} 0 1 = cc in omega arith); kept = λ z. refl }

-- a number of a question before 17 leaves it as it was
pub ask-kept : (b : Bool) (number next : ℕ) → is_free number ≡ false → (next ≢ 0 → is_free next ≡ false) → ask b number next ≢ 0 → is_free (ask b number next) ≡ false
ask-kept true number next p q f = q f
ask-kept false number next p q f = p

pub query_kept : (e : Engine) (fits in_range : Bool) (next : ℕ) → (next ≢ 0 → is_free next ≡ false) → query_refusal e fits in_range next ≢ 0 → is_free (query_refusal e fits in_range next) ≡ false
query_kept e fits in_range next q = ask-kept (engine_long 0 e && fits) 6 _ refl (ask-kept (engine_sound e) 7 _ refl (ask-kept in_range 13 next refl q))
