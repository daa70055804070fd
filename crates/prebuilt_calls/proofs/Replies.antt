-- What tables inside a call leave. Assumes nothing.
use mathlib.Core.Path.{◌≡◌, refl, sym, ap, ◌∙◌, subst}
use mathlib.Core.Logic.{◌≢◌}
use mathlib.Core.Bool.{false}
use mathlib.Core.List.{List, ◌++◌}
use mathlib.Core.Option.{none}
use Prim.Native.Nat.{ℕ, ◌+◌, ◌-◌, ◌<◌, ◌≤◌}
use native.Mathlib.Decide.{ℕ_discrete}
use native.Mathlib.Omega.{arith}
use lib.ListN.{length, take}
use lib.IntN.{ℤ}
use Rattle.columns.specs.Lists.{each, over, after}
use Rattle.columns.proofs.Counting.{length-each}
use Rattle.columns.proofs.Columns.{drop-over, after-refused}
use Rattle.std.specs.Prelude.{None, Result, Ok}
use Rattle.columns.specs.declared.refusal.Refusal.{Refusal}
use Rattle.columns_answers.specs.Said.{said}
use Rattle.columns_answers.proofs.Said.{zero_of}
use Rattle.columns_neighbors.proofs.Ends.{graph-says}
use Rattle.columns_neighbors.specs.Lists.{lists}
use Rattle.engine_columns.specs.Records.{Engine}
use Rattle.engine_walks.specs.Graph.{Graph, GraphInRange, edges}
use Rattle.engine_walks.specs.Settling.{State, status_at, weight_at, settled}
use Rattle.engine_walks.specs.Answers.{only, table}
use Rattle.engine_walks.proofs.Turns.{Fits, settle-valid}
use Rattle.engine_walks.proofs.TableAndPath.{only_source}
use Rattle.query_relaxing.specs.Ready.{key_of}
use Rattle.query_questions.specs.Queries.{graph_in, weights_in}
use Rattle.query_questions.specs.Scratch.{ScratchColumns, scratch_fits, is_free, SearchAfter, ScratchAfter}
use Rattle.query_search.proofs.Scratch.{scratch_free, scratch_kept}
use Rattle.query_tables.specs.Tables.{table_refusal, FoundTable, TableInside}
use Rattle.query_tables.proofs.Tables.{table_of}
use Rattle.query_tables.proofs.Sources.{table-weights_length, table_previous-length}
use Rattle.prebuilt_entries.proofs.Amounts.{cut_fits}
use Rattle.prebuilt_calls.specs.Steps.{TablesInside}

-- by another name of the number
pub inside_of : {e : Engine} {v : ℕ} {d : Result (Unit {0}) Refusal} {least₀ least : List ℤ} {before₀ before : List ℕ} {s₀ s : ScratchColumns} (number : ℕ)
    → FoundTable e v None d least₀ least before₀ before s₀ s → (said tt d).number ≡ number → TableInside number e v least₀ least before₀ before s₀ s
inside_of {e} {v = v} {least₀ = least₀} {before₀ = before₀} {s₀ = s₀} {s} number t q =
    let p = sym t.answers.number_is ∙ q in
    record {
      least_after = t.weights_after ∙ ap (λ n. after n (table (graph_in e) (weights_in e) v none).weights least₀) p;
      before_after = t.previous_after ∙ ap (λ n. after n (table (graph_in e) (weights_in e) v none).previous before₀) p;
      scratch_after = subst (λ n. ScratchAfter n (graph_in e) (settled (graph_in e) (weights_in e) (only v) none) s₀ s) q t.scratch_after;
    }

-- an accepted table, in the first places of its column
pub record TableThere (e : Engine) (v : ℕ) (least₀ least : List ℤ) (before₀ before : List ℕ) (scratch₀ scratch : ScratchColumns) : Type 0 where
  pub met : table_refusal e (scratch_fits e.counts scratch₀) v None (length least₀) (length before₀) ≡ 0
  pub few : e.counts.vertices ≤ 4096
  pub boundary_long : e.counts.vertices ≤ length e.boundary
  pub v_in : v < e.counts.vertices
  pub room : e.counts.vertices ≤ length least₀
  pub fits : e.counts.vertices ≤ length least
  pub is_over : least ≡ over (table (graph_in e) (weights_in e) v none).weights least₀
  pub is_table : take e.counts.vertices least ≡ (table (graph_in e) (weights_in e) v none).weights
  pub inside : TableInside 0 e v least₀ least before₀ before scratch₀ scratch

pub table_there : {e : Engine} {v : ℕ} {least₀ least : List ℤ} {before₀ before : List ℕ} {s₀ s : ScratchColumns}
    → FoundTable e v None (Ok tt) least₀ least before₀ before s₀ s → TableThere e v least₀ least before₀ before s₀ s
table_there {e} {v} {least₀} {least} {before₀} {before} {s₀} {s} t =
    let z = zero_of t.answers in
    let k = table_of e (scratch_fits e.counts s₀) v None (length least₀) (length before₀) z in
    let weights = (table (graph_in e) (weights_in e) v none).weights in
    let o = t.weights_after ∙ ap (λ n. after n weights least₀) z in
    let cut = cut_fits weights least₀ e.counts.vertices o (table-weights_length (graph_in e) (weights_in e) v none) k.weights_long in
    record {
      met = z;
      few = (graph-says e.counts.vertices e.counts.edges e.ends_a e.ends_b k.sound.columns.graph).few_vertices;
      boundary_long = k.long.columns.boundary;
      v_in = k.source_in;
      room = k.weights_long;
      fits = cut.0;
      is_over = o;
      is_table = cut.2;
      inside = inside_of 0 t refl;
    }

-- a refused call
pub inside_kept : (number : ℕ) (e : Engine) (v : ℕ) (least : List ℤ) (before : List ℕ) (s : ScratchColumns) → number ≢ 0 → is_free number ≡ false → TableInside number e v least least before before s s
inside_kept number e v least before s f k = record {
  least_after = sym (after-refused number (table (graph_in e) (weights_in e) v none).weights least f);
  before_after = sym (after-refused number (table (graph_in e) (weights_in e) v none).previous before f);
  scratch_after = scratch_kept number (graph_in e) (settled (graph_in e) (weights_in e) (only v) none) s k;
}

-- ---- one table after another

over_again : {A : Type 0} (xs ys column : List A) → length xs ≡ length ys → over xs (over ys column) ≡ over xs column
over_again xs ys column e = ap (λ d. xs ++ d) (drop-over ys column (length xs) (sym e))

search_again : {g : Graph} {s t : State} {a b c : ScratchColumns} → Fits g.vertices s → Fits g.vertices t → SearchAfter g s a b → SearchAfter g t b c → SearchAfter g t a c
search_again {g} {s} {t} {a} f h p q =
    let numbers = lists g.ends_a g.ends_b (edges g) g.vertices in
    let ends = each g.vertices (λ v. length (lists g.ends_a g.ends_b (edges g) (v + 1))) in
    let keys : State → List ℕ = λ r. each g.vertices (λ v. key_of (status_at r v) (weight_at r v) v) in
    record {
      neighbor_numbers_after = q.neighbor_numbers_after ∙ ap (over numbers) p.neighbor_numbers_after ∙ over_again numbers numbers a.neighbor_numbers refl;
      list_ends_after = q.list_ends_after ∙ ap (over ends) p.list_ends_after ∙ over_again ends ends a.list_ends refl;
      status_after = q.status_after ∙ ap (over t.status) p.status_after ∙ over_again t.status s.status a.status (h.status_fits ∙ sym f.status_fits);
      weight_after = q.weight_after ∙ ap (over t.weight) p.weight_after ∙ over_again t.weight s.weight a.weight (h.weight_fits ∙ sym f.weight_fits);
      previous_after = q.previous_after ∙ ap (over t.previous) p.previous_after ∙ over_again t.previous s.previous a.previous (h.previous_fits ∙ sym f.previous_fits);
      leaf_after = q.leaf_after ∙ ap (over (keys t)) p.leaf_after ∙ over_again (keys t) (keys s) a.leaf (length-each g.vertices _ ∙ sym (length-each g.vertices _));
      node_past = q.node_past ∙ p.node_past;
      node_tree = q.node_tree;
    }

module _ (e : Engine) (ok : GraphInRange (graph_in e)) where
  state-fits : (v : ℕ) → v < e.counts.vertices → Fits e.counts.vertices (settled (graph_in e) (weights_in e) (only v) none)
  state-fits v h = (settle-valid ok (weights_in e) (only_source h) none e.counts.vertices).fits

  inside-again : {u v : ℕ} {l₀ l₁ l₂ : List ℤ} {b₀ b₁ b₂ : List ℕ} {s₀ s₁ s₂ : ScratchColumns} → u < e.counts.vertices → v < e.counts.vertices
      → TableInside 0 e u l₀ l₁ b₀ b₁ s₀ s₁ → TableInside 0 e v l₁ l₂ b₁ b₂ s₁ s₂ → TableInside 0 e v l₀ l₂ b₀ b₂ s₀ s₂
  inside-again {u} {v} {l₀} {b₀ = b₀} {s₀ = s₀} {s₂ = s₂} hu hv p q =
      let g = graph_in e in
      let w = weights_in e in
      let least : ℕ → List ℤ = λ x. (table g w x none).weights in
      let back : ℕ → List ℕ = λ x. (table g w x none).previous in
      record {
        least_after = q.least_after ∙ ap (over (least v)) p.least_after ∙ over_again (least v) (least u) l₀ (table-weights_length g w v none ∙ sym (table-weights_length g w u none));
        before_after = q.before_after ∙ ap (over (back v)) p.before_after ∙ over_again (back v) (back u) b₀ (table_previous-length g w v none ∙ sym (table_previous-length g w u none));
        scratch_after = scratch_free 0 g (settled g w (only v) none) s₀ s₂ refl (search_again (state-fits u hu) (state-fits v hv) (p.scratch_after.free refl) (q.scratch_after.free refl));
      }

  -- one table more
  pub tables_more : (n : ℕ) {l₀ l₁ l₂ : List ℤ} {b₀ b₁ b₂ : List ℕ} {s₀ s₁ s₂ : ScratchColumns} → n < e.counts.vertices
      → TablesInside e n l₀ l₁ b₀ b₁ s₀ s₁ → TableInside 0 e n l₁ l₂ b₁ b₂ s₁ s₂ → TablesInside e (n + 1) l₀ l₂ b₀ b₂ s₀ s₂
  tables_more n {l₀} {l₁} {l₂} {b₀} {b₁} {b₂} {s₀} {s₁} {s₂} h p q = record {
    none = λ z. absurd (omega arith);
    last = λ v w. subst (λ k. TableInside 0 e k l₀ l₂ b₀ b₂ s₀ s₂) (let k : n ≡ v = omega arith in k) (go (ℕ_discrete n 0));
  }
    where
      go : Dec (n ≡ 0) → TableInside 0 e n l₀ l₂ b₀ b₂ s₀ s₂
      go (yes z) =
          let (x, y, k) = p.none z in
          subst (λ l. TableInside 0 e n l l₂ b₀ b₂ s₀ s₂) x (subst (λ b. TableInside 0 e n l₁ l₂ b b₂ s₀ s₂) y (subst (λ s. TableInside 0 e n l₁ l₂ b₁ b₂ s s₂) k q))
      go (no f) = inside-again (omega arith) h (p.last (n - 1) (omega arith)) q

-- the last table
pub tables_last : {e : Engine} (n : ℕ) {l₀ l : List ℤ} {b₀ b : List ℕ} {s₀ s : ScratchColumns} → 0 < n → TablesInside e n l₀ l b₀ b s₀ s → TableInside 0 e (n - 1) l₀ l b₀ b s₀ s
tables_last n h p = p.last (n - 1) (omega arith)
