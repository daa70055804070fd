-- The end after which the search from one source stops. Assumes nothing.
use mathlib.Core.Path.{◌≡◌, refl, sym, ap, ◌∙◌}
use mathlib.Core.Logic.{◌≢◌}
use mathlib.Core.Bool.{true, cond}
use mathlib.Core.Option.{Option, some, none}
use Prim.Native.Nat.{ℕ, zero, suc, ◌<◌}
use native.Mathlib.Decide.{ℕ_discrete}
use native.Mathlib.Omega.{arith}
use lib.ListN.{length}
use borrow.Author.Tests.{eq-eqb, ne_eqb, le-ltb}
use Rattle.engine_walks.specs.Graph.{Graph}
use Rattle.engine_walks.specs.Settling.{State, stopped, next, settle, settled, take_chosen, to_take}
use Rattle.columns.specs.Lists.{each}
use Rattle.columns.proofs.Counting.{length-each}
use Rattle.engine_walks.specs.Answers.{only, table, table_weight, table_previous}
use Rattle.engine_walks.proofs.Turns.{source_stops_nothing}
use Rattle.query_relaxing.specs.Ready.{end_of}
use Rattle.std.specs.Prelude as std
use Rattle.columns.specs.declared.VertexIndex.{VertexIndex}
use Rattle.query_tables.specs.Ends.{end_in, end_in_range, stop_of}

-- an end that is the source stops nothing
source_end : (g : Graph) (w : ℕ → ℕ) (a k : ℕ) → settle g w (only a) none k ≡ settle g w (only a) (some a) k
unfolding settle
source_end g w a zero = refl
source_end g w a (suc k) = ap (next g w (only a) none) (source_end g w a k) ∙ one (settle g w (only a) (some a) k)
  where
    one : (s : State) → next g w (only a) none s ≡ next g w (only a) (some a) s
    one s = unfold next stopped in ap (λ b. cond b s (take_chosen g w s (to_take g.vertices s))) (sym (source_stops_nothing (only a) a s (eq-eqb a a refl)))

pub stop_same : (g : Graph) (w : ℕ → ℕ) (a : ℕ) (end : std.Option VertexIndex) → end_in_range end g.vertices ≡ true
    → settled g w (only a) (end_of g.vertices (stop_of end a g.vertices)) ≡ settled g w (only a) (end_in end)
stop_same g w a std.None h = ap (λ b. settled g w (only a) (cond b (some g.vertices) none)) (le-ltb g.vertices g.vertices (omega arith))
stop_same g w a (std.Some b) h = elim (ℕ_discrete b.0 a) [
  | yes e ↦ ap (λ k. settled g w (only a) (end_of g.vertices (cond k g.vertices b.0))) (eq-eqb b.0 a e)
      ∙ ap (λ k. settled g w (only a) (cond k (some g.vertices) none)) (le-ltb g.vertices g.vertices (omega arith))
      ∙ source_end g w a g.vertices ∙ ap (λ k. settled g w (only a) (some k)) (sym e)
  | no e ↦ ap (λ k. settled g w (only a) (end_of g.vertices (cond k g.vertices b.0))) (ne_eqb b.0 a e)
      ∙ ap (λ k. settled g w (only a) (cond k (some b.0) none)) h
]

-- the table by the code's stop is the table by the named end
pub table_same : (g : Graph) (w : ℕ → ℕ) (a : ℕ) (end : std.Option VertexIndex) → end_in_range end g.vertices ≡ true
    → table g w a (end_of g.vertices (stop_of end a g.vertices)) ≡ table g w a (end_in end)
unfolding table
table_same g w a end h = ap (λ s. record { weights = each g.vertices (table_weight s); previous = each g.vertices (table_previous s) }) (stop_same g w a end h)

pub table-weights_length : (g : Graph) (w : ℕ → ℕ) (a : ℕ) (end : Option ℕ) → length (table g w a end).weights ≡ g.vertices
unfolding table
table-weights_length g w a end = length-each g.vertices (table_weight (settled g w (only a) end))

pub table_previous-length : (g : Graph) (w : ℕ → ℕ) (a : ℕ) (end : Option ℕ) → length (table g w a end).previous ≡ g.vertices
unfolding table
table_previous-length g w a end = length-each g.vertices (table_previous (settled g w (only a) end))
