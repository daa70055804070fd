-- The examples, by computation. Assumes nothing.
use mathlib.Core.Path.{refl}
use mathlib.Core.Logic.{inl, inr}
use mathlib.Core.List.{[], ◌∷◌}
use Prim.Native.Nat.{ℕ, zero, suc}
use native.Mathlib.Omega.{arith}
use lib.Dec.{lit<}
use Rattle.columns.specs.Lists.{each}
use Rattle.engine_walks.specs.Graph.{stay, step, LeavesNoDefect}
use Rattle.engine_walks.specs.Settling.{first_least, start, changes, by_status, offer, relax_edge, relax, take_vertex, stopped, next, settle}
use Rattle.engine_walks.specs.Answers.{table, read_back_of, step_into, path_in, path, from_left, least_from_left, nearest_right, crossing}
use Rattle.engine_walks.specs.Examples.{listed_graph, thousands, unjoined, triangle, square, pentagon, SettlingExamples}

-- every inner vertex, 0 and 1, ends two of the three edges
clean : LeavesNoDefect listed_graph (0 ∷ 1 ∷ 2 ∷ [])
unfolding listed_graph
clean zero h i = refl
clean (suc zero) h i = refl
clean (suc (suc zero)) h i = absurd (omega arith)
clean (suc (suc (suc zero))) h i = absurd (omega arith)
clean (suc (suc (suc (suc v)))) h i = absurd (omega arith)

pub examples : SettlingExamples
unfolding listed_graph thousands unjoined triangle square pentagon each first_least start changes by_status offer relax_edge relax take_vertex stopped next settle table read_back_of step_into path_in path from_left least_from_left nearest_right crossing
examples = record {
  walk_3_2 = step (lit< tt) (inr (refl, refl)) (step (lit< tt) (inl (refl, refl)) (step (lit< tt) (inl (refl, refl)) stay));
  crossing_set = record { is_set = record { named = (lit< tt, (lit< tt, (lit< tt, tt))); once = (refl, (refl, (refl, tt))) }; clean = clean; odd = refl };
  empty_set_crosses_nothing = λ c. omega (arith, c.odd);
  edge_2_leaves_a_defect = λ c. omega (arith, c.clean 0 (lit< tt) refl);
  path_3_2 = refl;
  crossing_3000 = refl;
  from_left_holds = refl;
  edge_1_erased = refl;
  unit_weights = refl;
  end_0 = refl;
  no_end = refl;
  end_at_source = refl;
  no_crossing = refl;
  right_unreached = refl;
  no_path = refl;
  previous_stays = refl;
  nearer_previous = refl;
  smaller_previous = refl;
}
