-- An order list names the old number of each new vertex.
use Rattle.std.specs.Prelude.{ℕ, suc, Bool, not, cond, List, [], ◌∷◌, map, length, get_or, eqb}
use Rattle.columns.specs.Lists.{each}
use Rattle.columns.specs.Questions.{every}

-- Questions at the door, 14: no vertex twice in the order list.
unfoldable pub none_twice : List ℕ → Bool
none_twice order = every (length order) (λ k. every k (λ j. not (eqb (get_or order j 0) (get_or order k 0))))

-- Sampling, syndromes, reordering, paragraph 2, sentence 5: the new number of old vertex u: the place at which the order names it.
unfoldable pub new_number : List ℕ → ℕ → ℕ
new_number [] u = 0
new_number (x ∷ xs) u = cond (eqb x u) 0 (suc (new_number xs u))

-- Sampling, syndromes, reordering, paragraph 2, sentence 5, `build_old_to_new`: the new number of each old vertex.
unfoldable pub old_to_new : List ℕ → List ℕ
old_to_new order = each (length order) (new_number order)

-- Sampling, syndromes, reordering, paragraph 2, sentences 4 and 5: old numbers renamed, in the same order.
abbrev pub renamed : List ℕ → List ℕ → List ℕ
renamed order xs = map (new_number order) xs

-- Sampling, syndromes, reordering, paragraph 2, sentence 5: a vertex column read through the order; d stands for the places past its end.
abbrev pub moved : {A : Type 0} → List ℕ → A → List A → List A
moved order d column = map (λ u. get_or column u d) order
