-- What the calls of a list say of an edge's weight, read from the list's end: the law of document 01's tally in a reader's words.
-- It asks the tally which calls are accepted, and for no weight.
use Rattle.std.specs.Prelude.{ℕ, zero, suc, ◌≤◌, ◌<◌, ◌≡◌, cond, List, [], ◌∷◌, length, get_or, eqb}
use Rattle.engine_columns.specs.Calls.{Call, load_erasures, load_weights, reset}
use Rattle.engine_columns.specs.Open.{GraphColumns}
use Rattle.engine_tally.specs.Tally.{Fed, tally_of, tally_after, tally_numbers}

-- Demand 3, sentence 3: what is said of an edge: a weight, that it has its opening weight again, or nothing.
pub data LastSet : Type 0 where
  set_to : ℕ → LastSet
  as_opened : LastSet
  not_named : LastSet

-- Demand 3, sentence 3: what was said last decides; `before` counts where nothing was said after it.
abbrev pub last_of : (later before : LastSet) → LastSet
last_of (set_to x) before = set_to x
last_of as_opened before = as_opened
last_of not_named before = before

-- Demand 3, sentence 3: what one entry of a load, edge e with weight x, says of edge k.
abbrev pub set_by_entry : (e x k : ℕ) → LastSet
set_by_entry e x k = cond (eqb e k) (set_to x) not_named

-- Demand 3, sentence 3: what a load of erasures says of edge k: 0, if it names k.
abbrev pub set_by_erasures : List ℕ → ℕ → LastSet
set_by_erasures [] k = not_named
set_by_erasures (e ∷ es) k = last_of (set_by_erasures es k) (set_by_entry e 0 k)

-- Demand 3, sentence 3: what a load of weights says of edge k: the weight beside the last place that names k.
abbrev pub set_by_weights : List ℕ → List ℕ → ℕ → LastSet
set_by_weights [] xs k = not_named
set_by_weights (e ∷ es) [] k = not_named
set_by_weights (e ∷ es) (x ∷ xs) k = last_of (set_by_weights es xs k) (set_by_entry e x k)

-- Demand 3, sentence 3: what an accepted call says of edge k.
abbrev pub set_by_accepted : Call → ℕ → LastSet
set_by_accepted (load_erasures es) k = set_by_erasures es k
set_by_accepted (load_weights es xs) k = set_by_weights es xs k
set_by_accepted reset k = as_opened

-- Demand 3, sentence 3: what a call says that was answered with a number: a refused one says nothing.
abbrev pub set_by_call : (number : ℕ) → Call → ℕ → LastSet
set_by_call zero call k = set_by_accepted call k
set_by_call (suc n) call k = not_named

-- Demand 3, sentence 3: what a list of calls says, each with its number.
abbrev pub set_by_calls : List Fed → (numbers : List ℕ) → ℕ → LastSet
set_by_calls [] numbers k = not_named
set_by_calls (f ∷ fs) [] k = not_named
set_by_calls (f ∷ fs) (n ∷ numbers) k = last_of (set_by_calls fs numbers k) (set_by_call n f.call k)

-- Demand 3, sentence 3: the weight that goes with what was set last, from the opening weight.
abbrev pub weight_by : LastSet → (opening : ℕ) → ℕ
weight_by (set_to x) opening = x
weight_by as_opened opening = opening
weight_by not_named opening = opening

-- Demand 3, sentence 3: after every list of calls on a graph opened with these columns an edge weighs what an accepted load last named for it since the last accepted
-- reset, 0 if erased, else its opening weight. Question 6 of an accepted open says that the weights handed over are as long as the edges.
abbrev pub WeighsLastNamed : Type 0
WeighsLastNamed =
    (v e : ℕ) (handed : GraphColumns) → e ≤ length handed.weights → (calls : List Fed) (k : ℕ) → k < e
    → get_or (tally_after calls (tally_of v e handed)).weights k 0 ≡ weight_by (set_by_calls calls (tally_numbers calls (tally_of v e handed)) k) (get_or handed.weights k 0)
