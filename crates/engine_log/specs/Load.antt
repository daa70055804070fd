-- What an accepted load and an accepted reset leave in the weights and in the log.
use Rattle.std.specs.Prelude.{ℕ, zero, suc, List, get_or, set}

-- Engine, Load, sentences 2 and 3: the weights after the first n entries of a load, in list order: entry k sets the edge named there to x k.
abbrev pub loaded : List ℕ → (ℕ → ℕ) → ℕ → List ℕ → List ℕ
loaded es x zero w = w
loaded es x (suc n) w = set (loaded es x n w) (get_or es n 0) (x n)

-- Engine, Load, sentence 2: the log's weights after the first n entries: each the weight just before it.
abbrev pub earlier : List ℕ → (ℕ → ℕ) → ℕ → List ℕ → List ℕ → List ℕ
earlier es x zero w l = l
earlier es x (suc n) w l = set (earlier es x n w l) n (get_or (loaded es x n w) (get_or es n 0) 0)

-- Engine, Load, sentence 2: the log's edges after the first n entries.
abbrev pub named : List ℕ → ℕ → List ℕ → List ℕ
named es zero l = l
named es (suc n) l = set (named es n l) n (get_or es n 0)

-- Engine, Reset: the weights after the first n log entries are undone, from the last of them to the first.
abbrev pub undone : List ℕ → List ℕ → ℕ → List ℕ → List ℕ
undone es ls zero w = w
undone es ls (suc n) w = undone es ls n (set w (get_or es n 0) (get_or ls n 0))

-- Engine, Load, sentence 2: what an erasure gives each entry, weight 0.
abbrev pub erased : ℕ → ℕ
erased n = 0

-- Engine, Load, sentence 2: what a list of weights gives entry n.
abbrev pub given : List ℕ → ℕ → ℕ
given xs n = get_or xs n 0
