-- Sums over lists of numbers.
use Rattle.std.specs.Prelude.{◌≡◌, Bool, true, false, List, [], ◌∷◌, ℕ, ◌+◌, eqb}
use Rattle.std.proofs.Math.Option.{Option, some, none}

-- Engine, on walks, sentences 3 and 4, for counting: 1 where a test passes, 0 where it fails.
abbrev pub bit : Bool → ℕ
bit true = 1
bit false = 0

-- Engine, on walks, sentences 3 and 4, for counting: 1 where two numbers are equal, 0 where they differ.
abbrev pub delta : ℕ → ℕ → ℕ
delta x y = bit (eqb x y)

-- Engine, on walks, sentences 1 and 2: the sum of f over a list of edge numbers.
abbrev pub sum : List ℕ → (ℕ → ℕ) → ℕ
sum [] f = 0
sum (e ∷ s) f = f e + sum s f

-- Engine, on walks, sentence 2: each listed number has the property P.
abbrev pub All : (ℕ → Type 0) → List ℕ → Type 0
All P [] = Unit {0}
All P (e ∷ s) = P e × All P s

-- Engine, on walks, sentence 2: all listed numbers differ.
abbrev pub Distinct : List ℕ → Type 0
Distinct [] = Unit {0}
Distinct (e ∷ s) = (sum s (delta e) ≡ 0) × Distinct s

-- Engine, Settling, sentence 1, as a loop keeps it: the number that was found, n where none was.
abbrev pub found_or : ℕ → Option ℕ → ℕ
found_or n none = n
found_or n (some a) = a
