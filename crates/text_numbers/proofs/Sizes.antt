-- How long numbers and lines are. Assumes nothing.
use mathlib.Core.Path.{◌≡◌, refl, sym, ap, ◌∙◌}
use mathlib.Core.Bool.{Bool, true, false, cond}
use mathlib.Core.List.{List, [], ◌∷◌}
use Prim.Native.Nat.{ℕ, zero, suc, ◌+◌, ◌-◌, ◌*◌, ◌/◌, ◌%◌, ◌^◌, ◌≤◌, ◌<◌}
use native.Mathlib.Nat.{zero-mul, suc-mul, pow-le-pow_right, zero-lt-suc}
use borrow.Author.Tests.{le-leb, lt-leb}
use native.Mathlib.Omega.{arith}
use lib.Dec.{leb}
use lib.ListN.{length, length-append}
use Rattle.columns.specs.Lists.{joined}
use Rattle.text_numbers.specs.Text.{size_in, digits_of, decimal, ended, vertex_line, edge_line, vertex_lines, edge_lines}

pub size_few : (k n : ℕ) → size_in k n ≤ suc k
unfolding size_in
size_few zero n = omega arith
size_few (suc k) n = go (leb (10 ^ suc k) n) (size_few k n)
  where
    go : (b : Bool) → size_in k n ≤ suc k → cond b (suc (suc k)) (size_in k n) ≤ suc (suc k)
    go true h = omega arith
    go false h = omega arith

pub digits_long : (k n : ℕ) → length (digits_of k n) ≡ k
unfolding digits_of
digits_long zero n = refl
digits_long (suc k) n = ap suc (digits_long k n)

pub decimal_few : (n : ℕ) → length (decimal n) ≤ 10
unfolding decimal
decimal_few n = omega (arith, digits_long (size_in 9 n) n, size_few 9 n)

pub ended_few : (ns : List ℕ) → length (ended ns) ≤ 11 * length ns + 1
unfolding ended
ended_few [] = omega arith
ended_few (n ∷ ns) = omega (arith, length-append (decimal n) (ended ns), decimal_few n, ended_few ns)

pub joined_few : (n most : ℕ) (f : ℕ → List ℕ) → ((i : ℕ) → length (f i) ≤ most) → length (joined n f) ≤ n * most
unfolding joined
joined_few zero most f h = omega (arith, zero-mul most)
joined_few (suc n) most f h = omega (arith, length-append (joined n f) (f n), joined_few n most f h, h n, suc-mul n most)

pub vertices_few : (n : ℕ) (boundary : List ℕ) → length (joined n (vertex_line boundary)) ≤ n * 24
vertices_few n boundary = joined_few n 24 (vertex_line boundary) (λ i. omega (arith, ended_few (i ∷ lib.ListN.get_or boundary i 0 ∷ [])))

pub edges_few : (n : ℕ) (a b weights : List ℕ) → length (joined n (edge_line a b weights)) ≤ n * 46
edges_few n a b weights = joined_few n 46 (edge_line a b weights) (λ i. omega (arith, ended_few (i ∷ lib.ListN.get_or a i 0 ∷ lib.ListN.get_or b i 0 ∷ lib.ListN.get_or weights i 0 ∷ [])))

pub vertex_lines_few : (n : ℕ) (boundary : List ℕ) → length (vertex_lines n boundary) ≤ n * 24
unfolding vertex_lines
vertex_lines_few n boundary = vertices_few n boundary

pub edge_lines_few : (n : ℕ) (a b weights : List ℕ) → length (edge_lines n a b weights) ≤ n * 46
unfolding edge_lines
edge_lines_few n a b weights = edges_few n a b weights

-- ---- a loop that looks for the size from the highest power down

pub size_here : (k n : ℕ) → 0 < k → 10 ^ k ≤ n → k + 1 ≡ size_in k n
unfolding size_in
size_here zero n h l = absurd (omega arith)
size_here (suc k) n h l = omega (arith, ap (λ (b : Bool). cond b (suc (suc k)) (size_in k n)) (le-leb (10 ^ suc k) n l))

pub size_below : (k n : ℕ) → 0 < k → n < 10 ^ k → size_in k n ≡ size_in (k - 1) n
unfolding size_in
size_below zero n h l = absurd (omega arith)
size_below (suc k) n h l =
    ap (λ (b : Bool). cond b (suc (suc k)) (size_in k n)) (lt-leb (10 ^ suc k) n l) ∙ ap (λ (j : ℕ). size_in j n) (sym (less k))
  where
    less : (j : ℕ) → suc j - 1 ≡ j
    less j = omega arith

pub size_end : (k n : ℕ) → k ≤ 0 → 1 ≡ size_in k n
unfolding size_in
size_end zero n h = refl
size_end (suc k) n h = absurd (omega arith)

pub some_power : (k : ℕ) → 1 ≤ 10 ^ k
some_power k = pow-le-pow_right {n = 10} (zero-lt-suc 9) {i = 0} {j = k} (omega arith)

-- the digit that comes next
pub digit_next : (k n : ℕ) → 0 < k → digits_of k n ≡ (48 + n / 10 ^ (k - 1) % 10) ∷ digits_of (k - 1) n
unfolding digits_of
digit_next zero n h = absurd (omega arith)
digit_next (suc k) n h = ap (λ (j : ℕ). (48 + n / 10 ^ j % 10) ∷ digits_of j n) (sym (less k))
  where
    less : (j : ℕ) → suc j - 1 ≡ j
    less j = omega arith
