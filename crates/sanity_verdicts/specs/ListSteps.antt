-- What the private functions of this crate promise one another. No public contract cites it.
use Rattle.std.specs.Prelude.{ℕ, ◌+◌, ◌<◌, ◌≤◌, ◌≡◌, Bool, true, false, List, get_or, length}

-- Six builders, sanity_check, sentence 1, verdict 4: of the numbers from place `start` on, the first i: whether one of them is x.
pub record Seen (numbers : List ℕ) (start i x : ℕ) (r : Bool) : Type 0 where
  pub yes : r ≡ true → (j : ℕ) × ((j < i) × (get_or numbers (start + j) 0 ≡ x))
  pub no : r ≡ false → (j : ℕ) → j < i → get_or numbers (start + j) 0 ≡ x → ⊥

-- Six builders, sanity_check, sentence 1, verdict 4: the stamps, one for each number below the column's length: `stamp` at those of the first i, less at the others.
pub record Stamped (numbers : List ℕ) (start i stamp : ℕ) (mark : List ℕ) : Type 0 where
  pub most : (x : ℕ) → x < length mark → get_or mark x 0 ≤ stamp
  pub stamped : (x : ℕ) → x < length mark → get_or mark x 0 ≡ stamp → (j : ℕ) × ((j < i) × (get_or numbers (start + j) 0 ≡ x))
  pub has : (j : ℕ) → j < i → get_or numbers (start + j) 0 < length mark → get_or mark (get_or numbers (start + j) 0) 0 ≡ stamp

-- Six builders, sanity_check, sentence 1, verdict 4: no stamp is above v.
pub record Below (v : ℕ) (mark : List ℕ) : Type 0 where
  pub most : (x : ℕ) → x < length mark → get_or mark x 0 ≤ v

-- Six builders, sanity_check, sentence 1, verdict 4: of the numbers from place `start` on, the first `len`: each is above the one before it.
abbrev pub Ascends : (numbers : List ℕ) (start len : ℕ) → Type 0
Ascends numbers start len = (i : ℕ) → i + 1 < len → get_or numbers (start + i) 0 < get_or numbers (start + (i + 1)) 0
