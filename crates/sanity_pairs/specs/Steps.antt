-- What the private functions of this crate promise one another. No public contract cites it.
use Rattle.std.specs.Prelude.{ℕ, ◌<◌, ◌≤◌, ◌≡◌, List}
use Rattle.columns_pairs.specs.Pairs.{low_at, high_at}

-- Six builders, sanity_check, sentence 1, verdict 2: r is the first edge that joins the pair of edge i, or i where no earlier edge does.
pub record FirstSame (a b : List ℕ) (i r : ℕ) : Type 0 where
  pub within : r ≤ i
  pub low : r < i → low_at a b r ≡ low_at a b i
  pub high : r < i → high_at a b r ≡ high_at a b i
  pub none : (m : ℕ) → m < r → low_at a b m ≡ low_at a b i → high_at a b m ≡ high_at a b i → ⊥
