-- The refusal that a question's number names, from the questions that a number is made of. Assumes nothing.
use Prim.Native.Nat.{ℕ}
use mathlib.Core.Path.{◌≡◌, refl}
use mathlib.Core.Bool.{Bool, true, false}
use Rattle.columns.specs.declared.refusal.Refusal.{Refusal}
use Rattle.columns.specs.declared.refusal.Refusal.TheVariants as refusal
use Rattle.columns.specs.Refusals.{number}
use Rattle.columns.specs.Questions.{ask}

-- a refusal whose number is q, where q is not 0
pub record Named (q : ℕ) : Type 0 where
  pub refusal : Refusal
  pub names : (q ≡ 0 → ⊥) → number refusal ≡ q

-- no question is left, and one question before others
pub all_met : Named 0
all_met = record { refusal = refusal.IllFormedLine; names = λ f. absurd (f refl) }

pub asks : (met : Bool) (r : Refusal) {next : ℕ} → Named next → Named (ask met (number r) next)
asks true r named = named
asks false r named = record { refusal = r; names = λ f. refl }
