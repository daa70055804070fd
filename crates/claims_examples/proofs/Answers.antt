-- What is said of an answer, whole. Assumes nothing.
use Prim.Native.Nat.{ℕ}
use mathlib.Core.Path.{◌≡◌, sym, ap, ◌∙◌}
use mathlib.Core.Logic.{◌≢◌}
use mathlib.Core.Bool.{Bool, cond}
use borrow.Author.Tests.{eq-eqb, ne_eqb}
use Rattle.columns_answers.specs.Said.{Said, accepts, refuses, Answered}

module _ {Values : Type 0} where
  pub said-accepts : {s : Said Values} {q : ℕ} {v z : Values} → Answered s q v z → q ≡ 0 → s ≡ accepts v
  said-accepts {s} {q} {v} {z} a e =
      let yes-is = eq-eqb q 0 e in
      λ i. record { accepted = (a.accepted_is ∙ yes-is) i; number = (a.number_is ∙ e) i; values = (a.values_are ∙ ap (λ (b : Bool). cond b v z) yes-is) i }

  pub said-refuses : {s : Said Values} {q : ℕ} {v z : Values} (n : ℕ) → Answered s q v z → q ≡ n → n ≢ 0 → s ≡ refuses n z
  said-refuses {s} {q} {v} {z} n a e f =
      let no-is = ne_eqb q 0 (λ p. f (sym e ∙ p)) in
      λ i. record { accepted = (a.accepted_is ∙ no-is) i; number = (a.number_is ∙ e) i; values = (a.values_are ∙ ap (λ (b : Bool). cond b v z) no-is) i }
