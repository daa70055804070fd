-- What a caller of a function learns of a call, read out of the function's own contract.
use base.Logic.{emp}
use contract.Monad.{fact}
use borrow.Fn.World.{World, Pr}
use borrow.Fn.Read.{Read, no_know, all_models, r_last}
use borrow.Fn.Claims.{AllOf}
use Rattle.std.specs.Prelude.{Bool, IsTrue, ◌↔◌, refl}

-- A reading of an `ensures` P, given in every world: plain facts, and with them the logic's proof that whoever has P learns them. It asks for nothing beside P.
abbrev pub Reading : ((w : World) → Pr w) → Type 2
Reading P = Read (λ w. emp w.𝓤) no_know P

-- The facts.
abbrev pub Learnt : {P : (w : World) → Pr w} → Reading P → Type 0
Learnt reading = AllOf reading.tells

-- An `ensures` of one clause, which is a plain fact.
abbrev pub one_fact : (φ : Type 0) → Reading (λ w. fact w.𝓤 φ)
one_fact φ = all_models (λ w. fact w.𝓤 φ) (λ w. r_last φ) (λ w. refl) (λ w. refl) (λ w. refl)

-- What is learnt from an `ensures` of one clause is that fact: no less, so that a claim asks for nothing else, and no more, so that every call teaches it.
abbrev pub LearntIsTheFact : Type 0
LearntIsTheFact = (b : Bool) → Learnt (one_fact (IsTrue b)) ↔ IsTrue b
