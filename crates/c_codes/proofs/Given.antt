-- A code with a diagonal probability, and the same probability by another name; one that there is. Assumes nothing.
use Rattle.std.specs.Prelude.{Option, Some, Result}
use Prim.Native.Nat.{ℕ, zero, suc}
use mathlib.Core.Path.{◌≡◌, refl, subst}
use lib.Ieee.{Float}
use Rattle.codes_calls.specs.declared.CodeCounts.{CodeCounts}
use Rattle.columns.specs.declared.refusal.Refusal.{Refusal}
use Rattle.codes_calls.specs.Columns.{CodeColumns}
use Rattle.codes_calls.specs.NewCode.{WeightedCode}
use Rattle.c_codes.specs.Arguments.{diagonal_from}

pub diagonal_given : (n : ℕ) (x : Float) → (n ≡ 0 → ⊥) → Some x ≡ diagonal_from n x
diagonal_given zero x f = absurd (f refl)
diagonal_given (suc n) x f = refl

pub given : {kind d rounds : ℕ} {p : Float} {x y : Option Float} {max : ℕ} {lent back : CodeColumns} {r : Result CodeCounts Refusal} → x ≡ y → WeightedCode kind d rounds p x max lent back r → WeightedCode kind d rounds p y max lent back r
given {kind} {d} {rounds} {p} {x} {y} {max} {lent} {back} {r} e s = subst (λ (t : Option Float). WeightedCode kind d rounds p t max lent back r) e s
