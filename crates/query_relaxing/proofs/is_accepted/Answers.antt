-- `query_relaxing::is_accepted` meets its contract: the definition has the same cases of the status, 0, 1 and any other. Assumes nothing.
use mathlib.Core.Path.{◌≡◌, refl}
use Prim.Native.Nat.{ℕ, zero, suc}
use mathlib.Core.Bool.{Bool, false}
use Rattle.query_relaxing.specs.Ready.{takes_up}
use Rattle.query_relaxing.proofs.is_accepted.Goals as goal

go : (x : ℕ) → (x ≡ 0 → ⊥) → (x ≡ 1 → ⊥) → (b : Bool) → false ≡ takes_up x b
go zero f g b = absurd (f refl)
go (suc zero) f g b = absurd (g refl)
go (suc (suc x)) f g b = refl

pub returns : goal.returns
returns c = go c.args.status c.if-status-eq0.false c.if-status-eq1.false c.args.change
