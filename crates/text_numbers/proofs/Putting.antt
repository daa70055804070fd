-- Bytes put one after another. Assumes nothing.
use mathlib.Core.Path.{◌≡◌, refl, sym, ap, ◌∙◌, subst}
use mathlib.Core.List.{List, [], ◌∷◌, ◌++◌}
use Prim.Native.Nat.{ℕ, zero, suc, ◌+◌, ◌≤◌}
use native.Mathlib.Omega.{arith}
use lib.ListN.{length, length-append}
use lib.Seq.{sets, length-sets}
use Rattle.columns.specs.Lists.{joined}
use Rattle.columns.proofs.Columns.{sets-append}
use Rattle.columns.proofs.Counting.{joined-more}
use Rattle.text_numbers.specs.Text.{decimal, ended}
use Rattle.text_numbers.specs.Steps.{Put}

pub none : (t : List ℕ) (at : ℕ) → Put t at [] t at
none t at = record { stored = refl; next = omega arith }

-- first xs, then ys from where they end
pub both : (xs ys : List ℕ) {t₀ t₁ t₂ : List ℕ} {at m r : ℕ} → Put t₀ at xs t₁ m → Put t₁ m ys t₂ r → Put t₀ at (xs ++ ys) t₂ r
both xs ys {t₀} {t₁} {t₂} {at} {m} {r} p q = record {
  stored = q.stored ∙ (λ k. sets (p.stored k) (p.next k) ys) ∙ sym (sets-append t₀ at xs ys);
  next = omega (arith, p.next, q.next, length-append xs ys);
}

-- one part more
pub more : (f : ℕ → List ℕ) (i : ℕ) {t₀ t₁ t₂ : List ℕ} {at m r : ℕ} → Put t₀ at (joined i f) t₁ m → Put t₁ m (f i) t₂ r → Put t₀ at (joined (i + 1) f) t₂ r
more f i {t₀} {t₁} {t₂} {at} {m} {r} p q =
    let z = both (joined i f) (f i) p q in
    record { stored = z.stored ∙ ap (sets t₀ at) (sym (joined-more i f)); next = z.next ∙ ap (λ (l : List ℕ). at + length l) (sym (joined-more i f)) }

-- ---- the parts of a line

pub line_end : {t₀ t : List ℕ} {at r : ℕ} → Put t₀ at (0x0a ∷ []) t r → Put t₀ at (ended []) t r
unfolding ended
line_end p = p

pub field : (n : ℕ) (ns : List ℕ) {t₀ t₁ t₂ : List ℕ} {at m r : ℕ} → Put t₀ at (0x2c ∷ decimal n) t₁ m → Put t₁ m (ended ns) t₂ r → Put t₀ at (ended (n ∷ ns)) t₂ r
unfolding ended
field n ns p q = both (0x2c ∷ decimal n) (ended ns) p q

pub lettered : (letter : ℕ) (ns : List ℕ) {t₀ t₁ t₂ : List ℕ} {at m r : ℕ} → Put t₀ at (letter ∷ []) t₁ m → Put t₁ m (ended ns) t₂ r → Put t₀ at (letter ∷ ended ns) t₂ r
lettered letter ns p q = both (letter ∷ []) (ended ns) p q

pub renamed : {xs ys : List ℕ} {t₀ t : List ℕ} {at r : ℕ} → xs ≡ ys → Put t₀ at xs t r → Put t₀ at ys t r
renamed {xs} {ys} {t₀} {t} {at} {r} e p = subst (λ (l : List ℕ). Put t₀ at l t r) e p

pub long_kept : {xs : List ℕ} {t₀ t : List ℕ} {at r : ℕ} → Put t₀ at xs t r → length t ≡ length t₀
long_kept {xs} {t₀} {t} {at} p = ap length p.stored ∙ length-sets t₀ at xs
