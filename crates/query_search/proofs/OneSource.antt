-- One source. Assumes nothing.
use mathlib.Core.Path.{◌≡◌, sym, ap, ◌∙◌}
use mathlib.Core.Logic.{◌≢◌}
use mathlib.Core.List.{List}
use Prim.Native.Nat.{ℕ, ◌<◌}
use native.Mathlib.Decide.{ℕ_discrete, dec_lt}
use native.Mathlib.Omega.{arith}
use lib.ListN.{get_or, set, replicate, length-set, length-replicate, get_or-replicate, get_or-eq_default}
use lib.Seq.{get_or-set_same, get_or-set_other}
use lib.Dec.{eqb}
use borrow.Author.Tests.{eq-eqb, ne_eqb}
use Rattle.engine_walks.specs.Answers.{only}
use Rattle.query_relaxing.specs.Ready.{sources}
use Rattle.query_search.proofs.Listing.{Waiting}

module _ (n a : ℕ) (inside : a < n) where
  abbrev first : List ℕ
  first = set (replicate n 0) a 1

  zero_at : (v : ℕ) → get_or {A = ℕ} (replicate n 0) v 0 ≡ 0
  zero_at v = elim (dec_lt v n) [
    | yes h ↦ get_or-replicate n v 0 0 h
    | no h ↦ get_or-eq_default (replicate n 0) 0 {n = v} (omega (arith, length-replicate {A = ℕ} n 0))
  ]

  at_source : get_or first a 0 ≡ 1
  at_source = get_or-set_same (replicate n 0) a 1 0 (omega (arith, length-replicate {A = ℕ} n 0))

  elsewhere : (v : ℕ) → v ≢ a → get_or first v 0 ≡ 0
  elsewhere v f = get_or-set_other (replicate n 0) a v 1 0 f ∙ zero_at v

  pub sources-only : sources first ≡ only a
  sources-only = λ i v. one v i
    where
      one : (v : ℕ) → eqb (get_or first v 0) 1 ≡ eqb v a
      one v = elim (ℕ_discrete v a) [
        | yes e ↦ ap (λ k. eqb (get_or first k 0) 1) e ∙ ap (λ k. eqb k 1) at_source ∙ sym (eq-eqb v a e)
        | no e ↦ ap (λ k. eqb k 1) (elsewhere v e) ∙ sym (ne_eqb v a e)
      ]

  pub waiting-one : (stop : ℕ) → stop ≢ a → Waiting n first stop
  waiting-one stop f = record {
    fits = length-set (replicate n 0) a 1 ∙ length-replicate n 0;
    bytes = λ v. elim (ℕ_discrete v a) [ yes e ↦ omega (arith, ap (λ k. get_or first k 0) e, at_source) | no e ↦ omega (arith, elsewhere v e) ];
    no_source = λ q. omega (arith, elsewhere stop f);
  }
