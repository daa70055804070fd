-- A line's fields by their places, and the longest line. Assumes nothing.
use mathlib.Core.Path.{◌≡◌, refl, sym, ap, ◌∙◌}
use mathlib.Core.Bool.{Bool, true, false, ◌&&◌, false≢true}
use mathlib.Core.List.{List}
use Prim.Native.Nat.{ℕ, zero, suc, ◌+◌, ◌-◌, ◌≤◌, ◌<◌}
use native.Mathlib.Decide.{ℕ_discrete}
use native.Mathlib.Omega.{arith}
use lib.Dec.{leb, eqb}
use lib.ListN.{length, take, drop, length-drop}
use lib.Seq.{drop-drop, length-take-le}
use borrow.Author.Tests.{leb-true, eqb-true, eq-eqb, ne_eqb}
use Rattle.columns.specs.Questions.{ask, all}
use Rattle.columns.proofs.Tests.{and_both}
use Rattle.text_input.specs.declared.CodeLine.{CodeLine}
use Rattle.std.specs.Prelude.{Option, None, Some}
use Rattle.text_input.specs.Line.{comma, newline, is_hex_digit, digits, digit_of, hex_digit_of, number_written, decimal_of, hex_of, after_decimal, decimal_sound, hex_sound, from_d, from_rounds, from_p, from_m, well_formed, line_of, no_line, line_said, ReadsLine, LongInputsAlike}
use Rattle.columns_answers.specs.Said.{Answered}
use Rattle.columns_answers.proofs.Said.{accepts-of, refuses-of}
use Rattle.text_input.proofs.Runs.{digits_within}

-- ---- what a sound field says

pub record Decimal (stop : ℕ) (t : List ℕ) : Type 0 where
  pub some : 1 ≤ digits t
  pub few : digits t ≤ 9

pub decimal_says : (stop : ℕ) (t : List ℕ) → decimal_sound stop t ≡ true → Decimal stop t
unfolding decimal_sound
decimal_says stop t e =
    let p = and_both (leb 1 (digits t) && leb (digits t) 9) _ e in
    let q = and_both (leb 1 (digits t)) (leb (digits t) 9) p.0 in
    record { some = leb-true 1 (digits t) q.0; few = leb-true (digits t) 9 q.1 }

pub hex_says : (t : List ℕ) → hex_sound t ≡ true → (16 ≤ length t) × (all is_hex_digit (take 16 t) ≡ true)
unfolding hex_sound
hex_says t e =
    let p = and_both (leb 16 (length t) && all is_hex_digit (take 16 t)) _ e in
    let q = and_both (leb 16 (length t)) (all is_hex_digit (take 16 t)) p.0 in
    (leb-true 16 (length t) q.0, q.1)

pub record Sound (t : List ℕ) : Type 0 where
  pub kind : Decimal comma t
  pub d : Decimal comma (from_d t)
  pub rounds : Decimal comma (from_rounds t)
  pub long : 16 ≤ length (from_p t)
  pub hex : all is_hex_digit (take 16 (from_p t)) ≡ true
  pub max : Decimal newline (from_m t)
  pub ends : length (from_m t) ≡ digits (from_m t) + 1

pub sound_says : (t : List ℕ) → well_formed t ≡ true → Sound t
unfolding well_formed
sound_says t e =
    let p = and_both (decimal_sound comma t && (decimal_sound comma (from_d t) && decimal_sound comma (from_rounds t))) _ e in
    let q = and_both (decimal_sound comma t) _ p.0 in
    let r = and_both (decimal_sound comma (from_d t)) (decimal_sound comma (from_rounds t)) q.1 in
    let s = and_both (hex_sound (from_p t)) _ p.1 in
    let u = and_both (decimal_sound newline (from_m t)) (eqb (length (from_m t)) (digits (from_m t) + 1)) s.1 in
    let h = hex_says (from_p t) s.0 in
    record {
      kind = decimal_says comma t q.0;
      d = decimal_says comma (from_d t) r.0;
      rounds = decimal_says comma (from_rounds t) r.1;
      long = h.0;
      hex = h.1;
      max = decimal_says newline (from_m t) u.0;
      ends = eqb-true (length (from_m t)) (digits (from_m t) + 1) u.1;
    }

-- ---- the longest line

pub longest : (t : List ℕ) → well_formed t ≡ true → length t ≤ 57
longest t e =
    let s = sound_says t e in
    omega (
      arith,
      s.kind.few,
      s.d.few,
      s.rounds.few,
      s.max.few,
      s.ends,
      length-drop (digits t + 1) t,
      length-drop (digits (from_d t) + 1) (from_d t),
      length-drop (digits (from_rounds t) + 1) (from_rounds t),
      length-drop 17 (from_p t),
    )

-- question 1 of a longer line
not_well : (t : List ℕ) → 57 < length t → well_formed t ≡ false
not_well t h = go (well_formed t) refl
  where
    go : (b : Bool) → well_formed t ≡ b → b ≡ false
    go false e = refl
    go true e = absurd (omega (arith, longest t e))

pub not_formed : (t : List ℕ) → well_formed t ≡ false → ReadsLine t None
not_formed t e = refuses-of (sym (ap (λ (b : Bool). ask b 1 0) e)) (λ z. absurd (omega arith))

pub too_long : (t : List ℕ) → 57 < length t → ReadsLine t None
too_long t h = not_formed t (not_well t h)

-- a refusal says nothing of the numbers
no_values : (r : Option CodeLine) (a b : Bool) (v w : CodeLine) → a ≡ false → b ≡ false → Answered (line_said r) (ask a 1 0) v no_line → Answered (line_said r) (ask b 1 0) w no_line
no_values r true b v w p q x = absurd (false≢true (sym p))
no_values r false true v w p q x = absurd (false≢true (sym q))
no_values r false false v w p q x = record { number_is = x.number_is; values_are = x.values_are; accepted_is = x.accepted_is }

pub long_inputs_alike : LongInputsAlike
long_inputs_alike t n h k =
    let l : length (take n t) ≡ n = length-take-le n t k in
    λ r. no_values r (well_formed (take n t)) (well_formed t) (line_of (take n t)) (line_of t) (not_well (take n t) (omega (arith, l))) (not_well t (omega arith))

-- ---- places

-- the end of a decimal field that starts at a place
next_place : (t u : List ℕ) (at n : ℕ) → drop at t ≡ u → n ≡ digits (drop at t) → drop (at + (n + 1)) t ≡ after_decimal u
next_place t u at n p e = sym (drop-drop (n + 1) at t) ∙ λ k. drop ((e ∙ ap digits p) k + 1) (p k)

whole_line : (t : List ℕ) (at n : ℕ) → eqb (length (drop at t)) (n + 1) ≡ eqb (length t) (at + (n + 1))
whole_line t at n = elim (ℕ_discrete (length t) (at + (n + 1))) [
  | yes e ↦ eq-eqb (length (drop at t)) (n + 1) (omega (arith, length-drop at t)) ∙ sym (eq-eqb (length t) (at + (n + 1)) e)
  | no f ↦ ne_eqb (length (drop at t)) (n + 1) (λ q. f (omega (arith, length-drop at t))) ∙ sym (ne_eqb (length t) (at + (n + 1)) f)
]

-- what `decimal_value` requires
fit : (stop : ℕ) (t u : List ℕ) (at n : ℕ) → drop at t ≡ u → n ≡ digits (drop at t) → Decimal stop u → (n ≤ 9) × (at + n ≤ length t) × (n ≡ digits (drop at t))
fit stop t u at n p e s = (
  omega (arith, e, ap digits p, s.few),
  omega (arith, e, ap digits p, s.some, digits_within (drop at t), length-drop at t),
  e,
)

-- the number that a field writes
field : (t u : List ℕ) (at n : ℕ) → drop at t ≡ u → n ≡ digits (drop at t) → number_written 10 digit_of 0 (take n (drop at t)) ≡ decimal_of u
unfolding decimal_of
field t u at n p e = λ k. number_written 10 digit_of 0 (take ((e ∙ ap digits p) k) (p k))

-- a text whose fields have n1, n2, n3 and n5 digits
module _ (t : List ℕ) (n1 n2 n3 n5 : ℕ) (e1 : n1 ≡ digits (drop 0 t)) (e2 : n2 ≡ digits (drop (n1 + 1) t)) (e3 : n3 ≡ digits (drop (n1 + 1 + (n2 + 1)) t))
    (e5 : n5 ≡ digits (drop (n1 + 1 + (n2 + 1) + (n3 + 1) + 17) t)) where
  abbrev at2 : ℕ
  at2 = n1 + 1

  abbrev at3 : ℕ
  at3 = at2 + (n2 + 1)

  abbrev at4 : ℕ
  at4 = at3 + (n3 + 1)

  abbrev at5 : ℕ
  at5 = at4 + 17

  p2 : drop at2 t ≡ from_d t
  p2 = ap (λ (k : ℕ). drop (k + 1) t) e1

  p3 : drop at3 t ≡ from_rounds t
  p3 = next_place t (from_d t) at2 n2 p2 e2

  p4 : drop at4 t ≡ from_p t
  p4 = next_place t (from_rounds t) at3 n3 p3 e3

  p5 : drop at5 t ≡ from_m t
  p5 = sym (drop-drop 17 at4 t) ∙ ap (drop 17) p4

  pub well : {b1 b2 b3 b4 b5 b6 : Bool} → b1 ≡ decimal_sound comma (drop 0 t) → b2 ≡ decimal_sound comma (drop at2 t) → b3 ≡ decimal_sound comma (drop at3 t) → b4 ≡ hex_sound (drop at4 t)
      → b5 ≡ decimal_sound newline (drop at5 t) → b6 ≡ eqb (length t) (at5 + (n5 + 1)) → ((b1 && (b2 && b3)) && (b4 && (b5 && b6))) ≡ well_formed t
  unfolding well_formed
  well q1 q2 q3 q4 q5 q6 =
      let r2 = q2 ∙ ap (decimal_sound comma) p2 in
      let r3 = q3 ∙ ap (decimal_sound comma) p3 in
      let r4 = q4 ∙ ap hex_sound p4 in
      let r5 = q5 ∙ ap (decimal_sound newline) p5 in
      let r6 = q6 ∙ sym (whole_line t at5 n5) ∙ (λ k. eqb (length (p5 k)) ((e5 ∙ ap digits p5) k + 1)) in
      λ k. (q1 k && (r2 k && r3 k)) && (r4 k && (r5 k && r6 k))

  module _ (w : well_formed t ≡ true) where
    sound : Sound t
    sound = sound_says t w

    pub fit1 : (n1 ≤ 9) × (0 + n1 ≤ length t) × (n1 ≡ digits (drop 0 t))
    fit1 = fit comma t t 0 n1 refl e1 sound.kind

    pub fit2 : (n2 ≤ 9) × (at2 + n2 ≤ length t) × (n2 ≡ digits (drop at2 t))
    fit2 = fit comma t (from_d t) at2 n2 p2 e2 sound.d

    pub fit3 : (n3 ≤ 9) × (at3 + n3 ≤ length t) × (n3 ≡ digits (drop at3 t))
    fit3 = fit comma t (from_rounds t) at3 n3 p3 e3 sound.rounds

    pub fit4 : (at4 + 16 ≤ length t) × (all is_hex_digit (take 16 (drop at4 t)) ≡ true)
    fit4 = (omega (arith, ap length p4, length-drop at4 t, sound.long), ap (λ (u : List ℕ). all is_hex_digit (take 16 u)) p4 ∙ sound.hex)

    pub fit5 : (n5 ≤ 9) × (at5 + n5 ≤ length t) × (n5 ≡ digits (drop at5 t))
    fit5 = fit newline t (from_m t) at5 n5 p5 e5 sound.max

  pub line : {v1 v2 v3 v4 v5 : ℕ} → v1 ≡ number_written 10 digit_of 0 (take n1 (drop 0 t)) → v2 ≡ number_written 10 digit_of 0 (take n2 (drop at2 t)) → v3 ≡ number_written 10 digit_of 0 (take n3 (drop at3 t))
      → v4 ≡ number_written 16 hex_digit_of 0 (take 16 (drop at4 t)) → v5 ≡ number_written 10 digit_of 0 (take n5 (drop at5 t)) → record { kind = v1; d = v2; rounds = v3; bits = v4; max = v5 } ≡ line_of t
  unfolding hex_of
  line q1 q2 q3 q4 q5 = λ k. record {
    kind = (q1 ∙ field t t 0 n1 refl e1) k;
    d = (q2 ∙ field t (from_d t) at2 n2 p2 e2) k;
    rounds = (q3 ∙ field t (from_rounds t) at3 n3 p3 e3) k;
    bits = (q4 ∙ ap (λ (u : List ℕ). number_written 16 hex_digit_of 0 (take 16 u)) p4) k;
    max = (q5 ∙ field t (from_m t) at5 n5 p5 e5) k;
  }

pub formed : (t : List ℕ) (l : CodeLine) → well_formed t ≡ true → l ≡ line_of t → ReadsLine t (Some l)
formed t l e p = rw p (accepts-of (ap (λ (b : Bool). ask b 1 0) e))
