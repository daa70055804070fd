-- Laws of sampling: the generator's draws, and one edge more. Assumes nothing.
use mathlib.Core.Path.{◌≡◌, refl, sym, ap, ◌∙◌}
use mathlib.Core.Bool.{Bool, cond}
use mathlib.Core.List.{List}
use Prim.Native.Nat.{ℕ, ◌+◌, ◌*◌, ◌-◌, ◌<◌}
use native.Mathlib.Numerals.{add-one}
use native.Mathlib.Omega.{arith}
use lib.ListN.{length, get_or, set}
use lib.Seq.{sets}
use lib.Ieee.{Float, lt, nan}
use Rattle.columns.specs.Lists.{each, when}
use Rattle.columns.specs.Places.{zero_float, half}
use Rattle.columns.proofs.Columns.{get_d_any, sets_more}
use Rattle.columns.proofs.Counting.{each_more, length-each}
use Rattle.sampling_generator.specs.declared.DeterministicRng.{DeterministicRng}
use Rattle.sampling_generator.specs.Random.{word_of, next_of, draw_of}
use Rattle.sampling_flips.specs.Flip.{flip_each}
use Rattle.sampling_flips.proofs.Flipping.{flipEach-append}
use Rattle.columns_marks.proofs.Listing.{chosen_none, chosen_more}
use Rattle.sampling_edges.specs.declared.SampledEdge.{SampledEdge}
use Rattle.sampling_edges.specs.Draws.{advanced, draw_number, is_erased, error_probability, has_error, sampled_erasures, sampled_errors}
use Rattle.sampling_edges.specs.Steps.{EdgeSampled, Sampled}

pub advanced_more : (g : DeterministicRng) (n : ℕ) → advanced g (n + 1) ≡ next_of (advanced g n)
unfolding advanced
advanced_more g n = ap (advanced g) (add-one n)

-- a draw by its number, from the generator before it
pub draw_is : (g h : DeterministicRng) (n : ℕ) → h ≡ advanced g n → draw_of (word_of h) ≡ draw_number g (n + 1)
unfolding draw_number
draw_is g h n e =
    ap (λ (x : DeterministicRng). draw_of (word_of x)) e
    ∙ ap (λ (k : ℕ). draw_of (word_of (advanced g k))) (back n)
  where
    back : (n : ℕ) → n ≡ n + 1 - 1
    back n = omega arith

-- nothing sampled yet
pub sampled_none : (g : DeterministicRng) (a b m : List ℕ) (p pe : List Float) (d s : List ℕ) → Sampled g a b m p pe d s 0 g d s
unfolding advanced sampled_erasures sampled_errors each flip_each
sampled_none g a b m p pe d s =
    record { state = refl; erasure_is = refl; defect_is = ap (λ (l : List ℕ). flip_each a b m l d) (sym (chosen_none (has_error g p pe))) }

-- one edge more
module _ (g : DeterministicRng) (a b m : List ℕ) (p pe : List Float) (d₀ s₀ : List ℕ) (i : ℕ) (h : DeterministicRng) (d s : List ℕ) (r : SampledEdge) (x : ℕ)
    (in_p : i < length p) (in_pe : i < length pe) (before : Sampled g a b m p pe d₀ s₀ i h d s) (this : EdgeSampled h (get_or p i nan) (get_or pe i nan) r) where
  erased-is : r.erased ≡ is_erased g pe i
  unfolding is_erased
  erased-is =
      this.erased ∙ ap (λ (q : Float). lt q (get_or pe i nan)) (draw_is g h (2 * i) before.state)
      ∙ ap (lt (draw_number g (2 * i + 1))) (get_d_any pe i nan zero_float in_pe)

  error-is : r.error ≡ has_error g p pe i
  unfolding has_error error_probability
  error-is =
      this.error
      ∙ ap (λ (q : Float). lt q (cond r.erased half (get_or p i nan)))
      (draw_is g (next_of h) (2 * i + 1) (ap next_of before.state ∙ sym (advanced_more g (2 * i))) ∙ ap (draw_number g) two)
      ∙ ap (λ (t : Bool). lt (draw_number g (2 * i + 2)) (cond t half (get_or p i nan))) erased-is
      ∙ ap (λ (q : Float). lt (draw_number g (2 * i + 2)) (cond (is_erased g pe i) half q)) (get_d_any p i nan zero_float in_p)
    where
      two : 2 * i + 1 + 1 ≡ 2 * i + 2
      two = omega arith

  pub sampled-more : {d' s' : List ℕ} → x ≡ cond r.erased 1 0 → s' ≡ set s i x → d' ≡ flip_each a b m (when r.error i) d
      → Sampled g a b m p pe d₀ s₀ (i + 1) r.rng d' s'
  unfolding sampled_erasures sampled_errors
  sampled-more {d'} {s'} ex es ed = record {
    state =
        this.state ∙ ap (λ (q : DeterministicRng). next_of (next_of q)) before.state
        ∙ ap next_of (sym (advanced_more g (2 * i))) ∙ sym (advanced_more g (2 * i + 1)) ∙ ap (advanced g) two;
    erasure_is =
        es ∙ ap (set s i) (ex ∙ ap (λ (t : Bool). cond t 1 0) erased-is) ∙ ap (λ (l : List ℕ). set l i (cond (is_erased g pe i) 1 0)) before.erasure_is
        ∙ sym (sets_more s₀ (each i (λ k. cond (is_erased g pe k) 1 0)) i (cond (is_erased g pe i) 1 0) (length-each i (λ k. cond (is_erased g pe k) 1 0)))
        ∙ ap (sets s₀ 0) (sym (each_more i (λ k. cond (is_erased g pe k) 1 0)));
    defect_is =
        ed ∙ ap (λ (t : Bool). flip_each a b m (when t i) d) error-is ∙ ap (flip_each a b m (when (has_error g p pe i) i)) before.defect_is
        ∙ sym (flipEach-append a b m (sampled_errors g p pe i) (when (has_error g p pe i) i) d₀)
        ∙ ap (λ (l : List ℕ). flip_each a b m l d₀) (sym (chosen_more (has_error g p pe) i));
  }
    where
      two : 2 * i + 1 + 1 ≡ 2 * (i + 1)
      two = omega arith
