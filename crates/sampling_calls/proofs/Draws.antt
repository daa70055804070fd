-- What an accepted sampling says, and the columns after it. Assumes nothing.
use mathlib.Core.Path.{◌≡◌, ap, ◌∙◌, subst}
use mathlib.Core.Bool.{◌&&◌, cond}
use mathlib.Core.List.{List}
use Prim.Native.Nat.{ℕ, ◌≤◌, ◌<◌}
use native.Mathlib.Omega.{arith}
use lib.ListN.{length, get_or, replicate, length-replicate}
use lib.Seq.{sets}
use lib.Ieee.{Float}
use Rattle.columns.specs.Lists.{over}
use Rattle.columns.specs.Questions.{ask}
use Rattle.columns.proofs.Columns.{sets_over}
use Rattle.columns.proofs.Tests.{and_both}
use Rattle.columns.proofs.Refusals.{met, goes_on}
use Rattle.columns.proofs.Counting.{length-each}
use Rattle.sampling_generator.specs.declared.DeterministicRng.{DeterministicRng}
use Rattle.columns_room.specs.Graph.{CodeGraph, graph_long, code_sound}
use Rattle.sampling_calls.specs.Records.{SyndromeColumns, syndrome_long}
use Rattle.sampling_flips.specs.Flip.{flip_each}
use Rattle.sampling_edges.specs.Draws.{is_erased, has_error, sampled_erasures, sampled_errors}
use Rattle.sampling_edges.specs.Steps.{Sampled}
use Rattle.sampling_calls.specs.Sampling.{sampled_defects, probabilities_sound, sampling_refusal}
use Rattle.sampling_flips.proofs.Flipping.{length-flipEach}
use Rattle.columns_marks.proofs.Listing.{chosen-below}
use Rattle.columns_room.specs.Room.{two_long}
use Rattle.columns_room.proofs.Refusals.{two_long_lem}
use Rattle.columns_room.proofs.Graph.{GraphLong, graph_long_of, CodeSound, code_sound_of}
use Rattle.sampling_calls.proofs.Accepting.{SyndromeLong, syndrome_long_of, flip_each-over}

pub record SamplingMet (g : CodeGraph) (p pe : List Float) (s : SyndromeColumns) : Type 0 where
  pub long : GraphLong g
  pub long_p : g.edges ≤ length p
  pub long_pe : g.edges ≤ length pe
  pub lists : SyndromeLong g.vertices g.edges s
  pub sound : CodeSound g

pub sampling_met : (g : CodeGraph) (p pe : List Float) (s : SyndromeColumns) → sampling_refusal g p pe s ≡ 0 → SamplingMet g p pe s
unfolding sampling_refusal
sampling_met g p pe s z =
    let six = graph_long g && (two_long g.edges (length p) (length pe) && syndrome_long g.vertices g.edges s) in
    let last = ask (probabilities_sound g.edges p pe) 9 0 in
    let (l, x) = and_both (graph_long g) _ (met six 5 (ask (code_sound g) 7 last) z) in
    let (y, w) = and_both (two_long g.edges (length p) (length pe)) _ x in
    let (lp, lpe) = two_long_lem g.edges _ _ y in
    record {
      long = graph_long_of g l;
      long_p = lp;
      long_pe = lpe;
      lists = syndrome_long_of g.vertices g.edges s w;
      sound = code_sound_of g (met (code_sound g) 6 last (goes_on six 5 (ask (code_sound g) 7 last) z));
    }

-- sampling over cleared defects: every column's first places, and the places past them
module _ (r : DeterministicRng) (g : CodeGraph) (p pe : List Float) (d₀ s₀ : List ℕ) {d₁ d s : List ℕ} {h : DeterministicRng}
    (sound : CodeSound g) (room : g.vertices ≤ length d₀) (room-s : g.edges ≤ length s₀) (cleared : d₁ ≡ sets d₀ 0 (replicate g.vertices 0))
    (this : Sampled r g.ends_a g.ends_b g.boundary p pe d₁ s₀ g.edges h d s) where
  cleared-over : d₁ ≡ over (replicate g.vertices 0) d₀
  cleared-over = cleared ∙ sets_over d₀ (replicate g.vertices 0) (omega (arith, length-replicate {A = ℕ} g.vertices 0))

  errors-below : (i : ℕ) → i < length (sampled_errors r p pe g.edges) → get_or (sampled_errors r p pe g.edges) i 0 < g.edges
  unfolding sampled_errors
  errors-below i l = chosen-below (has_error r p pe) g.edges i l

  pub sampled-defect : d ≡ over (sampled_defects r g p pe) d₀
  unfolding sampled_defects
  sampled-defect =
      this.defect_is ∙ ap (flip_each g.ends_a g.ends_b g.boundary (sampled_errors r p pe g.edges)) cleared-over
      ∙ flip_each-over g.vertices g.edges g.ends_a g.ends_b g.boundary (sampled_errors r p pe g.edges) (replicate g.vertices 0) d₀
      (length-replicate g.vertices 0) sound.graph.in_a sound.graph.in_b errors-below

  pub sampled-erasure : s ≡ over (sampled_erasures r pe g.edges) s₀
  unfolding sampled_erasures
  sampled-erasure =
      this.erasure_is ∙ sets_over s₀ (sampled_erasures r pe g.edges) (omega (arith, length-each {A = ℕ} g.edges (λ k. cond (is_erased r pe k) 1 0)))

pub length-sampled_defects : (r : DeterministicRng) (g : CodeGraph) (p pe : List Float) → length (sampled_defects r g p pe) ≡ g.vertices
unfolding sampled_defects
length-sampled_defects r g p pe =
    length-flipEach g.ends_a g.ends_b g.boundary (sampled_errors r p pe g.edges) (replicate g.vertices 0) ∙ length-replicate g.vertices 0

pub length-sampled_erasures : (r : DeterministicRng) (pe : List Float) (e : ℕ) → length (sampled_erasures r pe e) ≡ e
unfolding sampled_erasures
length-sampled_erasures r pe e = length-each e (λ k. cond (is_erased r pe k) 1 0)

-- the same for a generator that is the one named
pub sampled_from : {r r' : DeterministicRng} {a b m : List ℕ} {p pe : List Float} {d₀ s₀ : List ℕ} {i : ℕ} {h : DeterministicRng} {d s : List ℕ} → r ≡ r'
    → Sampled r a b m p pe d₀ s₀ i h d s → Sampled r' a b m p pe d₀ s₀ i h d s
sampled_from {r} {r'} {a} {b} {m} {p} {pe} {d₀} {s₀} {i} {h} {d} {s} e x = subst (λ (q : DeterministicRng). Sampled q a b m p pe d₀ s₀ i h d s) e x
