-- What a flip gives; a flip at each end of each listed edge, over standing bytes of 0 and 1; so an edge named twice flips nothing. Assumes nothing.
use mathlib.Core.Path.{◌≡◌, refl, sym, ap, ◌∙◌}
use mathlib.Core.Bool.{◌&&◌}
use mathlib.Core.List.{List, [], ◌∷◌, ◌++◌}
use Prim.Native.Nat.{ℕ, ◌+◌, ◌%◌, ◌<◌}
use native.Mathlib.Omega.{arith}
use lib.ListN.{length, get_or, take}
use lib.Seq.{length-take-le, get_or-take}
use lib.Dec.{eqb}
use Rattle.columns.specs.Limits.{mark_limit, inner}
use Rattle.columns.proofs.Columns.{take-over, over-in, over-past}
use Rattle.columns.proofs.Tests.{within_first}
use Rattle.columns_room.specs.Graph.{CodeGraph}
use Rattle.columns_marks.proofs.Listing.{chosen_same}
use Rattle.sampling_flips.specs.Flip.{flipped, flip_each}
use Rattle.sampling_flips.proofs.Flipping.{flipped-virtual, length-flipEach, flipEach-virtual}
use Rattle.sampling_calls.specs.Syndrome.{ends_in, is_defect_of, syndrome_of}
use Rattle.sampling_calls.proofs.Inner.{flipEach-inner}
use Rattle.sampling_calls.proofs.Accepting.{errors_met}
use Rattle.sampling_claims.specs.Called.{FlipReturned, flip_returned}
use Rattle.sampling_claims.specs.Flips.{FlipGives, ErrorsFlip, TwiceCancels}
use Rattle.sampling_claims.proofs.Accepted.{errors_promise, syndrome_promise, door, defect-over, how-many, syndrome-over}

-- ---- flip

flip_promise : {boundary byte result : ℕ} → FlipReturned boundary byte result → result ≡ flipped boundary byte
flip_promise (flip_returned κs a r s h) = h

pub flip_gives : FlipGives
flip_gives = record {
  returns = λ boundary byte. (flipped boundary byte, flip_returned tt (boundary, (byte, tt)) (flipped boundary byte) (boundary, (byte, tt)) refl);
  at_inner = λ boundary byte result c h e. flip_promise c ∙ ap (λ (n : ℕ). flipped n byte) e;
  at_virtual = λ boundary byte result c h f. flip_promise c ∙ flipped-virtual boundary byte f;
}

-- ---- generate_errors

pub errors_flip : ErrorsFlip
errors_flip g list s₀ s d e c =
    let x = errors_promise c in
    let m = errors_met g list s₀ (door x) in
    let standing = take g.vertices s₀.defect in
    let size : length standing ≡ g.vertices = length-take-le g.vertices s₀.defect m.lists.long_defect in
    let flips = flip_each g.ends_a g.ends_b g.boundary list standing in
    let flips-size : length flips ≡ length standing = length-flipEach g.ends_a g.ends_b g.boundary list standing in
    let at : (v : ℕ) → v < g.vertices → get_or s.defect v 0 ≡ get_or flips v 0 = λ v h. ap (λ (l : List ℕ). get_or l v 0) (defect-over x) ∙ over-in flips s₀.defect 0 v (omega arith) in
    let stood : (v : ℕ) → v < g.vertices → get_or standing v 0 ≡ get_or s₀.defect v 0 = λ v h. get_or-take g.vertices s₀.defect v 0 h in
    record {
      inner_flips = λ v h i.
          at v h
          ∙ flipEach-inner g.ends_a g.ends_b g.boundary v i list standing (omega arith)
          (omega (arith, stood v h, within_first mark_limit g.vertices s₀.defect m.defects m.lists.long_defect v h))
          ∙ ap (λ (n : ℕ). (n + ends_in g.ends_a g.ends_b list v) % 2) (stood v h);
      virtual_keeps = λ v h f. at v h ∙ flipEach-virtual g.ends_a g.ends_b g.boundary v f list standing (omega arith) ∙ stood v h;
      past_keeps = λ v h. ap (λ (l : List ℕ). get_or l v 0) (defect-over x) ∙ over-past flips s₀.defect 0 v (omega arith);
    }

-- ---- an edge named twice cancels

ends_append : (a b xs ys : List ℕ) (u : ℕ) → ends_in a b (xs ++ ys) u ≡ ends_in a b xs u + ends_in a b ys u
unfolding ends_in
ends_append a b [] ys u = omega arith
ends_append a b (x ∷ xs) ys u = omega (arith, ends_append a b xs ys u)

twice : (a b xs ys zs : List ℕ) (k u : ℕ) → ends_in a b (xs ++ (k ∷ (ys ++ (k ∷ zs)))) u % 2 ≡ ends_in a b (xs ++ (ys ++ zs)) u % 2
unfolding ends_in
twice a b xs ys zs k u =
    omega (arith, ends_append a b xs (k ∷ (ys ++ (k ∷ zs))) u, ends_append a b ys (k ∷ zs) u, ends_append a b xs (ys ++ zs) u, ends_append a b ys zs u)

syndrome_cancels : (g : CodeGraph) (xs ys zs : List ℕ) (k : ℕ) → syndrome_of g (xs ++ (k ∷ (ys ++ (k ∷ zs)))) ≡ syndrome_of g (xs ++ (ys ++ zs))
unfolding syndrome_of is_defect_of
syndrome_cancels g xs ys zs k = chosen_same g.vertices _ _ (λ u h.
    ap (λ (n : ℕ). eqb (get_or g.boundary u 0) inner && eqb n 1) (twice g.ends_a g.ends_b xs ys zs k u))

pub twice_cancels : TwiceCancels
twice_cancels g xs ys zs k column₁ defects₁ column₂ defects₂ n₁ n₂ c₁ c₂ =
    let one = syndrome_of g (xs ++ (k ∷ (ys ++ (k ∷ zs)))) in
    let two = syndrome_of g (xs ++ (ys ++ zs)) in
    let x₁ = syndrome_promise c₁ in
    let x₂ = syndrome_promise c₂ in
    let same : one ≡ two = syndrome_cancels g xs ys zs k in (
      how-many x₁ ∙ ap length same ∙ sym (how-many x₂),
      ap (take n₁) (syndrome-over x₁) ∙ take-over one column₁ n₁ (sym (how-many x₁)) ∙ same
          ∙ sym (ap (take n₂) (syndrome-over x₂) ∙ take-over two column₂ n₂ (sym (how-many x₂))),
    )
