-- What an accepted call's own promise says of its columns: they hold what was written over what stood there. Assumes nothing.
use mathlib.Core.Path.{◌≡◌, ap, ◌∙◌}
use mathlib.Core.List.{List}
use Prim.Native.Nat.{ℕ}
use lib.ListN.{length}
use lib.Ieee.{Float}
use Rattle.std.specs.Prelude.{Result, Ok}
use Rattle.columns.specs.Lists.{over}
use Rattle.columns.proofs.Columns.{after-accepted}
use Rattle.columns.specs.declared.refusal.Refusal.{Refusal}
use Rattle.columns_answers.specs.declared.SyndromeLengths.{SyndromeLengths}
use Rattle.columns_answers.specs.Counts.{syndrome_lengths}
use Rattle.columns_answers.proofs.Said.{zero_of, values_of}
use Rattle.columns_room.specs.Graph.{CodeGraph}
use Rattle.columns_marks.specs.Marks.{listed}
use Rattle.sampling_calls.specs.Records.{SyndromeColumns}
use Rattle.sampling_calls.specs.Errors.{SyndromeAfter, GeneratedErrors}
use Rattle.sampling_calls.specs.Sampling.{GeneratedRandomErrors}
use Rattle.sampling_calls.specs.Syndrome.{syndrome_of, syndrome_refusal, FoundSyndrome}
use Rattle.sampling_claims.specs.Called.{SamplingReturned, sampling_returned, ErrorsReturned, errors_returned, SyndromeReturned, syndrome_returned}

-- ---- the calls' own promises

pub sampling_promise : {seed : ℕ} {g : CodeGraph} {p pe : List Float} {s₀ : SyndromeColumns} {r : Result SyndromeLengths Refusal} {s : SyndromeColumns} → SamplingReturned seed g p pe s₀ r s
    → GeneratedRandomErrors seed g p pe s₀ r s
sampling_promise (sampling_returned κs a r s h) = h

pub errors_promise : {g : CodeGraph} {list : List ℕ} {s₀ : SyndromeColumns} {r : Result SyndromeLengths Refusal} {s : SyndromeColumns} → ErrorsReturned g list s₀ r s → GeneratedErrors g list s₀ r s
errors_promise (errors_returned κs a r s h) = h

pub syndrome_promise : {g : CodeGraph} {list defectList₀ : List ℕ} {r : Result ℕ Refusal} {defect_list : List ℕ} → SyndromeReturned g list defectList₀ r defect_list → FoundSyndrome g list defectList₀ r defect_list
syndrome_promise (syndrome_returned κs a r s h) = h

-- ---- accepted

-- a call that generates errors
module _ {q v e : ℕ} {defects erasures : List ℕ} {s₀ s : SyndromeColumns} {m n : ℕ} (x : SyndromeAfter q v e defects erasures s₀ (Ok (syndrome_lengths m n)) s) where
  pub door : q ≡ 0
  door = zero_of x.answers

  pub how-many-defects : m ≡ length (listed v defects)
  how-many-defects = ap (λ (c : SyndromeLengths). c.defects) (values_of x.answers door)

  pub how-many-erasures : n ≡ length (listed e erasures)
  how-many-erasures = ap (λ (c : SyndromeLengths). c.erasures) (values_of x.answers door)

  pub defect-over : s.defect ≡ over defects s₀.defect
  defect-over = x.defect_after ∙ after-accepted q defects s₀.defect door

  pub erasure-over : s.erasure ≡ over erasures s₀.erasure
  erasure-over = x.erasure_after ∙ after-accepted q erasures s₀.erasure door

  pub defectList-over : s.defect_list ≡ over (listed v defects) s₀.defect_list
  defectList-over = x.defect_list_after ∙ after-accepted q (listed v defects) s₀.defect_list door

  pub erasureList-over : s.erasure_list ≡ over (listed e erasures) s₀.erasure_list
  erasureList-over = x.erasure_list_after ∙ after-accepted q (listed e erasures) s₀.erasure_list door

-- `syndrome_of`
module _ {g : CodeGraph} {list defectList₀ : List ℕ} {n : ℕ} {defect_list : List ℕ} (x : FoundSyndrome g list defectList₀ (Ok n) defect_list) where
  pub how-many : n ≡ length (syndrome_of g list)
  how-many = values_of x.answers (zero_of x.answers)

  pub syndrome-over : defect_list ≡ over (syndrome_of g list) defectList₀
  syndrome-over = x.defect_list_after ∙ after-accepted (syndrome_refusal g list defectList₀) (syndrome_of g list) defectList₀ (zero_of x.answers)
