-- Every list handed back names the numbers that pass a test, from the smallest on, in a column's first places. Assumes nothing.
use mathlib.Core.List.{List}
use Prim.Native.Nat.{ℕ}
use Rattle.std.specs.Prelude.{Ok}
use Rattle.columns_marks.specs.Marks.{AscendingList}
use Rattle.columns_marks.proofs.Listing.{chosen_list, listed_list}
use Rattle.columns_answers.specs.Counts.{syndrome_lengths}
use Rattle.columns_answers.proofs.Said.{zero_of}
use Rattle.sampling_calls.specs.Records.{SyndromeColumns}
use Rattle.sampling_calls.specs.Errors.{SyndromeAfter}
use Rattle.sampling_calls.specs.Syndrome.{is_defect_of, syndrome_of}
use Rattle.sampling_calls.proofs.Accepting.{SyndromeLong, errors_met, syndrome_met}
use Rattle.sampling_calls.proofs.Draws.{sampling_met}
use Rattle.sampling_claims.specs.Lists.{ListsAscend}
use Rattle.sampling_claims.proofs.Accepted.{door, sampling_promise, errors_promise, syndrome_promise, how-many-defects, how-many-erasures, defectList-over, erasureList-over, how-many, syndrome-over}

both : {q v e : ℕ} {defects erasures : List ℕ} {s₀ s : SyndromeColumns} {m n : ℕ} → SyndromeLong v e s₀ → SyndromeAfter q v e defects erasures s₀ (Ok (syndrome_lengths m n)) s
    → AscendingList m s₀.defect_list s.defect_list × AscendingList n s₀.erasure_list s.erasure_list
both {q} {v} {e} {defects} {erasures} {s₀} {s} {m} {n} l x = (
  listed_list v m defects s₀.defect_list s.defect_list l.long_defects (how-many-defects x) (defectList-over x),
  listed_list e n erasures s₀.erasure_list s.erasure_list l.long_erasures (how-many-erasures x) (erasureList-over x),
)

pub lists_ascend : ListsAscend
unfolding syndrome_of
lists_ascend = record {
  of_generate_random_errors = λ seed g p pe s₀ s d e c. let x = sampling_promise c in both (sampling_met g p pe s₀ (door x)).lists x;
  of_generate_errors = λ g list s₀ s d e c. let x = errors_promise c in both (errors_met g list s₀ (door x)).lists x;
  of_syndrome_of = λ g list defectList₀ defect_list n c.
      let x = syndrome_promise c in
      chosen_list (is_defect_of g list) g.vertices n defectList₀ defect_list (syndrome_met g list defectList₀ (zero_of x.answers)).room (how-many x) (syndrome-over x);
}
