-- `sampling_clear::clear_errors` meets its contract: where no question fails both columns have room for the bytes that the fills store. Assumes nothing.
use mathlib.Core.Path.{◌≡◌, sym, ◌∙◌}
use mathlib.Core.Bool.{◌&&◌}
use mathlib.Core.List.{List}
use Prim.Native.Nat.{ℕ, ◌≤◌}
use native.Mathlib.Omega.{arith}
use lib.ListN.{length, replicate, length-replicate}
use lib.Seq.{sets}
use lib.Dec.{leb}
use borrow.Author.Tests.{leb-true}
use Rattle.columns.specs.Lists.{after}
use Rattle.columns.specs.Questions.{ask, vertex_count_sound, edge_count_sound}
use Rattle.columns.proofs.Columns.{after-accepted, sets_over}
use Rattle.columns.proofs.Refusals.{met}
use Rattle.columns.proofs.Tests.{and_both}
use Rattle.columns_answers.proofs.Said.{accepted-of}
use Rattle.sampling_clear.specs.Clear.{clear_refusal}
use Rattle.sampling_clear.proofs.clear_errors.Goals as goal

filled : (q n x : ℕ) (column : List ℕ) → q ≡ 0 → n ≤ length column → sets column 0 (replicate n x) ≡ after q (replicate n x) column
filled q n x column z h = sets_over column (replicate n x) (omega (arith, length-replicate {A = ℕ} n x)) ∙ sym (after-accepted q (replicate n x) column z)

pub returns : goal.returns
returns c =
    let a = c.args in
    let d = a.defect.now in
    let s = a.erasure.now in
    let q = clear_refusal a.vertex_num a.edge_num d s in
    let z : q ≡ 0 = sym c.in_ok-clear_questions.ensures in
    let (x, y) = and_both (leb a.vertex_num (length d)) (leb a.edge_num (length s)) (met _ 5 (ask (vertex_count_sound a.vertex_num && edge_count_sound a.edge_num) 7 0) z) in
    record {
      answers = accepted-of z;
      defect_after = c.fill.ensures ∙ filled q a.vertex_num 0 d z (leb-true _ _ x);
      erasure_after = c.fill-2.ensures ∙ filled q a.edge_num 1 s z (leb-true _ _ y);
    }
