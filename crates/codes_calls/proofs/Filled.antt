-- Columns by the runs of stores that filled them. Assumes nothing.
use mathlib.Core.Path.{◌≡◌, ap, ◌∙◌}
use mathlib.Core.Bool.{Bool}
use mathlib.Core.List.{List, map}
use Prim.Native.Nat.{ℕ, ◌+◌, ◌*◌, ◌≤◌, ◌<◌, min}
use native.Mathlib.Omega.{arith}
use lib.ListN.{length, replicate, length-map, length-replicate}
use lib.Seq.{sets}
use Rattle.columns.specs.Lists.{over}
use Rattle.columns.specs.Questions.{ask}
use Rattle.columns.proofs.Columns.{sets_over}
use Rattle.codes_layers.specs.Counts.{vertex_num, edge_num}
use Rattle.codes_layers.specs.Accepts.{code_refusal}
use Rattle.codes_questions.proofs.Later.{next_same}
use Rattle.codes_calls.specs.Columns.{long_enough}
use Rattle.codes_calls.specs.CreateCode.{create_refusal}

pub filled : {A : Type 0} (v : A) (x₀ : List A) {x : List A} {n : ℕ} (m : ℕ) → x ≡ sets x₀ 0 (replicate n v) → n ≡ m → m ≤ length x₀ → x ≡ over (replicate m v) x₀
filled v x₀ m e h l = e ∙ ap (λ (k : ℕ). sets x₀ 0 (replicate k v)) h ∙ sets_over x₀ (replicate m v) (omega (arith, length-replicate m v))

pub written : {A B : Type 0} (f : A → B) (es : List A) (x₀ : List B) {x : List B} → x ≡ sets x₀ 0 (map f es) → length es ≤ length x₀ → x ≡ over (map f es) x₀
written f es x₀ e l = e ∙ sets_over x₀ (map f es) (omega (arith, length-map es f))
