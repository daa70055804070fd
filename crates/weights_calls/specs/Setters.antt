-- set_probability and set_erasure_probability: which question refuses (0 for none), the answer, and the column afterwards.
use Rattle.std.specs.Prelude.{ℕ, ◌≡◌, Bool, List, leb, length, replicate, Float, Result}
use Rattle.columns.specs.Limits.{edge_limit}
use Rattle.columns.specs.Lists.{after}
use Rattle.columns.specs.Questions.{ask}
use Rattle.columns.specs.declared.refusal.Refusal.{Refusal}
use Rattle.columns_answers.specs.Said.{said, Answered}

-- Questions at the door, 6, 7 and 9, of `set_probability` and `set_erasure_probability`; `met` is question 9 of the one number.
abbrev pub set_each_refusal : Bool → ℕ → List Float → ℕ
set_each_refusal met edges column = ask (leb edges (length column)) 6 (ask (leb edges edge_limit) 7 (ask met 9 0))

-- Records, on edges, p or pe of every edge set to one number: the call's answer, and what stands in the column of p or pe before it and afterwards.
pub record SetEach (met : Bool) (edges : ℕ) (value : Float) (column₀ column : List Float) (answer : Result (Unit {0}) Refusal) : Type 0 where
  pub answers : Answered (said tt answer) (set_each_refusal met edges column₀) tt tt
  pub column_after : column ≡ after (set_each_refusal met edges column₀) (replicate edges value) column₀
