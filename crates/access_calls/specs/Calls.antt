-- The calls: which question refuses (0 for none), the answer, and the lent columns afterwards.
use Rattle.std.specs.Prelude.{ℕ, ◌≡◌, Bool, ◌&&◌, List, leb, length, take, Result}
use Rattle.columns.specs.Lists.{after}
use Rattle.columns.specs.Questions.{ask, all_below, vertex_count_sound, edge_count_sound, marks_sound, half_weights_sound}
use Rattle.columns_answers.specs.Said.{said, Answered}
use Rattle.columns.specs.declared.refusal.Refusal.{Refusal}
use Rattle.columns_room.specs.Graph.{code_graph, code_sound}
use Rattle.columns_room.specs.Room.{two_long, three_long}
use Rattle.columns_marks.specs.Marks.{listed, marks}
use Rattle.access_vertices.specs.Weights.{weights}
use Rattle.columns_answers.specs.declared.SyndromeLengths.{SyndromeLengths}
use Rattle.columns_answers.specs.Counts.{syndrome_lengths, no_lengths}

-- ---- get_initializer

-- Records, on vertices and edges: the columns that `get_initializer` reads.
pub record Code : Type 0 where
  pub ends_a : List ℕ
  pub ends_b : List ℕ
  pub half_weight : List ℕ
  pub boundary : List ℕ

-- Records, on vertices and edges: these columns together.
abbrev pub code : List ℕ → List ℕ → List ℕ → List ℕ → Code
code a b h m = record { ends_a = a; ends_b = b; half_weight = h; boundary = m }

-- Weights, get_initializer: the columns that it writes: ends, weights and virtual vertices.
pub record Initializer : Type 0 where
  pub ends_a : List ℕ
  pub ends_b : List ℕ
  pub weight : List ℕ
  pub virtual : List ℕ

-- Weights, get_initializer: these columns together.
abbrev pub initializer : List ℕ → List ℕ → List ℕ → List ℕ → Initializer
initializer a b w l = record { ends_a = a; ends_b = b; weight = w; virtual = l }

-- Questions at the door, 6: edge columns as long as the edges, boundary bytes and the list of virtual vertices as long as the vertices.
unfoldable pub initializer_long : (v e : ℕ) → Code → Initializer → Bool
initializer_long v e c to =
    three_long e (length c.ends_a) (length c.ends_b) (length c.half_weight)
    && (three_long e (length to.ends_a) (length to.ends_b) (length to.weight)
    && two_long v (length c.boundary) (length to.virtual))

-- Questions at the door, 7: counts, ends, boundary bytes and half weights.
unfoldable pub initializer_sound : (v e : ℕ) → Code → Bool
initializer_sound v e c = code_sound (code_graph v e c.ends_a c.ends_b c.boundary) && half_weights_sound e c.half_weight

-- Questions at the door, 6 and 7, in order, of `get_initializer`.
abbrev pub initializer_refusal : (v e : ℕ) → Code → Initializer → ℕ
initializer_refusal v e c to = ask (initializer_long v e c to) 6 (ask (initializer_sound v e c) 7 0)

-- Weights, get_initializer: weight is twice the half weight, virtual vertices ascend; the answer is how many virtual vertices there are.
pub record GotInitializer (v e : ℕ) (c : Code) (to₀ to : Initializer) (answer : Result ℕ Refusal) : Type 0 where
  pub answers : Answered (said 0 answer) (initializer_refusal v e c to₀) (length (listed v c.boundary)) 0
  pub ends_a_after : to.ends_a ≡ after (initializer_refusal v e c to₀) (take e c.ends_a) to₀.ends_a
  pub ends_b_after : to.ends_b ≡ after (initializer_refusal v e c to₀) (take e c.ends_b) to₀.ends_b
  pub weight_after : to.weight ≡ after (initializer_refusal v e c to₀) (weights e c.half_weight) to₀.weight
  pub virtual_after : to.virtual ≡ after (initializer_refusal v e c to₀) (listed v c.boundary) to₀.virtual

-- ---- set_defect_vertices, set_erasures: n is the count, `sound` question 7 of it

-- Questions at the door, 6, 7 and 13, in order; the bytes are only written, so 7 asks the count alone.
abbrev pub set_marks_refusal : (sound : Bool) (n : ℕ) (list column : List ℕ) → ℕ
set_marks_refusal sound n list column = ask (leb n (length column)) 6 (ask sound 7 (ask (all_below n list) 13 0))

-- Taken over, the trait `ExampleCode`: the bytes that the list names are 1, the others 0; the answer, and the column afterwards.
pub record SetMarks (sound : Bool) (n : ℕ) (list column₀ column : List ℕ) (answer : Result (Unit {0}) Refusal) : Type 0 where
  pub answers : Answered (said tt answer) (set_marks_refusal sound n list column₀) tt tt
  pub column_after : column ≡ after (set_marks_refusal sound n list column₀) (marks n list) column₀

-- ---- set_syndrome: both, each question of both before the next

-- Records, on vertices and edges: defects and erasures, as bytes or as lists.
pub record Syndrome : Type 0 where
  pub defects : List ℕ
  pub erasures : List ℕ

-- Records, on vertices and edges: both together.
abbrev pub syndrome : List ℕ → List ℕ → Syndrome
syndrome d e = record { defects = d; erasures = e }

-- Questions at the door, 7: 1 to 4,096 vertices, 0 to 32,768 edges.
unfoldable pub counts_sound : (v e : ℕ) → Bool
counts_sound v e = vertex_count_sound v && edge_count_sound e

-- Questions at the door, 6, 7 and 13, in order; the bytes are only written, so 7 asks the counts alone.
abbrev pub set_syndrome_refusal : (v e : ℕ) → Syndrome → Syndrome → ℕ
set_syndrome_refusal v e lists column =
    ask (leb v (length column.defects) && leb e (length column.erasures)) 6
    (ask (counts_sound v e) 7
    (ask (all_below v lists.defects && all_below e lists.erasures) 13 0))

-- Taken over, the trait `ExampleCode`: the bytes that the lists name are 1, the others 0; the answer, and both columns afterwards.
pub record SetSyndrome (v e : ℕ) (lists column₀ column : Syndrome) (answer : Result (Unit {0}) Refusal) : Type 0 where
  pub answers : Answered (said tt answer) (set_syndrome_refusal v e lists column₀) tt tt
  pub defects_after : column.defects ≡ after (set_syndrome_refusal v e lists column₀) (marks v lists.defects) column₀.defects
  pub erasures_after : column.erasures ≡ after (set_syndrome_refusal v e lists column₀) (marks e lists.erasures) column₀.erasures

-- ---- get_defect_vertices, get_erasures: n is the count, `sound` question 7 of it

-- Questions at the door, 6 and 7, in order.
abbrev pub get_marks_refusal : (sound : Bool) (n : ℕ) (column list : List ℕ) → ℕ
get_marks_refusal sound n column list = ask (two_long n (length column) (length list)) 6 (ask (sound && marks_sound n column) 7 0)

-- Sampling, syndromes, reordering, paragraph 2, sentence 4: the list of defects or erasures ascends; the answer is how many there are.
pub record GotMarks (sound : Bool) (n : ℕ) (column list₀ list : List ℕ) (answer : Result ℕ Refusal) : Type 0 where
  pub answers : Answered (said 0 answer) (get_marks_refusal sound n column list₀) (length (listed n column)) 0
  pub list_after : list ≡ after (get_marks_refusal sound n column list₀) (listed n column) list₀

-- ---- get_syndrome: both, each question of both before the next

-- Questions at the door, 6 and 7, in order.
abbrev pub get_syndrome_refusal : (v e : ℕ) → Syndrome → Syndrome → ℕ
get_syndrome_refusal v e column lists =
    ask (two_long v (length column.defects) (length lists.defects) && two_long e (length column.erasures) (length lists.erasures)) 6
    (ask (counts_sound v e && (marks_sound v column.defects && marks_sound e column.erasures)) 7 0)

-- Sampling, syndromes, reordering, paragraph 2, sentence 4: both lists ascend; the answer is how many defects and how many erasures there are.
pub record GotSyndrome (v e : ℕ) (column lists₀ lists : Syndrome) (answer : Result SyndromeLengths Refusal) : Type 0 where
  pub answers : Answered (said no_lengths answer) (get_syndrome_refusal v e column lists₀) (syndrome_lengths (length (listed v column.defects)) (length (listed e column.erasures))) no_lengths
  pub defects_after : lists.defects ≡ after (get_syndrome_refusal v e column lists₀) (listed v column.defects) lists₀.defects
  pub erasures_after : lists.erasures ≡ after (get_syndrome_refusal v e column lists₀) (listed e column.erasures) lists₀.erasures
