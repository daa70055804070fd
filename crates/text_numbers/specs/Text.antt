-- The text that `codelist` prints: document 01, "The program `codelist`".
use Rattle.std.specs.Prelude.{ℕ, zero, suc, ◌+◌, ◌/◌, ◌%◌, ◌^◌, cond, List, [], ◌∷◌, ◌++◌, leb, get_or}
use Rattle.columns.specs.Lists.{joined}

-- ---- numbers

-- The program codelist, the listing: how many decimal digits a number below 10 to the power k + 1 has.
unfoldable pub size_in : (k n : ℕ) → ℕ
size_in zero n = 1
size_in (suc k) n = cond (leb (10 ^ suc k) n) (suc (suc k)) (size_in k n)

-- The program codelist, the listing: the last k decimal digits of a number, the highest first, as bytes.
unfoldable pub digits_of : (k n : ℕ) → List ℕ
digits_of zero n = []
digits_of (suc k) n = (0x30 + n / 10 ^ k % 10) ∷ digits_of k n

-- The program codelist, the listing: a number below 10 to the power 10, without leading zeros.
unfoldable pub decimal : ℕ → List ℕ
decimal n = digits_of (size_in 9 n) n

-- ---- lines

-- The program codelist, the listing: numbers, a comma before each, and the line's end.
unfoldable pub ended : List ℕ → List ℕ
ended [] = 0x0a ∷ []
ended (n ∷ ns) = 0x2c ∷ (decimal n ++ ended ns)

-- The program codelist, the listing: a line of a letter and numbers.
abbrev pub line : (letter : ℕ) → List ℕ → List ℕ
line letter ns = letter ∷ ended ns

-- The program codelist, sentence 4: `r,`, the number of a refusal and byte 0a.
abbrev pub refusal_line : ℕ → List ℕ
refusal_line number = line 0x72 (number ∷ [])

-- The program codelist, last sentence, g: kind, d, rounds, vertices, edges.
abbrev pub graph_line : (kind d rounds vertices edges : ℕ) → List ℕ
graph_line kind d rounds vertices edges = line 0x67 (kind ∷ d ∷ rounds ∷ vertices ∷ edges ∷ [])

-- The program codelist, last sentence, v: number, boundary byte.
abbrev pub vertex_line : (boundary : List ℕ) (v : ℕ) → List ℕ
vertex_line boundary v = line 0x76 (v ∷ get_or boundary v 0 ∷ [])

-- The program codelist, last sentence, e: number, ends, weight.
abbrev pub edge_line : (a b weights : List ℕ) (e : ℕ) → List ℕ
edge_line a b weights e = line 0x65 (e ∷ get_or a e 0 ∷ get_or b e 0 ∷ get_or weights e 0 ∷ [])

-- The program codelist, last sentence, c: crossing.
abbrev pub crossing_line : ℕ → List ℕ
crossing_line weight = line 0x63 (weight ∷ [])

-- ---- the listing

-- The program codelist, the listing: the lines of all vertices, in order.
unfoldable pub vertex_lines : (vertices : ℕ) (boundary : List ℕ) → List ℕ
vertex_lines vertices boundary = joined vertices (vertex_line boundary)

-- The program codelist, the listing: the lines of all edges, in order.
unfoldable pub edge_lines : (edges : ℕ) (a b weights : List ℕ) → List ℕ
edge_lines edges a b weights = joined edges (edge_line a b weights)

-- The program codelist, the listing: a code's listing, from its counts, its columns, the edges' weights and the crossing weight.
unfoldable pub listing : (kind d rounds vertices edges : ℕ) (boundary a b weights : List ℕ) (crossing : ℕ) → List ℕ
listing kind d rounds vertices edges boundary a b weights crossing =
    graph_line kind d rounds vertices edges ++ (vertex_lines vertices boundary ++ (edge_lines edges a b weights ++ crossing_line crossing))
