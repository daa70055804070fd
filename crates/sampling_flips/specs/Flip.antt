-- The defect flip, at a vertex, at the ends of an edge, and for a list of edges.
use Rattle.std.specs.Prelude.{ℕ, zero, suc, ◌-◌, List, [], ◌∷◌, get_or, set}

-- Document 02, job 4, sentence 1: whether the vertex is inner, by its boundary byte: 1 if it is, 0 if it is virtual.
abbrev pub inner_bit : (boundary : ℕ) → ℕ
inner_bit zero = 1
inner_bit (suc n) = 0

-- Sampling, syndromes, reordering, paragraph 2, sentence 1: a defect byte after a flip, by the vertex's boundary byte: an inner vertex's byte b becomes 1 - b,
-- a virtual one keeps its byte.
abbrev pub flipped : (boundary byte : ℕ) → ℕ
flipped zero byte = 1 - byte
flipped (suc n) byte = byte

-- Sampling, syndromes, reordering, paragraph 2, sentence 1: the defect bytes after a flip at vertex v.
unfoldable pub flip_at : (boundary : List ℕ) (v : ℕ) (defect : List ℕ) → List ℕ
flip_at boundary v defect = set defect v (flipped (get_or boundary v 0) (get_or defect v 0))

-- Sampling, syndromes, reordering, paragraph 2, sentence 1: after an error on edge k: a flip at its first end, then one at its second.
unfoldable pub flip_edge : (a b boundary : List ℕ) (k : ℕ) (defect : List ℕ) → List ℕ
flip_edge a b boundary k defect = flip_at boundary (get_or b k 0) (flip_at boundary (get_or a k 0) defect)

-- Sampling, syndromes, reordering, paragraph 2, sentence 1: after an error on each listed edge, in list order, over the standing defects.
unfoldable pub flip_each : (a b boundary : List ℕ) (edges defect : List ℕ) → List ℕ
flip_each a b boundary [] defect = defect
flip_each a b boundary (k ∷ ks) defect = flip_each a b boundary ks (flip_edge a b boundary k defect)
