-- The vertex after which a search stops.
use Rattle.std.specs.Prelude.{ℕ, Bool, true, cond, eqb, ltb, Option, Some, None}
use Rattle.std.proofs.Math.Option as maybe
use Rattle.columns.specs.declared.VertexIndex.{VertexIndex}

-- Engine, Settling, sentence 5: the named end, none or a vertex.
abbrev pub end_in : Option VertexIndex → maybe.Option ℕ
end_in None = maybe.none
end_in (Some v) = maybe.some v.0

-- Questions at the door, 13, of the named end.
abbrev pub end_in_range : Option VertexIndex → ℕ → Bool
end_in_range None v = true
end_in_range (Some b) v = ltb b.0 v

-- Engine, Settling, sentence 5: the number after which a search stops: a named end that is not the source, else one that is no vertex.
abbrev pub stop_of : Option VertexIndex → (source vertices : ℕ) → ℕ
stop_of None source vertices = vertices
stop_of (Some b) source vertices = cond (eqb b.0 source) vertices b.0
