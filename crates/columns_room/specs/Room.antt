-- Question 6: whether columns are long enough.
use Rattle.std.specs.Prelude.{ℕ, ◌*◌, Bool, ◌&&◌, List, length, leb}
use Rattle.columns_neighbors.specs.Lists.{sum_to}

-- Questions at the door, 6: two columns have n places, by their lengths.
unfoldable pub two_long : (n a b : ℕ) → Bool
two_long n a b = leb n a && leb n b

-- Questions at the door, 6: three columns have n places, by their lengths.
unfoldable pub three_long : (n a b c : ℕ) → Bool
three_long n a b c = leb n a && (leb n b && leb n c)

-- Questions at the door, 6, of a new code: vertex columns: the vertices; edge columns: the edges; neighbour numbers: twice the edges.
unfoldable pub long_enough : (vertices edges vertex_room edge_room numbers : ℕ) → Bool
long_enough vertices edges vertex_room edge_room numbers = leb vertices vertex_room && (leb edges edge_room && leb (2 * edges) numbers)

-- Questions at the door, 6: ends as long as the edges, neighbour numbers as long as twice the edges.
unfoldable pub edge_columns_long : (e : ℕ) (a b numbers : List ℕ) → Bool
edge_columns_long e a b numbers = two_long e (length a) (length b) && leb (2 * e) (length numbers)

-- Questions at the door, 6, where list lengths are read: neighbour numbers, or their scratch, as long as twice the edges and as the list lengths' sum.
unfoldable pub lists_long : (v e : ℕ) (lengths numbers : List ℕ) → Bool
lists_long v e lengths numbers = leb (2 * e) (length numbers) && leb (sum_to v lengths) (length numbers)
