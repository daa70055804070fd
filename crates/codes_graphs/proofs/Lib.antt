-- Parts: properties of lists, part by part. Known: edges with keys. PlanarEdges, RotatedEdges, AllEdges: the edges of each kind. AllVertices: the boundary bytes.
-- Lists: neighbour lists. Straight: a walk of d edges. Sound, Distance: the claims. Join: two blocks in sequence.
pub mod Parts
pub mod Known
pub mod PlanarEdges
pub mod RotatedEdges
pub mod AllEdges
pub mod AllVertices
pub mod Lists
pub mod Straight
pub mod Sound
pub mod Distance
pub mod Join
