-- In reading order. ReorderCalled: calls of `reorder_vertices`. Moves: what moves with a vertex. Keeps: what stays as it was, up to the new numbers.
pub mod ReorderCalled
pub mod Moves
pub mod Keeps
