-- Order: orders of vertices, old numbers and new ones. Steps: what the contracts cite besides.
pub mod Order
pub mod Steps
