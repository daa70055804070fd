-- Numbers: `build_old_to_new` and `translated_defect_to_reordered`. Columns: `reorder_vertices`.
-- Orders of vertices, old numbers and new ones stand in the crate reorder_orders.
pub mod Numbers
pub mod Columns
