-- Long: what an accepted get_positions says of its columns.
pub mod Long
