-- Kind 4: the edges between layers.
pub mod Circuit
