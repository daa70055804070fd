-- Crosses: every code has a crossing weight. Room: columns for 1,024 vertices hold every such code. Sizes: every listing is short enough.
-- Holds: what the columns hold after `new`. Crossed: what the crossing query answers. Texts: the text from the columns.
pub mod Crosses
pub mod Room
pub mod Sizes
pub mod Holds
pub mod Crossed
pub mod Texts
