-- Called: calls of `get_initializer`. Starred: document 01's checked examples with a star. Listing: the text that `codelist` prints for the example line.
pub mod Called
pub mod Starred
pub mod Listing
