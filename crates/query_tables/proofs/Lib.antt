-- Sources: the end after which the search from one source stops. Tables: what an accepted table query says of its columns.
pub mod Sources
pub mod Tables
