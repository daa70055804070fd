-- Keys: the columns of a state and its keys, after a store.
pub mod Keys
