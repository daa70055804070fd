pub mod Path
