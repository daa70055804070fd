-- Said: what an answer's words tell.
pub mod Said
