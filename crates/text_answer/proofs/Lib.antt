-- Sizes: every text fits. Texts: the text for a line, and the call. Cases: what an answer says.
pub mod Sizes
pub mod Texts
pub mod Cases
