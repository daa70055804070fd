-- Answer: the text for an input line, and the call. Claims: every text fits.
pub mod Answer
pub mod Claims
