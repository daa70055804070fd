-- Agreement: what the columns have in common with the tally after every list of calls. LastNamed: the tally's weights in a reader's words.
pub mod Agreement
pub mod LastNamed
