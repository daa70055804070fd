-- Lists: neighbour lists. Sound: question 7 of counts, ends and log. Steps: what contracts cite besides.
pub mod Lists
pub mod Sound
pub mod Steps
