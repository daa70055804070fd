-- Within: what questions 3 and 4 say of the distance and of the rounds. Later: what is asked after questions 2 to 5.
pub mod Within
pub mod Later
