-- LastRests: laws of the last place with the same digits and the same rest.
pub mod LastRests
