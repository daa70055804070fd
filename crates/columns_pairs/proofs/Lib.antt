-- PairTests: laws of the tests of pairs. Lists: laws of lists one after another. Repeats: laws of the first edge that joins the pair of an earlier one.
pub mod PairTests
pub mod Lists
pub mod Repeats
