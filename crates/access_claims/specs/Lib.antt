-- In reading order. AccessCalled: calls of the getters and setters. Lists: what a list holds that a getter hands back. SetThenGet: the same after a setter.
pub mod AccessCalled
pub mod Lists
pub mod SetThenGet
