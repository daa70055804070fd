-- Listed: what a getter's list holds, after any call and after a setter.
pub mod Listed
