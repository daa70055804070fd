-- In reading order. BuiltAndChecked: calls that build a code, and calls of `sanity_check`. SoundCodes: what the verdict on a built code is.
pub mod BuiltAndChecked
pub mod SoundCodes
