-- What the contracts of this crate speak of.
pub mod Digits
pub mod Names
pub mod Decimals
