-- What the contracts of this crate speak of.
pub mod Lists
