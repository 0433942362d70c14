-- What the contracts of this crate speak of.
pub mod Words
pub mod Orders
pub mod Promises
