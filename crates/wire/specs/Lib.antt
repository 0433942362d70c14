-- What the contracts of this crate speak of.
pub mod Wire
pub mod Refusals
pub mod Promises
