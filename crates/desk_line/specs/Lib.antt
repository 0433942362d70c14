-- What the contracts of this crate speak of.
pub mod Replies
pub mod Grammar
pub mod Pieces
pub mod Promises
pub mod Example
