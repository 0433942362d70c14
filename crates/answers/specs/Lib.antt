-- What the contracts of the operations speak of.
pub mod Answers
pub mod Promises
