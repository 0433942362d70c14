-- What the theorems of this crate speak of, beside what `sequence` has for any family of calls.
pub mod Calls
pub mod Held
pub mod WholeNumbers
pub mod Allowed
pub mod Operations
pub mod Placements
pub mod Example
