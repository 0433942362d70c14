-- The statements are in Theorems, WholeNumbers, Determined, Placements and Example; the rest serves their proofs.
pub mod Solutions
pub mod FirstRoot
pub mod WholeNumbers
pub mod Agreement
pub mod Contracts
pub mod Possible
pub mod Theorems
pub mod Determined
pub mod Placements
pub mod Example
