-- What the theorems of this crate speak of.
pub mod Modulus
pub mod Elements
pub mod Lists
pub mod Powers
pub mod Residues
pub mod Search
pub mod Polynomials
