-- Theorems has the statements at P, Halves those on powers of two and of a half. The files before them prove what holds over any modulus, in this order:
-- Fast, Fields and Certificate define what only proofs speak of. Search has the laws of `least`; Choice and Tables serve proofs about code.
pub mod Congruence
pub mod Powers
pub mod Fast
pub mod Fields
pub mod Certificate
pub mod Order
pub mod Pigeonhole
pub mod Generator
pub mod Inverses
pub mod Squares
pub mod Polynomials
pub mod Prime
pub mod Theorems
pub mod Halves
pub mod Search
pub mod Choice
pub mod Tables
