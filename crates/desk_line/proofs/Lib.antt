-- Laws of the definitions. Theorems is for those above; the rest serves the proofs here.
pub mod NameTests
pub mod Numbers
pub mod Cutting
pub mod Shapes
pub mod Parts
pub mod Counts
pub mod Feeding
pub mod OpenLine
pub mod Unkept
pub mod Theorems
pub mod Example
