-- Laws of the definitions, and of lines joined, which those above cite; Turns, and the rest of LineLaws, serve the proofs here.
pub mod NameLaws
pub mod DigitLaws
pub mod DecimalLaws
pub mod Reading
pub mod Turns
pub mod LineLaws
