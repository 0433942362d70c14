-- Laws of the definitions. Those above cite Theorems; the rest serves the proofs here.
pub mod Bytes
pub mod Groups
pub mod Outcomes
pub mod RoundTrip
pub mod Theorems
