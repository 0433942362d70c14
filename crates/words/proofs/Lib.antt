-- Laws of the definitions. Those above cite Corrections, Reductions, Laws and Signed; Readers and Returns serve the proofs here.
pub mod Corrections
pub mod Laws
pub mod Reductions
pub mod Signed
pub mod Readers
pub mod Returns
