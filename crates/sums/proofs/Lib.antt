-- Laws of the definitions. Those above cite SumLaws and Totals; the rest serves the proofs here.
pub mod Totals
pub mod SumLaws
