-- Laws of the definitions. Those above cite PowersOfTwo; Arms and Table serve the proofs here.
pub mod Arms
pub mod PowersOfTwo
pub mod Table
