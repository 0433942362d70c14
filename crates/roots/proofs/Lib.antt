-- Laws of the definitions. Those above cite Canonical, Told, Generated, SquareRootOrder and SquareRootWord; the rest serves the proofs here.
pub mod Canonical
pub mod Told
pub mod Exponents
pub mod Generated
pub mod SquareRootOrder
pub mod SquareRootWord
pub mod SquareRootSearch
pub mod SquareRootTurns
