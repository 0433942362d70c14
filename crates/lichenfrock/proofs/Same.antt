-- Every exported function promises what its operation promises, and asks nothing of its caller: `X_same` for each operation X, in a file for each module of
-- src/ and in document 01's order. `X.Reads.Asked` and `X.Reads.Learnt` are the contract of the function X as the kit hands it to X's callers, so what
-- stands there is said of the functions' own `requires` and `ensures`.
pub mod Words
pub mod Sums
pub mod Shifts
pub mod Roots
pub mod Wire
