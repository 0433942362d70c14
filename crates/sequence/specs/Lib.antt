-- What the theorems speak of: what calls give, families of calls, their runs, what ties them to functions, and what is asked of the functions' contracts.
pub mod Outcomes
pub mod Families
pub mod Runs
pub mod Ties
pub mod Allows
pub mod Determined
