-- What is said of every exported function.
pub mod Same
pub mod Out
