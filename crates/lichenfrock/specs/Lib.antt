pub mod Handed
pub mod Same
