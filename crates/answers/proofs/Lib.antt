-- Laws of the promises, for those above.
pub mod Stands
pub mod Told
