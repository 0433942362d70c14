-- The statements are in Theorems; the rest serves whoever shows them of a family.
pub mod Stores
pub mod Allows
pub mod Determined
pub mod Theorems
