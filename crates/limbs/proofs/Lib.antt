-- Laws of limbs and of products, which those above cite too.
pub mod Products
pub mod Carries
