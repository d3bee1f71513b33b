pub mod Refusing
pub mod Going
pub mod Products
