pub mod Inverses
pub mod Likeness
pub mod Times
pub mod Examples
