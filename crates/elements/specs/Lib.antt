pub mod Elements
pub mod Kinds
