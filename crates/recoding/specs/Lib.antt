pub mod Powers
pub mod Digits
pub mod Windows
pub mod Codings
pub mod Worked
