pub mod LowWindows
pub mod Meaning
pub mod Counting
