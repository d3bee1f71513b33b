pub mod Corrections
pub mod Operations
pub mod Steps
pub mod Work
