pub mod Lines
pub mod Fields
pub mod Summaries
pub mod Programs
