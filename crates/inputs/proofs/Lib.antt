pub mod Words
pub mod Keys
pub mod Draws
