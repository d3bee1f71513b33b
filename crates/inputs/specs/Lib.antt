pub mod Sizes
pub mod Signs
pub mod Rules
pub mod Tests
pub mod Keys
pub mod Draws
pub mod Tables
pub mod Quotients
