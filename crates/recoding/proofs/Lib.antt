pub mod Windows
pub mod Machine
pub mod Equation
pub mod Loop
pub mod Tests
pub mod Limits
pub mod Checking
pub mod Runs
