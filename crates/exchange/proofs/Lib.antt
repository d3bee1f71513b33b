pub mod Rounds
pub mod Exchanging
