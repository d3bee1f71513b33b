pub mod Refusals
pub mod Streams
