pub mod Fields
pub mod Numerals
pub mod Decimal
pub mod Hex
