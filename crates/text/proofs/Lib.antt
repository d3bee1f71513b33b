mod Cutting
mod Spelling
mod DecimalReading
mod HexReading
mod Grouping
mod WordsNumber
