pub mod Numerals
pub mod Plans
pub mod Reading
