pub mod LastBytes
pub mod Tallies
