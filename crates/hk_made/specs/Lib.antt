pub mod Edits
pub mod Packets
