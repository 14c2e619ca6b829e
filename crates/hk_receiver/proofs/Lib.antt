mod RingBlocks
mod Segments
mod Blocks
mod Holding
mod Telling
pub mod Beginning
mod Listening
