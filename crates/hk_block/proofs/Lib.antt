pub mod GrowingBlocks
pub mod Looking
