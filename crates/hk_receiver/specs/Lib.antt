pub mod Segment
pub mod Kept
pub mod Received
pub mod Quiet
