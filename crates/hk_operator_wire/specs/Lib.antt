pub mod Kinds
pub mod Heads
pub mod Items
pub mod Taken
