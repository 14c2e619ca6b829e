pub mod Places
pub mod RollSongs
pub mod RollFields
pub mod Shelving
pub mod FreeSlots
pub mod Kept
pub mod Counting
pub mod Filled
