pub mod Calls
pub mod Doors
pub mod Gates
pub mod Links
pub mod Memory
pub mod MemoryDoors
pub mod Places
