pub mod LastPacket
pub mod Items
pub mod Says
pub mod Steps
pub mod Taken
pub mod Sounding
