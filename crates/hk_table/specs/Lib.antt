pub mod Store
pub mod Extents
pub mod Inside
pub mod Index
pub mod Walks
pub mod Songs
