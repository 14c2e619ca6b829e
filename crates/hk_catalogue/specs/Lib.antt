pub mod Refusals
pub mod Entries
pub mod Register
pub mod RollInside
pub mod Shelves
pub mod CatalogueInside
pub mod Shelf
