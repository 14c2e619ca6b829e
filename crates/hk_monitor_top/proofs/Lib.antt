mod Rows
mod ByNumber
mod Returning
mod InOrder
mod Carrying
mod Concluding
mod AtDoor
mod Deciding
