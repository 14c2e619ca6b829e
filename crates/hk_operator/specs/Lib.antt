pub mod WordBuffer
pub mod Inside
pub mod Draft
pub mod Sound
pub mod OnShelf
pub mod Obeying
pub mod Answering
