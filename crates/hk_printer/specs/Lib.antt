pub mod Sounding
pub mod Printed
