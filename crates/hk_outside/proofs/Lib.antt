mod Asked
mod Handing
