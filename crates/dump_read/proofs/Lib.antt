pub mod Words
pub mod Lines
pub mod Gathers
pub mod Declaring
