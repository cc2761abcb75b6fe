-- Laws of entries that are written.
pub mod Stored
pub mod Attempts
pub mod Writing
pub mod Windows
