pub mod Moves
pub mod Frames
pub mod Opens
pub mod Stamps
pub mod Codes
pub mod Words
pub mod Step
pub mod First
