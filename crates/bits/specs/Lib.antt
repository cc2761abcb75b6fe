pub mod Bits
pub mod Groups
