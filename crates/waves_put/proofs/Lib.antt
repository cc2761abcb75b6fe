-- Laws of bytes that are written, and of decimal numbers.
pub mod Putting
pub mod Decimals
