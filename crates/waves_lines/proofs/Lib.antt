-- Laws of the lines of the waves.
pub mod Lines
pub mod Cycles
