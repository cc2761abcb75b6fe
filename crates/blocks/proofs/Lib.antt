-- Laws of blocks of cycles.
pub mod Stretches
pub mod Cycles
pub mod Runs
