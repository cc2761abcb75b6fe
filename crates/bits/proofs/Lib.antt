-- Laws of tests and bits, which the proofs of the crates above cite too.
pub mod Tests
pub mod Bits
pub mod Ones
pub mod Packed
pub mod Stores
mod Groups
mod Turned
