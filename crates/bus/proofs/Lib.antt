-- Laws of ranges, which the proofs of the crates above cite too.
pub mod Ranges
pub mod Wires
pub mod Known
