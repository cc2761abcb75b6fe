-- Laws of the refusals of lengths.
pub mod Lengths
