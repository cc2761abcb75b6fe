-- What the contract of the refusal of lengths cites.
pub mod Lengths
