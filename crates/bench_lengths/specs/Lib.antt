-- What the contract for the lengths cites.
pub mod Lengths
