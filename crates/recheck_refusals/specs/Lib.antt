-- What the contract of the refusal of a recheck cites.
pub mod Refusals
