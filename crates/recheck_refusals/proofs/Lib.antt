-- Laws of the refusal of a recheck.
pub mod Refusals
