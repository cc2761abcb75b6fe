-- What the contract of the caller cites.
pub mod Edits
pub mod Back
