-- What the contracts of an edit's samples cite.
pub mod Samples
