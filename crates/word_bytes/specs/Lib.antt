-- What the contracts of a word in bytes cite.
pub mod Bytes
