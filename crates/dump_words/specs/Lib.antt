-- What the contracts of the word's parts cite.
pub mod Gather
