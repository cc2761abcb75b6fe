-- What is kept of a whole word.
pub mod Gathered
