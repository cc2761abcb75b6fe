-- The answers of the calls.
pub mod Answers
