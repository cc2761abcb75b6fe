-- What the contract of the failure list cites.
pub mod Answers
