-- What the contract of the recheck cites.
pub mod Rechecks
pub mod Answers
