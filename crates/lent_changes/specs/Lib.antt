-- What the contract of the recheck with its answer in a lent slice cites.
pub mod Answers
