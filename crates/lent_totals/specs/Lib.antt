-- What the contract of the totals in a lent slice cites.
pub mod Answers
