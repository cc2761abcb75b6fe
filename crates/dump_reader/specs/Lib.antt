-- What the contracts of the reader cite.
pub mod Machine
pub mod Runs
