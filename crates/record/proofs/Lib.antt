-- The answers of a full check, and what its run leaves.
pub mod Answers
pub mod Checked
