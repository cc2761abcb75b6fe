-- The entries of a cycle.
pub mod Steps
