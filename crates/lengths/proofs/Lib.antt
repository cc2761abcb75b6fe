-- The refusals of lengths, and what a check that is not refused may go by.
pub mod Refusals
