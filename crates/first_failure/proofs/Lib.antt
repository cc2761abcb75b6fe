-- What is known of numbers and a length that are not refused.
pub mod Refusals
