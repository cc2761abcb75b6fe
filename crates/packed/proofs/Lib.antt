pub mod Counts
pub mod Searches
