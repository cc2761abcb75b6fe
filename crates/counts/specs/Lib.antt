-- What the contracts of the counts of marks cite.
pub mod Counts
pub mod Totals
