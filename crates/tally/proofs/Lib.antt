-- A walk over the entries of a tally.
pub mod Tallies
