-- The entries of a lent trace.
pub mod Listed
pub mod Visits
