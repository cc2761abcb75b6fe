-- Why the run of a recheck does what its contract says.
pub mod Going
