-- What the runs of a stretch ask for.
pub mod Asks
