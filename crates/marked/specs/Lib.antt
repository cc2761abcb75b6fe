-- The marked rows of a block.
pub mod Picks
