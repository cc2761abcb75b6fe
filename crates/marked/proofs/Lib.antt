-- Laws of the marked rows of a block.
pub mod Places
