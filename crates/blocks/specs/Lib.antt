-- What the contracts on blocks of cycles cite.
pub mod Blocks
