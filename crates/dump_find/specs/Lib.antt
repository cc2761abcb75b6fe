-- What the contracts of the search cite.
pub mod Find
