-- What the contracts for one checker of a table cite.
pub mod One
