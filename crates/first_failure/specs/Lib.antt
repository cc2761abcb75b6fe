-- What the contracts of the first failure cite.
pub mod Search
