-- What the contracts of the load cite.
pub mod Loading
