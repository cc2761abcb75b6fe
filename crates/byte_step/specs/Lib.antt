-- What the contract of one step on bytes cites.
pub mod Step
