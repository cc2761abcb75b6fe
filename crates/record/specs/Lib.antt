-- What the contract of the full check cites.
pub mod Records
