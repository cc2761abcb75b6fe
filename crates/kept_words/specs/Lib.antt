-- What the contract of the lowest impossible word cites.
pub mod Spoiled
