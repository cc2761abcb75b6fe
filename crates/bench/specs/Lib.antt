-- What the contracts of the calls cite, besides the rules.
pub mod Bench
