-- What the contract of the configuration of numbers cites, and the contracts of the C host's calls.
pub mod Numbered
