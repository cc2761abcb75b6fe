-- What the contracts of the steps of kind 6 cite, besides the rules.
pub mod Ports
