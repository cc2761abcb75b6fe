-- What the contracts of the steps of kind 8 cite, besides the rules.
pub mod Tracked
