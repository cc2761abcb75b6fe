-- What the contracts of the steps of kinds 0 to 2 cite, besides the rules.
pub mod Events
