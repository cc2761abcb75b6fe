-- What the contracts of the changes' words cite.
pub mod Change
