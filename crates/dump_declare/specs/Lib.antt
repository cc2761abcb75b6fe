-- What the contracts of the declarations' words cite.
pub mod Declare
