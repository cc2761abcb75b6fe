-- What the claims about the values in a store cite.
pub mod Valued
