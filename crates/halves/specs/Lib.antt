-- What the contracts of the marks of two stretches of rows cite.
pub mod Rows
