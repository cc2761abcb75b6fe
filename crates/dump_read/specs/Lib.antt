-- What the claims about the reader cite.
pub mod Gathers
pub mod Declaring
