-- What the refusal number of a configuration and a word says of them.
pub mod Refusals
