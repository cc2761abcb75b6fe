-- What the claim on the limits says.
pub mod Limits
