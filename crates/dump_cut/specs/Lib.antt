-- What the claims on cutting say.
pub mod SoFar
pub mod Cutting
