-- Laws of signed changes.
pub mod Signed
