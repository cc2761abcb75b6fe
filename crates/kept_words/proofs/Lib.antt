-- Laws of a search for an impossible word.
pub mod Scans
