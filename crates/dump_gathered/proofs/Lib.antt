pub mod Folds
pub mod Numbers
pub mod Codes
pub mod Texts
pub mod Scans
