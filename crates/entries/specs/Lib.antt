-- Entries of the failure list, as the code writes them.
pub mod Entries
