-- A run of a fatal checker, of what the loops leave.
pub mod Failed
