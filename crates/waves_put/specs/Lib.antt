-- Bytes that are written.
pub mod Put
