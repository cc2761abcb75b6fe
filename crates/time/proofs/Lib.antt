pub mod TimeCode
