pub mod Rechecks
