pub mod Laws
pub mod Cores
pub mod Places
pub mod Start
pub mod Between
pub mod Bytes
pub mod Meets
