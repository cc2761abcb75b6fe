-- Laws of things one behind the other, and the worked waves.
pub mod Each
pub mod Worked
