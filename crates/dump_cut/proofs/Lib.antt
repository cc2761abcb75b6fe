pub mod Lengths
pub mod SoFar
pub mod Worked
pub mod Cutting
