-- Laws of bits that show an open word to be impossible.
pub mod Misfits
