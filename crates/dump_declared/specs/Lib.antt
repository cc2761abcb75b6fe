-- What the declarations' numbers and store say.
pub mod Declared
