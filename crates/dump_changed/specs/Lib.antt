-- What the numbers, the store and the frames of the changes say.
pub mod Changed
