-- Lines of the waves, as the code makes them.
pub mod Lines
