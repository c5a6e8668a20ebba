-- The lines of an input, however it is cut into chunks.
pub mod Splitting
pub mod Carried
pub mod Runs
