-- What belongs to no one function.
pub mod Writing
pub mod Seeking
pub mod Calling
pub mod Using
pub mod Whole
