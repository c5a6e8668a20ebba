-- What belongs to no one function.
pub mod Writing
pub mod Standing
pub mod Going
pub mod Ending
