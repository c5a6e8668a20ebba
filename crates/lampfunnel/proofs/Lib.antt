-- What belongs to no one function.
pub mod Counting
pub mod Running
pub mod Offsets
pub mod Edges
