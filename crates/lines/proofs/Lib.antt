-- What belongs to no one function.
pub mod Cuts
pub mod Carrying
pub mod TenLines
pub mod Running
