-- Laws that belong to no one function.
pub mod Members
pub mod Marks
pub mod Falling
pub mod Fallen
pub mod Freeing
