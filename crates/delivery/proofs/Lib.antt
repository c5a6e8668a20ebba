-- Laws that belong to no one function.
pub mod Actions
pub mod Slots
pub mod Inserts
pub mod Orders
pub mod Gathers
pub mod Delivers
pub mod Kills
