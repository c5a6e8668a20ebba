-- What a host is told of a script that it hands in whole, and of the table that it holds.
pub mod Run
pub mod Held
