-- One call on the table that a host holds, and what is claimed of it.
pub mod Turns
pub mod Claims
