-- What the entry leaves of a table that is lent to it.
pub mod Applied
