-- Laws that belong to no one function.
pub mod Walk
-- For those who call it.
pub mod Given
