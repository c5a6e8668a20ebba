-- Laws that belong to no one function.
pub mod ByMarks
pub mod Choice
pub mod Columns
pub mod Found
pub mod Knowing
pub mod Marking
pub mod Places
pub mod Tried
pub mod Window
