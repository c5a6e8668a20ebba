-- Laws that belong to no one function.
pub mod Climbs
pub mod Marks
pub mod Sights
