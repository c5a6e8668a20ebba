pub mod Places
pub mod Masks
pub mod Marks
pub mod Reaches
pub mod Records
pub mod Keys
pub mod Same
