-- What the contracts of `ending` cite beside the definitions of `rules`.
pub mod Ending
pub mod Holding
