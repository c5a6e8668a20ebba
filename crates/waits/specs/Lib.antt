-- What the contracts of `waits` cite beside the definitions of `rules`.
pub mod Exits
