-- What the contracts of `births` cite beside the definitions of `rules`.
pub mod Births
