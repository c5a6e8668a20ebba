-- What the contracts of `tree` cite beside the definitions of `rules`.
pub mod Tree
