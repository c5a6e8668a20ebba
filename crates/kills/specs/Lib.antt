-- What the contracts of `kills` cite beside the definitions of `rules`.
pub mod Kills
