-- What the contracts of `numbers` cite beside the definitions of `rules`.
pub mod Climbs
pub mod Holders
pub mod Marks
