-- What the contracts of `outcomes` cite beside the definitions of `rules`.
pub mod Verdicts
