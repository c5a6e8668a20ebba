-- What the contracts of `callers` cite beside the definitions of `rules`.
pub mod Making
