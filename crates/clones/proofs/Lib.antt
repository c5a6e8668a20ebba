-- What is proved about clone, beside each function's own proof.
pub mod Clones
