-- What is proved about sets of signals and the table of defaults, beside each function's own proof.
pub mod Sets
pub mod Defaults
