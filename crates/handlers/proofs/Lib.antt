-- What is proved about handle and poll, beside each function's own proof.
pub mod Signals
