-- What is proved about exit and wait, beside each function's own proof.
pub mod Waits
