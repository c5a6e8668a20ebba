-- What is proved about one call, beside each function's own proof.
pub mod Steps
