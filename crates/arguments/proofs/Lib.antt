-- What is proved about arguments, beside each function's own proof.
pub mod Numbers
pub mod Named
