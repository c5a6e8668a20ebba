-- What is proved about callers, beside each function's own proof.
pub mod Callers
pub mod Fits
pub mod Naming
