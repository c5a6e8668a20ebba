-- What is proved about verdicts, beside each function's own proof.
pub mod Verdicts
