-- What is proved about kill, beside each function's own proof.
pub mod Kills
