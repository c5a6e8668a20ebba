-- What is proved about unshare and setns, beside each function's own proof.
pub mod Children
