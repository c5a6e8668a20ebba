-- A session's steps, by what a script gives.
pub mod Places
pub mod Sessions
pub mod Whole
