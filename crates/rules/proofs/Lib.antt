-- What is proved about the definitions: by computation, and as theorems.
pub mod Open
pub mod Tables
pub mod Edges
pub mod Levels
pub mod Refused
-- The theorems: laws, what each call keeps, and the promises one by one.
pub mod Laws
pub mod Keeps
pub mod EdgesHold
pub mod Promises
