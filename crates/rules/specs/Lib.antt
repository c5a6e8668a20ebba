-- Document 01 as definitions, in reading order: when a table is sound, the calls and their answers, and the promises
-- about them. It begins in the crate table (numbers, slots, the fresh table). What a request of document 02 has changed
-- is marked with the request's number.
pub mod Read
pub mod Sound
pub mod Pids
pub mod Ends
pub mod Freeing
pub mod Delivery
pub mod Births
pub mod Answers
pub mod Calls
pub mod Step
pub mod Refusals
pub mod Claims
