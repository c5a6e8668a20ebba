-- Laws of tests, lists and sets; a sound table as a record of facts, and what follows from it.

-- tests, lists, sets of signals, chains
pub mod Tests
pub mod Lists
pub mod Signals
pub mod Traits
pub mod Reach
-- a record that code has read
pub mod ReadAt
-- "below", the sentences of soundness, the facts
pub mod Tree
pub mod Clauses
pub mod Holds
pub mod Facts
pub mod Below
pub mod Slots
pub mod Follows
-- while a process holds one namespace beside its own
pub mod OneHold
pub mod Plain
-- whom a number names; a call by a running caller
pub mod Find
pub mod Steps
-- a call as its refusals and what it gives; what is shown of its answer
pub mod Judged
pub mod Shown
