-- Each call leaves a sound table sound, and what else a call leaves or changes.

-- each change, on what is read of a table and as a table
pub mod Changed
pub mod Freed
pub mod MemberEnds
pub mod InitEnds
pub mod End
pub mod Birth
pub mod NewNamespace
pub mod Lights
pub mod Reap
pub mod Puts
-- each call as a run of changes
pub mod Deliver
pub mod Premises
pub mod Changes
-- what follows for each call
pub mod Refusals
pub mod Lines
pub mod Fixed
pub mod Numbers
pub mod Fresh
pub mod Child
pub mod Clones
pub mod Finds
pub mod Exact
pub mod MemberExact
pub mod Spared
pub mod Own
pub mod Waited
-- what a kill makes of each process
pub mod Trace
pub mod PutTrace
pub mod MemberTrace
pub mod InitTrace
pub mod Deliveries
pub mod Killed
