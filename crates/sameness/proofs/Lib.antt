-- Promise 3, from the statement down: the two lists, each call, what changes, what corresponds.

-- tables, lists and sheets by computation
pub mod Open
pub mod Actual
-- one induction over the two lists of calls
pub mod Promise3
-- the end of S: its processes are refused, and it stays while nobody touches it
pub mod Stays
-- what is to prove of a call by two callers with the same number in S, and by an outsider; and of each
pub mod Calls
pub mod Setns
pub mod Wait
pub mod ExitSame
pub mod Kill
pub mod KillLeaves
pub mod Clone
-- what ends, births and fresh namespaces do to the sheet of S
pub mod EndSame
pub mod EndLeaves
pub mod Ends
pub mod BirthSame
pub mod Born
pub mod NewNamespace
-- changes that leave what a sheet rests on
pub mod Freeing
pub mod Still
pub mod Light
pub mod Remain
-- what corresponds on two tables that are the same to S
pub mod Readers
pub mod Twins
pub mod Anchor
pub mod Same
pub mod Names
pub mod Cases
-- where promise 3 applies
pub mod Applies
