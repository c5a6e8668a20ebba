-- Document 01 as definitions, in reading order: first its numbers, tests, records, the slots of a table, and the fresh
-- table. It goes on in the crates rules (soundness, answers, the calls) and sameness (the sheet of a namespace).
pub mod Limits
pub mod Tests
pub mod SignalSets
pub mod Traits
pub mod Records
pub mod Slots
pub mod Fresh
