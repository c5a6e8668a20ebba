-- Laws of chains of tests and of loops, each kind once.
pub mod Chains
pub mod AllLoops
pub mod AnyLoops
pub mod FirstLoops
pub mod SeekLoops
pub mod IterLaws
pub mod FoldLoops
pub mod MapLoops
pub mod MarkLoops
pub mod EachRow
-- Slots read and put.
pub mod Slots
