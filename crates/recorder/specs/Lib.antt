-- What a run reads and writes.
pub mod Writing
pub mod Standing
pub mod Running
