pub mod Quick
pub mod Records
