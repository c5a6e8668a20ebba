-- "The sheet of a namespace" of document 01 as definitions, in reading order, and promise 3.
pub mod Sheet
pub mod Events
pub mod Touches
pub mod Claims
