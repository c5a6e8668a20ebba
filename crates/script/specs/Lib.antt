-- Document 01, "The script, and one run whole", as definitions, in reading order.
pub mod Sizes
pub mod Texts
pub mod Lines
pub mod Reading
pub mod Claims
pub mod Outputs
