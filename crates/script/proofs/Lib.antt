-- What belongs to no one function.
pub mod Scans
pub mod Numbers
pub mod Arms
pub mod Calls
pub mod Parts
pub mod Steps
pub mod Decimals
pub mod Words
pub mod Arguments
pub mod CallTexts
pub mod LineTexts
pub mod Writes
pub mod Open
pub mod Examples
