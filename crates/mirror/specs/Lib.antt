-- The table as a host holds it: written, read, and what is claimed of the two.
pub mod Mirror
pub mod Claims
