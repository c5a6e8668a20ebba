-- Loops that fill an array, what the reader says of the definitions, the two ways round, and bytes computed.
pub mod Fills
pub mod Rows
pub mod RoundTrip
pub mod Edges
