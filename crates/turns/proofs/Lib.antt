-- What belongs to no one function: callers past the end, what the steps say, the claims proved, and edges, computed.
pub mod Callers
pub mod Laws
pub mod Turns
pub mod Hosts
pub mod Edges
