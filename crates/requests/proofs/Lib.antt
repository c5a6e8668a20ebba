-- What belongs to no one function: signed numbers on their way, and edges, computed.
pub mod Laws
pub mod Edges
