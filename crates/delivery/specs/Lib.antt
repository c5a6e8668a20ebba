-- What the contracts of `delivery` cite beside the definitions of `rules`.
pub mod Actions
pub mod Delivery
pub mod Targets
