pub mod Offers
pub mod Laws
pub mod Lemmas
