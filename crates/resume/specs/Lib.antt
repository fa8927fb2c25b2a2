pub mod Models
pub mod Events
pub mod Journals
pub mod Refusals
pub mod Crashes
pub mod Surveys
pub mod Laws
pub mod Lemmas
