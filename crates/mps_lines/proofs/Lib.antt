pub mod Amounts
pub mod Ends
pub mod Judging
pub mod Places
pub mod ValueLemmas
pub mod Vast
