pub mod NetStanding
pub mod SendsStanding
