mod FoundLemmas
mod Places
mod PortPlaces
