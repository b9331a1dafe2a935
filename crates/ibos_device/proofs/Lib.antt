pub mod CardLemmas
