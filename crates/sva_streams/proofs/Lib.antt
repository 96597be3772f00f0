pub mod StreamLemmas
pub mod EndLemmas
