mod SayLemmas
mod RunLemmas
mod NameLemmas
