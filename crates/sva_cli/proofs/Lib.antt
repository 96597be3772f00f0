mod CutLemmas
mod InputLemmas
mod ReadLemmas
