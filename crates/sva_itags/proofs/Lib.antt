pub mod VectorLemmas
pub mod Completions
pub mod FreeTags
pub mod Exact
pub mod Always
pub mod CallerLemmas
