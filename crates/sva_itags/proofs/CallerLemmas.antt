-- Lemmas for the proofs of callers.
pub use Rattle.sva_itags.proofs.VectorLemmas.{vector_of_lt, is_named-vector_of}
pub use Rattle.sva_itags.proofs.Completions.{length-completed, completed-tags}
pub use Rattle.sva_itags.proofs.FreeTags.{none_free, some_free}
pub use Rattle.sva_itags.proofs.Exact.{completed-get, freed_exactly, busy_exactly}
pub use Rattle.sva_itags.proofs.Always.{after-tags, lowest-free, with_fresh-busy, taken-get}
