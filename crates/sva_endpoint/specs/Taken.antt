-- The invalidations that an endpoint has taken and not yet completed (PCI Express Base 5.0, section 10.3).
use Rattle.std.specs.Prelude.{ℕ, Bool, false, List, map, replicate, slice_set, Option, Some, None, is_some, ◌&&◌, ◌||◌, not, if◌then◌else◌}
use Rattle.std.specs.List.{list_any, list_all, enumerate_from}
use Rattle.sva_step.specs.Limits
use Rattle.sva_endpoint.specs.declared.taken_table.Taken.{Taken}
use Rattle.sva_itags.specs.Vector.{is_named}

-- the place T of the list is that of ITag T
abbrev pub none_taken : List (Option Taken)
none_taken = replicate Limits.itags None

-- each ITag that is named has an invalidation
abbrev pub are_pending : ℕ → List (Option Taken) → Bool
are_pending vector taken = list_all (λ place. not (is_named vector place.0) || is_some place.1) (enumerate_from 0 taken)

-- does the invalidation wait for a use that it noted? (this project's own rule, for reads and writes alike)
abbrev pub waits : Option Taken → Bool
waits None = false
waits (Some invalidation) = list_any (λ noted. noted) invalidation.noted

-- does one of those that are named wait?
abbrev pub is_one_waiting : ℕ → List (Option Taken) → Bool
is_one_waiting vector taken = list_any (λ place. is_named vector place.0 && waits place.1) (enumerate_from 0 taken)

-- without those that are named
abbrev pub without_named : ℕ → List (Option Taken) → List (Option Taken)
without_named vector taken = map (λ place. if is_named vector place.0 then None else place.1) (enumerate_from 0 taken)

-- a use that has ended is noted no more
abbrev pub without_note : ℕ → Option Taken → Option Taken
without_note slot None = None
without_note slot (Some invalidation) = Some (record invalidation { noted = slice_set invalidation.noted slot false })
