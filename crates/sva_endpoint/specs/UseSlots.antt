-- The slots of uses of cached translations.
use Rattle.std.specs.Prelude.{ℕ, Bool, true, false, List, replicate, slice_index_or, ◌==◌}
use Rattle.sva_step.specs.Limits
use Rattle.sva_endpoint.specs.declared.coverage.Invalidation.{Invalidation}
use Rattle.sva_endpoint.specs.declared.use_slots.UseSlot.{UseSlot}
use Rattle.sva_endpoint.specs.declared.use_slots.UseSlot.TheVariants.{Free, Running, Dead}
use Rattle.sva_endpoint.specs.Coverage.{covers}

-- no use has a slot: there are 16 of them (a limit of this project)
abbrev pub no_uses : List UseSlot
no_uses = replicate Limits.use_slots Free

-- a slot from 16 on is never taken
abbrev pub slot_at : List UseSlot → ℕ → UseSlot
slot_at slots slot = slice_index_or slots slot Free

-- may a use begin in the slot? A dead one has its slot still
abbrev pub is_free : UseSlot → Bool
is_free Free = true
is_free (Running use_of) = false
is_free Dead = false

-- does a use of this PASID run in the slot?
abbrev pub runs_under : ℕ → UseSlot → Bool
runs_under pasid Free = false
runs_under pasid (Running use_of) = use_of.pasid == pasid
runs_under pasid Dead = false

-- does a use run in the slot that the invalidation covers?
abbrev pub runs_covered : Invalidation → UseSlot → Bool
runs_covered invalidation Free = false
runs_covered invalidation (Running use_of) = covers invalidation use_of.pasid use_of.page
runs_covered invalidation Dead = false

-- a reset ends a running use (this project's own rule): it names no frame from then on, and its slot stays taken
abbrev pub cut_off : UseSlot → UseSlot
cut_off Free = Free
cut_off (Running use_of) = Dead
cut_off Dead = Dead
