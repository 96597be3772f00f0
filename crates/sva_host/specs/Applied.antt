-- Any step, by its kind: which ask the table of jobs, and which never want memory.
use Rattle.std.specs.Prelude.{◌≡◌, false, Ok, Option, Some, None, []}
use Rattle.sva_step.specs.declared.answers.Answer.TheVariants as answer
use Rattle.sva_step.specs.declared.steps.Step.{Step}
use Rattle.sva_step.specs.declared.steps.Step.TheVariants as step
use Rattle.sva_model.specs.Wire.{Wire, BindingWire}
use Rattle.sva_model.specs.Wire.StageWire.{LostWire}
use Rattle.sva_labels.specs.Causes.{sends_invalidate}
use Rattle.sva_labels.specs.Finding.{binding_of, flight_of, part_of, unit_of}
use Rattle.sva_labels.specs.Host.{reply_of}
use Rattle.sva_host_state.specs.Arriving.{answers}

-- a step that asks neither groups nor jobs nor hands
abbrev pub AsksNoJobTable : Step → Type 0
AsksNoJobTable (step.Advance binding) = ⊥
AsksNoJobTable (step.Serve endpoint) = ⊥
AsksNoJobTable (step.Reset endpoint) = ⊥
AsksNoJobTable (step.Take worker) = ⊥
AsksNoJobTable (step.Reply worker verdict) = ⊥
AsksNoJobTable _ = Unit {0}

-- an endpoint asks for a page, by a translation request or a page request, or begins to use one
abbrev pub IsForPages : Step → Type 0
IsForPages (step.Ask endpoint pasid page) = Unit {0}
IsForPages (step.BeginUse endpoint pasid page write) = Unit {0}
IsForPages (step.Fault endpoint pasid page read write group last) = Unit {0}
IsForPages _ = ⊥

-- a binding that a reset cut off
abbrev pub IsCutOff : Option BindingWire → Type 0
IsCutOff None = ⊥
IsCutOff (Some binding) = binding.stage ≡ LostWire

-- the steps whose room was made before, by what is kept then: they never want memory
abbrev pub TakesNoMemory : Wire → Step → Type 0
TakesNoMemory world (step.DropSpace space) = Unit {0}
TakesNoMemory world (step.Unmap space page count) = Unit {0}
TakesNoMemory world (step.UnmapRange space page order) = Unit {0}
TakesNoMemory world (step.Unbind binding) = IsCutOff (binding_of world binding)
TakesNoMemory world (step.Advance binding) = Unit {0}
TakesNoMemory world (step.Pump endpoint) = sends_invalidate (unit_of world endpoint) ≡ false
TakesNoMemory world (step.Serve endpoint) = (part_of world endpoint).page_queue ≡ []
TakesNoMemory world (step.Take worker) = Unit {0}
TakesNoMemory world (step.Reply worker verdict) = reply_of world (step.Reply worker verdict) ≡ Ok answer.Dropped
TakesNoMemory world (step.BeginUse endpoint pasid page write) = Unit {0}
TakesNoMemory world (step.EndUse endpoint slot) = Unit {0}
TakesNoMemory world (step.Evict endpoint pasid page) = Unit {0}
TakesNoMemory world (step.Deliver message) = answers world (flight_of world message) ≡ false
TakesNoMemory world (step.Look frame) = Unit {0}
TakesNoMemory world (step.Bearer pasid) = Unit {0}
TakesNoMemory world _ = ⊥
