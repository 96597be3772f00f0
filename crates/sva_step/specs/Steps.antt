-- Which steps need a token in hand.
use Rattle.std.specs.Prelude.{Bool, true, false}
use Rattle.sva_step.specs.declared.steps.Step.{Step}
use Rattle.sva_step.specs.declared.steps.Step.TheVariants.{Space, DropSpace, Map, Unmap, UnmapRange, Bind, Unbind, Advance, Pump, Serve, Reset, Take}
use Rattle.sva_step.specs.declared.steps.Step.TheVariants.{Reply, Ask, BeginUse, EndUse, Evict, Fault, Finish, Quit, Deliver, Look, Bearer}

-- a step that neither makes, moves nor spends a token: a binding that is held, a binding that is taken back, a use
abbrev pub is_plain : Step → Bool
is_plain (Bind endpoint space) = false
is_plain (Unbind binding) = false
is_plain (Advance binding) = false
is_plain (BeginUse endpoint pasid page write) = false
is_plain (EndUse endpoint slot) = false
is_plain Space = true
is_plain (DropSpace space) = true
is_plain (Map space page write) = true
is_plain (Unmap space page count) = true
is_plain (UnmapRange space page order) = true
is_plain (Pump endpoint) = true
is_plain (Serve endpoint) = true
is_plain (Reset endpoint) = true
is_plain (Take worker) = true
is_plain (Reply worker verdict) = true
is_plain (Ask endpoint pasid page) = true
is_plain (Evict endpoint pasid page) = true
is_plain (Fault endpoint pasid page read write group last) = true
is_plain (Finish endpoint vector count) = true
is_plain (Quit endpoint pasid) = true
is_plain (Deliver message) = true
is_plain (Look frame) = true
is_plain (Bearer pasid) = true
