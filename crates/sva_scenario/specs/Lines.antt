-- Which lines of a scenario are whose.
use Rattle.std.specs.Prelude.{◌≡◌, ℕ, zero, suc, ◌==◌, Bool, true, false, List, [], ◌∷◌, ◌++◌, filter}
use Rattle.sva_step.specs.declared.steps.Step.{Step}
use Rattle.sva_step.specs.declared.steps.Step.TheVariants.{Space, DropSpace, Map, Unmap, UnmapRange, Bind, Unbind, Advance, Pump, Serve, Reset, Take}
use Rattle.sva_step.specs.declared.steps.Step.TheVariants.{Reply, Ask, BeginUse, EndUse, Evict, Fault, Finish, Quit, Deliver, Look, Bearer}
use Rattle.sva_scenario.specs.declared.lines.Owner.{Owner}
use Rattle.sva_scenario.specs.declared.lines.Owner.TheVariants.{Host, Endpoint, Other}

-- the host plays what spaces, bindings and resets are about; an endpoint its own lines; the others are skipped
abbrev pub owner_of_step : Step → Owner
owner_of_step Space = Host
owner_of_step (DropSpace space) = Host
owner_of_step (Map space page write) = Host
owner_of_step (Unmap space page count) = Host
owner_of_step (UnmapRange space page order) = Host
owner_of_step (Bind endpoint space) = Host
owner_of_step (Unbind binding) = Host
owner_of_step (Advance binding) = Host
owner_of_step (Reset endpoint) = Host
owner_of_step (Look frame) = Host
owner_of_step (Bearer pasid) = Host
owner_of_step (Ask endpoint pasid page) = Endpoint endpoint
owner_of_step (BeginUse endpoint pasid page write) = Endpoint endpoint
owner_of_step (EndUse endpoint slot) = Endpoint endpoint
owner_of_step (Evict endpoint pasid page) = Endpoint endpoint
owner_of_step (Fault endpoint pasid page read write group last) = Endpoint endpoint
owner_of_step (Finish endpoint vector count) = Endpoint endpoint
owner_of_step (Quit endpoint pasid) = Endpoint endpoint
owner_of_step (Pump endpoint) = Other
owner_of_step (Serve endpoint) = Other
owner_of_step (Take worker) = Other
owner_of_step (Reply worker verdict) = Other
owner_of_step (Deliver message) = Other

-- are these the same owner?
abbrev pub is_owner : Owner → Owner → Bool
is_owner Host Host = true
is_owner (Endpoint one) (Endpoint two) = one == two
is_owner Other Other = true
is_owner _ _ = false

-- the lines of one owner, in their order
abbrev pub lines_of_owner : Owner → List Step → List Step
lines_of_owner whose steps = filter (λ step. is_owner (owner_of_step step) whose) steps

-- the lines of each of so many endpoints, by their numbers
unfoldable pub lines_of_endpoints : List Step → (count : ℕ) → List (List Step)
lines_of_endpoints steps zero = []
lines_of_endpoints steps (suc count) = lines_of_endpoints steps count ++ lines_of_owner (Endpoint count) steps ∷ []
