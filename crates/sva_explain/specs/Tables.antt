-- What is said of the tables of an endpoint: unfinished groups, request tags that are out, uses that run, PASIDs that aren't on.
use Rattle.std.specs.Prelude.{ℕ, ◌==◌, Bool, true, false, ◌&&◌, nat_le, if◌then◌else◌, Option, Some, None, List, [], ◌++◌, codes}
use Rattle.std.specs.Prelude.{flat_map}
use Rattle.std.specs.List.{list_any}
use Rattle.sva_step.specs.Limits
use Rattle.sva_step.specs.declared.steps.Step.TheVariants as step
use Rattle.sva_model.specs.State.{GroupState, PasidState}
use Rattle.sva_model.specs.State.PasidState.{Off, On, Ending}
use Rattle.sva_model.specs.Wire.{BindingWire, DeviceWire, EndpointWire, GroupWire, RequestWire, UseWire, Wire}
use Rattle.sva_labels.specs.Finding.{has_unfinished_group, is_use_of, outstanding, pasid_state}
use Rattle.sva_lines.specs.Pieces.{field, line_end, rows}
use Rattle.sva_lines.specs.Words.{stage_text}
use Rattle.sva_explain.specs.declared.blockers.levels.Level.{Level}
use Rattle.sva_explain.specs.declared.blockers.levels.Level.TheVariants.{First, Second}
use Rattle.sva_explain.specs.declared.blockers.link.Topic.TheVariants.{Start}
use Rattle.sva_explain.specs.Accepted.{is_accepted}
use Rattle.sva_explain.specs.Lines.{below, bracket, bracket_of_two, indent, start}
use Rattle.sva_explain.specs.Link.{about_lines}
use Rattle.sva_explain.specs.Requests.{out_lines}
use Rattle.sva_explain.specs.Units.{reset_if, use_text}
use Rattle.sva_explain.specs.Jobs.{on_its_way_lines}

-- ---- What only a reset helps

-- ` [reset 0]`
abbrev pub reset_text : Wire → (endpoint : ℕ) → List ℕ
reset_text wire endpoint = bracket (is_accepted wire (step.Reset endpoint)) (codes " [reset ") endpoint

-- a Response Failure has disabled the page requests of the endpoint (PCI Express Base 5.0, section 10.4.2)
abbrev pub disabled_if : Level → Wire → (endpoint : ℕ) → DeviceWire → List ℕ
disabled_if level wire endpoint device =
    if device.is_disabled
    then indent level ++ field (codes "page requests are disabled at endpoint ") endpoint ++ codes ": only a reset helps"
    ++ reset_text wire endpoint ++ line_end
    else []

-- is a response to the group still to come? It gives back what the group has of the 32.
abbrev pub is_answerable : GroupState → Bool
is_answerable GroupState.Collecting = false
is_answerable _ = true

abbrev pub is_due : Option GroupWire → Bool
is_due None = false
is_due (Some group) = is_answerable group.state

-- `group 0 awaits its response`
abbrev pub due_line : Level → (index : ℕ) → List ℕ
due_line level index = start level (codes "group ") index ++ codes " awaits its response" ++ line_end

abbrev pub due_lines : Level → Wire → (endpoint : ℕ) → EndpointWire → (index : ℕ) → List ℕ
due_lines level wire endpoint part index = due_line level index ++ on_its_way_lines (below level) wire endpoint part index

abbrev pub due_if : Level → Wire → (endpoint : ℕ) → EndpointWire → (index : ℕ) → Option GroupWire → List ℕ
due_if level wire endpoint part index group = if is_due group then due_lines level wire endpoint part index else []

abbrev pub all_unfinished_text : Wire → (endpoint : ℕ) → List ℕ
all_unfinished_text wire endpoint = codes ", all of unfinished groups: only a reset helps" ++ reset_text wire endpoint

-- where none is due, only a reset helps
abbrev pub credit_text : Wire → (endpoint : ℕ) → DeviceWire → List ℕ
credit_text wire endpoint device = if list_any is_due device.groups then [] else all_unfinished_text wire endpoint

abbrev pub credit_line : Level → Wire → (endpoint : ℕ) → DeviceWire → List ℕ
credit_line level wire endpoint device =
    start level (codes "32 page requests are outstanding at endpoint ") endpoint ++ credit_text wire endpoint device ++ line_end

-- each group whose response is due, and the reset by which what stood on its way to that was dropped
abbrev pub credit_lines : Level → Wire → (endpoint : ℕ) → EndpointWire → List ℕ
credit_lines level wire endpoint part =
    credit_line level wire endpoint part.device ++ rows (due_if (below level) wire endpoint part) 0 part.device.groups
    ++ reset_if (below level) wire endpoint part

-- no page request is left: 32 are outstanding (section 10.5.2)
abbrev pub credit_if : Level → Wire → (endpoint : ℕ) → EndpointWire → List ℕ
credit_if level wire endpoint part =
    if nat_le Limits.page_requests (outstanding part.device.groups) then credit_lines level wire endpoint part else []

-- ---- What keeps a PASID from being quit

-- ` [fault 0 1 0 r 3 last]`: the last request of a group, of whatever page, finishes it
abbrev pub last_text : Wire → (endpoint pasid index : ℕ) → List ℕ
last_text wire endpoint pasid index =
    if is_accepted wire (step.Fault endpoint pasid 0 true false (Some index) true)
    then field (codes " [fault ") endpoint ++ field (codes " ") pasid ++ field (codes " 0 r ") index ++ codes " last]"
    else []

-- `group 1 isn't finished [fault 0 1 0 r 1 last]`
abbrev pub unfinished_line : Level → Wire → (endpoint pasid index : ℕ) → List ℕ
unfinished_line level wire endpoint pasid index =
    indent level ++ field (codes "group ") index ++ codes " isn't finished" ++ last_text wire endpoint pasid index ++ line_end

abbrev pub unfinished_group_lines : Level → Wire → (endpoint : ℕ) → EndpointWire → (pasid index : ℕ) → List ℕ
unfinished_group_lines level wire endpoint part pasid index =
    unfinished_line level wire endpoint pasid index
    ++ disabled_if (below level) wire endpoint part.device ++ credit_if (below level) wire endpoint part

-- a group whose last request is still to come, and why that can't be sent
abbrev pub unfinished_if : Level → Wire → (endpoint : ℕ) → EndpointWire → (pasid index : ℕ) → Option GroupWire → List ℕ
unfinished_if level wire endpoint part pasid index group =
    if has_unfinished_group pasid group then unfinished_group_lines level wire endpoint part pasid index else []

abbrev pub unfinished_lines : Level → Wire → (endpoint : ℕ) → EndpointWire → (pasid : ℕ) → List ℕ
unfinished_lines level wire endpoint part pasid = rows (unfinished_if level wire endpoint part pasid) 0 part.device.groups

abbrev pub tag_if : Level → Wire → (endpoint : ℕ) → EndpointWire → (pasid tag : ℕ) → Option RequestWire → List ℕ
tag_if level wire endpoint part pasid tag None = []
tag_if level wire endpoint part pasid tag (Some request) =
    if request.pasid == pasid then out_lines level wire endpoint part tag request else []

abbrev pub tag_lines : Level → Wire → (endpoint : ℕ) → EndpointWire → (pasid : ℕ) → List ℕ
tag_lines level wire endpoint part pasid = rows (tag_if level wire endpoint part pasid) 0 part.device.tags

-- a use that runs
abbrev pub use_if : Level → Wire → (endpoint pasid slot : ℕ) → Option UseWire → List ℕ
use_if level wire endpoint pasid slot used =
    if is_use_of pasid used
    then indent level ++ field (codes "use ") slot ++ codes " runs" ++ use_text used
    ++ bracket_of_two (is_accepted wire (step.EndUse endpoint slot)) (codes " [end ") endpoint slot ++ line_end
    else []

abbrev pub use_lines : Level → Wire → (endpoint : ℕ) → EndpointWire → (pasid : ℕ) → List ℕ
use_lines level wire endpoint part pasid = rows (use_if level wire endpoint pasid) 0 part.device.slots

-- each group, tag and use that keeps the PASID busy (sva_labels/specs/Causes: `is_busy_pasid`)
abbrev pub busy_pasid_lines : Level → Wire → (endpoint : ℕ) → EndpointWire → (pasid : ℕ) → List ℕ
busy_pasid_lines level wire endpoint part pasid =
    unfinished_lines level wire endpoint part pasid ++ tag_lines level wire endpoint part pasid ++ use_lines level wire endpoint part pasid

-- ---- PASIDs that aren't on

abbrev pub bearer_line : Level → BindingWire → List ℕ
bearer_line level binding = indent level ++ field (codes "binding ") binding.binding ++ codes " is" ++ stage_text binding.stage ++ line_end

-- the binding that bears it there
abbrev pub bearer_if : (endpoint pasid : ℕ) → BindingWire → List ℕ
bearer_if endpoint pasid binding = if binding.endpoint == endpoint && binding.pasid == pasid then bearer_line Second binding else []

abbrev pub off_lines : Wire → (endpoint pasid : ℕ) → List ℕ
off_lines wire endpoint pasid =
    indent First ++ field (codes "pasid ") pasid ++ field (codes " is off at endpoint ") endpoint ++ line_end
    ++ about_lines Second wire endpoint (Start pasid) ++ flat_map (bearer_if endpoint pasid) wire.bindings

abbrev pub ending_line : Level → (endpoint pasid : ℕ) → List ℕ
ending_line level endpoint pasid =
    start level (codes "pasid ") pasid ++ field (codes " is stopping at endpoint ") endpoint ++ codes ": nothing new begins under it" ++ line_end

abbrev pub not_started_by : Wire → (endpoint pasid : ℕ) → PasidState → List ℕ
not_started_by wire endpoint pasid Off = off_lines wire endpoint pasid
not_started_by wire endpoint pasid Ending = ending_line First endpoint pasid
not_started_by wire endpoint pasid On = []

abbrev pub not_started_lines : Wire → (endpoint : ℕ) → EndpointWire → (pasid : ℕ) → List ℕ
not_started_lines wire endpoint part pasid = not_started_by wire endpoint pasid (pasid_state part.device pasid)
