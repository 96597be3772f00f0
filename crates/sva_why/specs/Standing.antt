-- A line stands wherever its cause holds: each of the things that make one of the ten causes hold has its line, by the test that the cause asks.
use Rattle.std.specs.Prelude.{◌≡◌, ℕ, ◌+◌, ◌<◌, ◌==◌, ◌&&◌, nat_le, Bool, true, false, Option, Some, None, List, ◌++◌, codes, slice_get}
use Rattle.sva_step.specs.Limits
use Rattle.sva_step.specs.declared.steps.Step.TheVariants as step
use Rattle.sva_step.specs.declared.steps.Verdict.{Verdict}
use Rattle.sva_model.specs.Labels.{is_set, names_none}
use Rattle.sva_model.specs.State.PasidState.{Off, Ending}
use Rattle.sva_model.specs.Wire.{AskWire, BindingWire, EndpointWire, FlightWire, GroupWire, HostGroupWire, JobWire, RequestWire, TakenWire, UseWire, Wire}
use Rattle.sva_model.specs.Wire.StageWire.{DrainingWire, InvalidatingWire, LiveWire, LostWire, StoppingWire}
use Rattle.sva_labels.specs.Finding.{binding_of, flight_of, has_room, has_unfinished_group, held_by, holds_back, is_mapped, is_request_of, is_use_of}
use Rattle.sva_labels.specs.Finding.{is_wait_done, page_at, pages_in, pasid_state, submits}
use Rattle.sva_labels.specs.Replying.{is_read_only_at, pages_of_job}
use Rattle.sva_lines.specs.Pieces.{field, line_end}
use Rattle.sva_explain.specs.Requests.{invalid_text, out_line}
use Rattle.sva_explain.specs.declared.blockers.levels.Level.TheVariants.{First}
use Rattle.sva_explain.specs.Lines.{indent}
use Rattle.sva_explain.specs.Link.{message_line}
use Rattle.sva_explain.specs.Tables.{ending_line, unfinished_line}
use Rattle.sva_explain.specs.Units.{full_line, wait_line, waits_line}
use Rattle.sva_why.specs.Bindings.{binding_line, descriptors_of, marker_line}
use Rattle.sva_why.specs.Causes.{bad_verdict, busy, in_use, not_mapped, not_pending, not_started, not_yet}
use Rattle.sva_why.specs.Causes.{overtakes, queue_full, still_bound}
use Rattle.sva_why.specs.Vectors.{none_named_line, not_pending_line}

-- a text has a part
pub record Has (whole part : List ℕ) : Type 0 where
  pub before : List ℕ
  pub after : List ℕ
  pub is : whole ≡ before ++ (part ++ after)

-- `group 0 of binding 0 isn't answered`
abbrev pub open_line : HostGroupWire → List ℕ
open_line group =
    indent First ++ field (codes "group ") group.index ++ field (codes " of binding ") group.binding ++ codes " isn't answered" ++ line_end

-- `page 16 is mapped read-only, and a request asks to write it [answer 0 invalid]`
abbrev pub read_only_line : Wire → (worker : ℕ) → AskWire → List ℕ
read_only_line wire worker ask =
    indent First ++ field (codes "page ") ask.page ++ codes " is mapped read-only, and a request asks to write it" ++ invalid_text wire worker ++ line_end

-- `page 16 isn't mapped`
abbrev pub unmapped_line : (page : ℕ) → List ℕ
unmapped_line page = indent First ++ field (codes "page ") page ++ codes " isn't mapped" ++ line_end

-- `pasid 1 is off at endpoint 0`
abbrev pub off_line : (endpoint pasid : ℕ) → List ℕ
off_line endpoint pasid = indent First ++ field (codes "pasid ") pasid ++ field (codes " is off at endpoint ") endpoint ++ line_end

-- each thing that makes the cause hold has its line, where the part of its endpoint is there
pub record LinesStand : Type 0 where
  -- Busy
  pub group_stands : (wire : Wire) (endpoint pasid index : ℕ) (part : EndpointWire) (group : Option GroupWire)
      → slice_get wire.parts endpoint ≡ Some part → slice_get part.device.groups index ≡ Some group → has_unfinished_group pasid group ≡ true
      → Has (busy wire (step.Quit endpoint pasid)) (unfinished_line First wire endpoint pasid index)
  pub tag_stands : (wire : Wire) (endpoint pasid tag : ℕ) (part : EndpointWire) (request : RequestWire)
      → slice_get wire.parts endpoint ≡ Some part → slice_get part.device.tags tag ≡ Some (Some request) → is_request_of pasid (Some request) ≡ true
      → Has (busy wire (step.Quit endpoint pasid)) (out_line First tag request)
  pub use_stands : (wire : Wire) (endpoint pasid slot : ℕ) (part : EndpointWire) (used : Option UseWire)
      → slice_get wire.parts endpoint ≡ Some part → slice_get part.device.slots slot ≡ Some used → is_use_of pasid used ≡ true
      → Has (busy wire (step.Quit endpoint pasid)) (indent First ++ field (codes "use ") slot ++ codes " runs")
  -- Overtakes
  pub older_stands : (wire : Wire) (number place : ℕ) (flight older : FlightWire)
      → flight_of wire number ≡ Some flight → slice_get wire.in_flight place ≡ Some older → holds_back flight older ≡ true
      → Has (overtakes wire (step.Deliver number)) (message_line First (codes " is older:") wire older)
  -- InUse and NotPending
  pub wait_of_itag_stands : (wire : Wire) (endpoint vector count itag slot : ℕ) (part : EndpointWire) (taken : TakenWire)
      → slice_get wire.parts endpoint ≡ Some part → slice_get part.device.taken itag ≡ Some (Some taken) → is_set vector itag ≡ true
      → slice_get taken.slots slot ≡ Some true
      → Has (in_use wire (step.Finish endpoint vector count)) (waits_line First wire endpoint part itag slot)
  pub itag_stands : (wire : Wire) (endpoint vector count itag : ℕ) (part : EndpointWire)
      → slice_get wire.parts endpoint ≡ Some part → names_none vector ≡ false → slice_get part.device.taken itag ≡ Some None → is_set vector itag ≡ true
      → Has (not_pending wire (step.Finish endpoint vector count)) (not_pending_line First itag)
  pub none_stands : (wire : Wire) (endpoint vector count : ℕ) (part : EndpointWire)
      → slice_get wire.parts endpoint ≡ Some part → names_none vector ≡ true
      → Has (not_pending wire (step.Finish endpoint vector count)) (none_named_line First)
  -- StillBound
  pub binding_stands : (wire : Wire) (space place : ℕ) (binding : BindingWire)
      → slice_get wire.bindings place ≡ Some binding → (binding.space == space) ≡ true
      → Has (still_bound wire (step.DropSpace space)) (binding_line First wire binding)
  -- NotYet, by the stage
  pub live_stands : (wire : Wire) (number : ℕ) (binding : BindingWire) (part : EndpointWire)
      → binding_of wire number ≡ Some binding → binding.stage ≡ LiveWire → slice_get wire.parts binding.endpoint ≡ Some part
      → Has (not_yet wire (step.Advance number)) (binding_line First wire binding)
  pub lost_stands : (wire : Wire) (number : ℕ) (binding : BindingWire) (part : EndpointWire)
      → binding_of wire number ≡ Some binding → binding.stage ≡ LostWire → slice_get wire.parts binding.endpoint ≡ Some part
      → Has (not_yet wire (step.Advance number)) (binding_line First wire binding)
  pub marker_stands : (wire : Wire) (number : ℕ) (binding : BindingWire) (part : EndpointWire)
      → binding_of wire number ≡ Some binding → binding.stage ≡ StoppingWire false → slice_get wire.parts binding.endpoint ≡ Some part
      → Has (not_yet wire (step.Advance number)) (marker_line First wire binding.endpoint binding.pasid)
  pub drain_stands : (wire : Wire) (number cookie : ℕ) (binding : BindingWire) (part : EndpointWire)
      → binding_of wire number ≡ Some binding → binding.stage ≡ DrainingWire cookie → slice_get wire.parts binding.endpoint ≡ Some part
      → is_wait_done part.unit cookie ≡ false → Has (not_yet wire (step.Advance number)) (wait_line First wire binding.endpoint part cookie)
  pub open_stands : (wire : Wire) (number cookie place : ℕ) (binding : BindingWire) (part : EndpointWire) (group : HostGroupWire)
      → binding_of wire number ≡ Some binding → binding.stage ≡ DrainingWire cookie → slice_get wire.parts binding.endpoint ≡ Some part
      → slice_get part.host_groups place ≡ Some group → (group.binding == binding.binding) ≡ true
      → Has (not_yet wire (step.Advance number)) (open_line group)
  pub invalidation_stands : (wire : Wire) (number cookie : ℕ) (binding : BindingWire) (part : EndpointWire)
      → binding_of wire number ≡ Some binding → binding.stage ≡ InvalidatingWire cookie → slice_get wire.parts binding.endpoint ≡ Some part
      → is_wait_done part.unit cookie ≡ false → Has (not_yet wire (step.Advance number)) (wait_line First wire binding.endpoint part cookie)
  -- NotMapped, of as many pages as a step may name
  pub page_stands : (wire : Wire) (space page count offset : ℕ)
      → (nat_le count Limits.most_pages && nat_le page Limits.page_numbers) ≡ true → offset < count
      → is_mapped (pages_in wire space) (page + offset) ≡ false
      → Has (not_mapped wire (step.Unmap space page count)) (unmapped_line (page + offset))
  -- NotStarted: of a use and of a page request it is said as of a translation request
  pub use_alike : (wire : Wire) (endpoint pasid page : ℕ) (write : Bool)
      → not_started wire (step.BeginUse endpoint pasid page write) ≡ not_started wire (step.Ask endpoint pasid page)
  pub fault_alike : (wire : Wire) (endpoint pasid page : ℕ) (read write : Bool) (group : Option ℕ) (last : Bool)
      → not_started wire (step.Fault endpoint pasid page read write group last) ≡ not_started wire (step.Ask endpoint pasid page)
  pub off_stands : (wire : Wire) (endpoint pasid page : ℕ) (part : EndpointWire)
      → slice_get wire.parts endpoint ≡ Some part → pasid_state part.device pasid ≡ Off
      → Has (not_started wire (step.Ask endpoint pasid page)) (off_line endpoint pasid)
  pub ending_stands : (wire : Wire) (endpoint pasid page : ℕ) (part : EndpointWire)
      → slice_get wire.parts endpoint ≡ Some part → pasid_state part.device pasid ≡ Ending
      → Has (not_started wire (step.Ask endpoint pasid page)) (ending_line First endpoint pasid)
  -- QueueFull, of single pages, of a range, and of a binding
  pub unit_of_pages_stands : (wire : Wire) (space page count unit : ℕ) (part : EndpointWire)
      → slice_get wire.parts unit ≡ Some part → nat_le count Limits.most_pages ≡ true → submits wire space unit ≡ true
      → has_room part.unit (count + 1) ≡ false
      → Has (queue_full wire (step.Unmap space page count)) (full_line First wire unit part (count + 1))
  pub unit_of_binding_stands : (wire : Wire) (number : ℕ) (binding : BindingWire) (part : EndpointWire)
      → binding_of wire number ≡ Some binding → slice_get wire.parts binding.endpoint ≡ Some part
      → has_room part.unit (descriptors_of binding.stage) ≡ false
      → Has (queue_full wire (step.Advance number)) (full_line First wire binding.endpoint part (descriptors_of binding.stage))
  pub unit_stands : (wire : Wire) (space page order unit : ℕ) (part : EndpointWire)
      → slice_get wire.parts unit ≡ Some part → submits wire space unit ≡ true → has_room part.unit 2 ≡ false
      → Has (queue_full wire (step.UnmapRange space page order)) (full_line First wire unit part 2)
  -- BadVerdict
  pub request_stands : (wire : Wire) (worker place : ℕ) (verdict : Verdict) (job : JobWire) (ask : AskWire)
      → held_by wire worker ≡ Some job → slice_get job.asks place ≡ Some ask
      → (ask.write && is_read_only_at (page_at (pages_of_job wire job) ask.page)) ≡ true
      → Has (bad_verdict wire (step.Reply worker verdict)) (read_only_line wire worker ask)
