-- What a host keeps after a run, worked out: the whole of it after three, and of others what stands there alone.
use Rattle.std.specs.Prelude.{◌≡◌, ℕ, true, false, List, [], ◌∷◌, ◌++◌, Option, Some, None, replicate, map}
use Rattle.sva_step.specs.declared.answers.Answer.TheVariants as answer
use Rattle.sva_step.specs.declared.limits.Config.{Config}
use Rattle.sva_step.specs.declared.steps.Step.TheVariants as step
use Rattle.sva_model.specs.Runs.{Line, says, config, steps_of}
use Rattle.sva_model.specs.Message.Message.{InvalidatedMessage, RequestMessage, StopMessage}
use Rattle.sva_model.specs.State.PasidRule.{PerSpace}
use Rattle.sva_model.specs.State.PasidState.{Off, On}
use Rattle.sva_model.specs.State.GroupState.{Collecting, Awaiting}
use Rattle.sva_model.specs.States.Extent.{Pages}
use Rattle.sva_model.specs.Steps.{world_after}
use Rattle.sva_model.specs.Wire.{Wire, StageWire, EndpointWire, GroupWire}
use Rattle.sva_model.specs.Wire.{AskWire, PageRequestWire, HostGroupWire, Descriptor, wire}
use Rattle.sva_model.specs.Wire.PlaceWire.{FreeWire, MappedWire, WithheldWire}
use Rattle.sva_model.specs.Wire.TargetWire.{Cookie, ResetEnd}
use Rattle.sva_model.specs.Wire.StageWire.{LiveWire, StoppingWire, DrainingWire, InvalidatingWire, QuietWire}
use Rattle.sva_model.specs.Wire.UseWire.{RunningWire, DeadWire}
use Rattle.sva_model.specs.Wire.BusyWire.{Fresh, Counting}
use Rattle.sva_model.specs.Wire.Descriptor.{RangeDescriptor, PasidDescriptor, WaitDescriptor}

-- what a host keeps after a run
abbrev pub kept_after : Config → List Line → Wire
kept_after limits row = wire (world_after PerSpace limits (steps_of row))

-- two pages are unmapped while one is in use; the invalidation of the other is owed three completions, of which one has come
abbrev pub invalidations_under_way : List Line
invalidations_under_way =
    says step.Space (answer.Space 100)
    ∷ says (step.Map 100 16 true) (answer.Frame 0)
    ∷ says (step.Map 100 17 false) (answer.Frame 1)
    ∷ says (step.Bind 0 100) (answer.Binding 100 1)
    ∷ says (step.Deliver 100) answer.Started
    ∷ says (step.Ask 0 1 16) (answer.Tag 0)
    ∷ says (step.Deliver 101) answer.Completion
    ∷ says (step.Deliver 102) answer.Held
    ∷ says (step.BeginUse 0 1 16 true) (answer.Use 0 0)
    ∷ says (step.Unmap 100 16 2) (answer.WithheldFrames (0 ∷ 1 ∷ []))
    ∷ says (step.Pump 0) (answer.Itag 0)
    ∷ says (step.Pump 0) (answer.Itag 1)
    ∷ says (step.Deliver 103) answer.Taken
    ∷ says (step.Deliver 104) answer.Taken
    ∷ says (step.Finish 0 2 3) (answer.Sent 3)
    ∷ says (step.Deliver 105) (answer.Freed 0)
    ∷ []

abbrev pub InvalidationsUnderWay : Type 0
InvalidationsUnderWay =
    kept_after (config 1 3 1 100) invalidations_under_way
    ≡ record {
      spaces = record { number = 100; pages = [] } ∷ [];
      places = WithheldWire (Some (Cookie 100) ∷ replicate 7 None) ∷ WithheldWire (Some (Cookie 100) ∷ replicate 7 None) ∷ FreeWire ∷ [];
      bindings = record { endpoint = 0; space = 100; binding = 100; pasid = 1; stage = LiveWire } ∷ [];
      parts =
          record {
            device =
                record {
                  pasids = On ∷ replicate 31 Off;
                  tags = replicate 32 None;
                  cache = [];
                  slots = Some (RunningWire (record { pasid = 1; page = 16; frame = 0; write = true })) ∷ replicate 15 None;
                  taken = Some (record { pasid = 1; extent = Pages (record { base = 16; order = 0 }); slots = true ∷ replicate 15 false })
                      ∷ replicate 31 None;
                  groups = replicate 32 None;
                  is_disabled = false;
                };
            unit =
                record {
                  is_open = true;
                  queue = WaitDescriptor 100 false ∷ [];
                  busy = Some Fresh ∷ Some (Counting 3 1) ∷ replicate 30 None;
                  front = 0;
                  waits_end = 101;
                };
            page_queue = [];
            host_groups = [];
          }
          ∷ [];
      jobs = [];
      hands = None ∷ [];
      in_flight =
          record { number = 106; endpoint = 0; message = InvalidatedMessage 2 3 }
          ∷ record { number = 107; endpoint = 0; message = InvalidatedMessage 2 3 }
          ∷ [];
      next_space = 101;
      next_binding = 101;
      next_message = 108;
      next_cookie = 101;
    }

-- a group of two is in a worker's hand, one is half arrived, and the job of another endpoint is queued
abbrev pub groups_under_way : List Line
groups_under_way =
    says step.Space (answer.Space 0)
    ∷ says (step.Bind 0 0) (answer.Binding 0 1)
    ∷ says (step.Bind 1 0) (answer.Binding 1 1)
    ∷ says (step.Deliver 0) answer.Started
    ∷ says (step.Deliver 1) answer.Started
    ∷ says (step.Fault 0 1 32 true false None false) (answer.Group 0)
    ∷ says (step.Fault 0 1 33 false true (Some 0) true) (answer.Group 0)
    ∷ says (step.Fault 0 1 40 true true None false) (answer.Group 1)
    ∷ says (step.Deliver 2) answer.Queued
    ∷ says (step.Deliver 3) answer.Queued
    ∷ says (step.Deliver 4) answer.Queued
    ∷ says (step.Serve 0) answer.Part
    ∷ says (step.Serve 0) answer.Job
    ∷ says (step.Take 1) (answer.JobTaken 0 0 2)
    ∷ says (step.Fault 1 1 50 true false None true) (answer.Group 0)
    ∷ says (step.Deliver 5) answer.Queued
    ∷ says (step.Serve 1) answer.Job
    ∷ []

-- what the group of two in the hand asks for
abbrev pub two_asks : List AskWire
two_asks = record { page = 32; read = true; write = false } ∷ record { page = 33; read = false; write = true } ∷ []

-- and what that of the other endpoint
abbrev pub an_ask : List AskWire
an_ask = record { page = 50; read = true; write = false } ∷ []

-- of each endpoint: its own groups, the page request queue and the groups that are open at the host
pub record Groups : Type 0 where
  pub groups : List (Option GroupWire)
  pub page_queue : List PageRequestWire
  pub host_groups : List HostGroupWire

-- the same as an endpoint keeps it with its unit
abbrev pub groups_of : EndpointWire → Groups
groups_of endpoint = record { groups = endpoint.device.groups; page_queue = endpoint.page_queue; host_groups = endpoint.host_groups }

abbrev pub GroupsUnderWay : Type 0
GroupsUnderWay =
    (map groups_of (kept_after (config 2 2 2 0) groups_under_way).parts
    ≡ record {
      groups = Some (record { pasid = 1; state = Awaiting; requests = 2 }) ∷ Some (record { pasid = 1; state = Collecting; requests = 1 })
          ∷ replicate 30 None;
      page_queue = record { pasid = 1; index = 1; ask = record { page = 40; read = true; write = true }; last = false } ∷ [];
      host_groups = record { binding = 0; index = 0; asks = two_asks; is_whole = true } ∷ [];
    }
    ∷ record {
      groups = Some (record { pasid = 1; state = Awaiting; requests = 1 }) ∷ replicate 31 None;
      page_queue = [];
      host_groups = record { binding = 1; index = 0; asks = an_ask; is_whole = true } ∷ [];
    }
    ∷ [])
    × ((kept_after (config 2 2 2 0) groups_under_way).jobs ≡ record { endpoint = 1; binding = 1; index = 0; asks = an_ask } ∷ [])
    × ((kept_after (config 2 2 2 0) groups_under_way).hands ≡ None ∷ Some (record { endpoint = 0; binding = 0; index = 0; asks = two_asks }) ∷ [])

-- a frame waits at two endpoints, of which one is in reset
abbrev pub two_targets : List Line
two_targets =
    says step.Space (answer.Space 0)
    ∷ says (step.Map 0 16 false) (answer.Frame 0)
    ∷ says (step.Bind 0 0) (answer.Binding 0 1)
    ∷ says (step.Bind 1 0) (answer.Binding 1 1)
    ∷ says (step.Reset 1) answer.Resetting
    ∷ says (step.Unmap 0 16 1) (answer.WithheldFrames (0 ∷ []))
    ∷ []

abbrev pub TwoTargets : Type 0
TwoTargets =
    (kept_after (config 2 2 1 0) two_targets).places ≡ WithheldWire (Some (Cookie 0) ∷ Some ResetEnd ∷ replicate 6 None) ∷ FreeWire ∷ []

-- a binding waits for its drain, and then for its PASID's invalidation: the front passes the first wait
abbrev pub drained : List Line
drained =
    says step.Space (answer.Space 7)
    ∷ says (step.Bind 0 7) (answer.Binding 7 1)
    ∷ says (step.Deliver 7) answer.Started
    ∷ says (step.Unbind 7) answer.Stopping
    ∷ says (step.Deliver 8) answer.Stopping
    ∷ says (step.Quit 0 1) answer.Marker
    ∷ says (step.Deliver 9) answer.Marked
    ∷ says (step.Advance 7) answer.Draining
    ∷ says (step.Pump 0) answer.WaitDone
    ∷ []

-- its stage, and of its unit the queue, the front and the end of what was submitted
pub record Drain : Type 0 where
  pub stages : List StageWire
  pub queues : List (List Descriptor)
  pub fronts : List ℕ
  pub ends : List ℕ

-- the same of all bindings and units, as it is kept
abbrev pub drain_in : Wire → Drain
drain_in kept =
    record {
      stages = map (λ binding. binding.stage) kept.bindings;
      queues = map (λ part. part.unit.queue) kept.parts;
      fronts = map (λ part. part.unit.front) kept.parts;
      ends = map (λ part. part.unit.waits_end) kept.parts;
    }

-- a Reset makes the second wait void and leaves the front; the reset-done raises the front past it
abbrev pub reset_of_a_wait : List Line
reset_of_a_wait = says (step.Advance 7) answer.Invalidating ∷ says (step.Reset 0) answer.Resetting ∷ []

abbrev pub Drained : Type 0
Drained =
    (drain_in (kept_after (config 1 1 1 7) drained) ≡ record { stages = DrainingWire 7 ∷ []; queues = [] ∷ []; fronts = 8 ∷ []; ends = 8 ∷ [] })
    × (drain_in (kept_after (config 1 1 1 7) (drained ++ says (step.Advance 7) answer.Invalidating ∷ []))
    ≡ record { stages = InvalidatingWire 8 ∷ []; queues = (PasidDescriptor 1 ∷ WaitDescriptor 8 false ∷ []) ∷ []; fronts = 8 ∷ []; ends = 9 ∷ [] })
    × (drain_in (kept_after (config 1 1 1 7) (drained ++ reset_of_a_wait))
    ≡ record { stages = InvalidatingWire 8 ∷ []; queues = [] ∷ []; fronts = 8 ∷ []; ends = 9 ∷ [] })
    × (drain_in (kept_after (config 1 1 1 7) (drained ++ reset_of_a_wait ++ says (step.Deliver 10) answer.Reset ∷ says (step.Deliver 11) answer.ResetDone ∷ []))
    ≡ record { stages = QuietWire ∷ []; queues = [] ∷ []; fronts = 9 ∷ []; ends = 9 ∷ [] })

-- Two ranges are queued, one of eight pages and one of a page, each with its wait behind it; the wait of a third, which the
-- endpoint has taken, is ahead of them. Of two requests that are out that one has doomed the first. One page is still mapped,
-- and the binding is told to stop.
abbrev pub ranges_queued : List Line
ranges_queued =
    says step.Space (answer.Space 10)
    ∷ says (step.Map 10 64 true) (answer.Frame 0)
    ∷ says (step.Map 10 70 false) (answer.Frame 1)
    ∷ says (step.Map 10 80 false) (answer.Frame 2)
    ∷ says (step.Bind 0 10) (answer.Binding 10 1)
    ∷ says (step.Deliver 10) answer.Started
    ∷ says (step.Ask 0 1 64) (answer.Tag 0)
    ∷ says (step.Ask 0 1 80) (answer.Tag 1)
    ∷ says (step.UnmapRange 10 64 0) (answer.RangeWithheld 1)
    ∷ says (step.Pump 0) (answer.Itag 0)
    ∷ says (step.Deliver 13) answer.Taken
    ∷ says (step.UnmapRange 10 64 3) (answer.RangeWithheld 1)
    ∷ says (step.Map 10 81 false) (answer.Frame 3)
    ∷ says (step.UnmapRange 10 81 0) (answer.RangeWithheld 1)
    ∷ says (step.Unbind 10) answer.Stopping
    ∷ []

abbrev pub RangesQueued : Type 0
RangesQueued =
    kept_after (config 1 4 1 10) ranges_queued
    ≡ record {
      spaces = record { number = 10; pages = record { page = 80; frame = 2; write = false } ∷ [] } ∷ [];
      places =
          WithheldWire (Some (Cookie 10) ∷ replicate 7 None)
          ∷ WithheldWire (Some (Cookie 11) ∷ replicate 7 None)
          ∷ MappedWire
          ∷ WithheldWire (Some (Cookie 12) ∷ replicate 7 None)
          ∷ [];
      bindings = record { endpoint = 0; space = 10; binding = 10; pasid = 1; stage = StoppingWire false } ∷ [];
      parts =
          record {
            device =
                record {
                  pasids = On ∷ replicate 31 Off;
                  tags =
                      Some (record { pasid = 1; page = 64; is_doomed = true })
                      ∷ Some (record { pasid = 1; page = 80; is_doomed = false })
                      ∷ replicate 30 None;
                  cache = [];
                  slots = replicate 16 None;
                  taken = Some (record { pasid = 1; extent = Pages (record { base = 64; order = 0 }); slots = replicate 16 false }) ∷ replicate 31 None;
                  groups = replicate 32 None;
                  is_disabled = false;
                };
            unit =
                record {
                  is_open = true;
                  queue =
                      WaitDescriptor 10 false
                      ∷ RangeDescriptor 1 (record { base = 64; order = 3 })
                      ∷ WaitDescriptor 11 false
                      ∷ RangeDescriptor 1 (record { base = 81; order = 0 })
                      ∷ WaitDescriptor 12 false
                      ∷ [];
                  busy = Some Fresh ∷ replicate 31 None;
                  front = 0;
                  waits_end = 13;
                };
            page_queue = [];
            host_groups = [];
          }
          ∷ [];
      jobs = [];
      hands = None ∷ [];
      in_flight =
          record { number = 11; endpoint = 0; message = RequestMessage 0 1 64 }
          ∷ record { number = 12; endpoint = 0; message = RequestMessage 1 1 80 }
          ∷ record { number = 14; endpoint = 0; message = StopMessage 1 }
          ∷ [];
      next_space = 11;
      next_binding = 11;
      next_message = 15;
      next_cookie = 13;
    }

-- two jobs are queued, one of a group of three; a use that a reset has ended keeps its slot, and its page is still mapped
abbrev pub jobs_queued : List Line
jobs_queued =
    says step.Space (answer.Space 20)
    ∷ says (step.Map 20 16 true) (answer.Frame 0)
    ∷ says (step.Bind 0 20) (answer.Binding 20 1)
    ∷ says (step.Deliver 20) answer.Started
    ∷ says (step.Ask 0 1 16) (answer.Tag 0)
    ∷ says (step.Deliver 21) answer.Completion
    ∷ says (step.Deliver 22) answer.Held
    ∷ says (step.BeginUse 0 1 16 true) (answer.Use 0 0)
    ∷ says (step.Reset 0) answer.Resetting
    ∷ says (step.Deliver 23) answer.Reset
    ∷ says (step.Deliver 24) answer.ResetDone
    ∷ says (step.Unbind 20) answer.Quiet
    ∷ says (step.Advance 20) answer.Released
    ∷ says (step.Bind 0 20) (answer.Binding 21 1)
    ∷ says (step.Deliver 25) answer.Started
    ∷ says (step.Fault 0 1 32 true false None false) (answer.Group 0)
    ∷ says (step.Fault 0 1 33 false true (Some 0) false) (answer.Group 0)
    ∷ says (step.Fault 0 1 34 true true (Some 0) true) (answer.Group 0)
    ∷ says (step.Fault 0 1 40 true false None true) (answer.Group 1)
    ∷ says (step.Deliver 26) answer.Queued
    ∷ says (step.Deliver 27) answer.Queued
    ∷ says (step.Deliver 28) answer.Queued
    ∷ says (step.Deliver 29) answer.Queued
    ∷ says (step.Serve 0) answer.Part
    ∷ says (step.Serve 0) answer.Part
    ∷ says (step.Serve 0) answer.Job
    ∷ says (step.Serve 0) answer.Job
    ∷ []

-- what the group of three asks for
abbrev pub three_asks : List AskWire
three_asks =
    record { page = 32; read = true; write = false }
    ∷ record { page = 33; read = false; write = true }
    ∷ record { page = 34; read = true; write = true }
    ∷ []

-- and what the other
abbrev pub the_other_ask : List AskWire
the_other_ask = record { page = 40; read = true; write = false } ∷ []

abbrev pub JobsQueued : Type 0
JobsQueued =
    kept_after (config 1 3 2 20) jobs_queued
    ≡ record {
      spaces = record { number = 20; pages = record { page = 16; frame = 0; write = true } ∷ [] } ∷ [];
      places = MappedWire ∷ FreeWire ∷ FreeWire ∷ [];
      bindings = record { endpoint = 0; space = 20; binding = 21; pasid = 1; stage = LiveWire } ∷ [];
      parts =
          record {
            device =
                record {
                  pasids = On ∷ replicate 31 Off;
                  tags = replicate 32 None;
                  cache = [];
                  slots = Some DeadWire ∷ replicate 15 None;
                  taken = replicate 32 None;
                  groups =
                      Some (record { pasid = 1; state = Awaiting; requests = 3 })
                      ∷ Some (record { pasid = 1; state = Awaiting; requests = 1 })
                      ∷ replicate 30 None;
                  is_disabled = false;
                };
            unit = record { is_open = true; queue = []; busy = replicate 32 None; front = 0; waits_end = 0 };
            page_queue = [];
            host_groups =
                record { binding = 21; index = 0; asks = three_asks; is_whole = true }
                ∷ record { binding = 21; index = 1; asks = the_other_ask; is_whole = true }
                ∷ [];
          }
          ∷ [];
      jobs =
          record { endpoint = 0; binding = 21; index = 0; asks = three_asks }
          ∷ record { endpoint = 0; binding = 21; index = 1; asks = the_other_ask }
          ∷ [];
      hands = None ∷ None ∷ [];
      in_flight = [];
      next_space = 21;
      next_binding = 22;
      next_message = 30;
      next_cookie = 20;
    }
