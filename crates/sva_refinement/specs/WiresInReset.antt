-- What a host keeps of an endpoint, worked out whole: of a unit in reset, before and after its endpoint has reset itself, and when the
-- reset has ended; and of a PASID that is told to stop, a group that is stale, and an interface that is disabled.
use Rattle.std.specs.Prelude.{◌≡◌, true, false, List, [], ◌∷◌, ◌++◌, Some, None, replicate, map}
use Rattle.sva_step.specs.declared.answers.Answer.TheVariants as answer
use Rattle.sva_step.specs.declared.steps.Step.TheVariants as step
use Rattle.sva_step.specs.declared.steps.Verdict.TheVariants as verdict
use Rattle.sva_model.specs.Runs.{Line, says, IsRun, config}
use Rattle.sva_model.specs.RunsOfWire.{kept_after}
use Rattle.sva_model.specs.Message.Message.{ResetMessage, ResetDoneMessage}
use Rattle.sva_model.specs.State.PasidState.{Off, On, Ending}
use Rattle.sva_model.specs.State.GroupState.{Collecting, Awaiting, Stale}
use Rattle.sva_model.specs.States.Extent.{Pages}
use Rattle.sva_model.specs.Wire.{DeviceWire}
use Rattle.sva_model.specs.Wire.PlaceWire.{FreeWire, WithheldWire}
use Rattle.sva_model.specs.Wire.TargetWire.{Cookie}
use Rattle.sva_model.specs.Wire.StageWire.{LiveWire, LostWire}
use Rattle.sva_model.specs.Wire.BusyWire.{Fresh}

-- a group is filed in part, and a page request of it waits; an invalidation is taken, and its wait and another invalidation are queued
abbrev pub busy_unit : List Line
busy_unit =
    says step.Space (answer.Space 0)
    ∷ says (step.Map 0 16 true) (answer.Frame 0)
    ∷ says (step.Map 0 17 true) (answer.Frame 1)
    ∷ says (step.Bind 0 0) (answer.Binding 0 1)
    ∷ says (step.Deliver 0) answer.Started
    ∷ says (step.Fault 0 1 32 true false None false) (answer.Group 0)
    ∷ says (step.Fault 0 1 33 true false (Some 0) false) (answer.Group 0)
    ∷ says (step.Deliver 1) answer.Queued
    ∷ says (step.Serve 0) answer.Part
    ∷ says (step.Deliver 2) answer.Queued
    ∷ says (step.Unmap 0 16 1) (answer.WithheldFrames (0 ∷ []))
    ∷ says (step.Pump 0) (answer.Itag 0)
    ∷ says (step.Deliver 3) answer.Taken
    ∷ says (step.Unmap 0 17 1) (answer.WithheldFrames (1 ∷ []))
    ∷ []

-- the Reset step empties both queues and drops the group; the endpoint goes on with what it has
abbrev pub reset_step : List Line
reset_step = says (step.Reset 0) answer.Resetting ∷ []

-- the endpoint's own reset clears what it has; the ITag stays busy
abbrev pub own_reset_of_it : List Line
own_reset_of_it = says (step.Deliver 4) answer.Reset ∷ []

-- the reset-done frees it, answers for both frames, and leaves the binding Lost
abbrev pub end_of_it : List Line
end_of_it = says (step.Deliver 5) answer.ResetDone ∷ []

abbrev pub AnswersOfBusyUnit : Type 0
AnswersOfBusyUnit = IsRun (config 1 2 1 0) (busy_unit ++ reset_step ++ own_reset_of_it ++ end_of_it) 2 0 0

-- an endpoint without anything but the PASIDs' states
abbrev pub bare_device : DeviceWire
bare_device =
    record {
      pasids = replicate 32 Off;
      tags = replicate 32 None;
      cache = [];
      slots = replicate 16 None;
      taken = replicate 32 None;
      groups = replicate 32 None;
      is_disabled = false;
    }

abbrev pub UnitInReset : Type 0
UnitInReset =
    kept_after (config 1 2 1 0) (busy_unit ++ reset_step)
    ≡ record {
      spaces = record { number = 0; pages = [] } ∷ [];
      places = WithheldWire (Some (Cookie 0) ∷ replicate 7 None) ∷ WithheldWire (Some (Cookie 1) ∷ replicate 7 None) ∷ [];
      bindings = record { endpoint = 0; space = 0; binding = 0; pasid = 1; stage = LiveWire } ∷ [];
      parts =
          record {
            device =
                record bare_device {
                  pasids = On ∷ replicate 31 Off;
                  taken =
                      Some (record { pasid = 1; extent = Pages (record { base = 16; order = 0 }); slots = replicate 16 false })
                      ∷ replicate 31 None;
                  groups = Some (record { pasid = 1; state = Collecting; requests = 2 }) ∷ replicate 31 None;
                };
            unit = record { is_open = false; queue = []; busy = Some Fresh ∷ replicate 31 None; front = 0; waits_end = 2 };
            page_queue = [];
            host_groups = [];
          } ∷ [];
      jobs = [];
      hands = None ∷ [];
      in_flight = record { number = 4; endpoint = 0; message = ResetMessage } ∷ [];
      next_space = 1;
      next_binding = 1;
      next_message = 5;
      next_cookie = 2;
    }

abbrev pub EndpointReset : Type 0
EndpointReset =
    kept_after (config 1 2 1 0) (busy_unit ++ reset_step ++ own_reset_of_it)
    ≡ record {
      spaces = record { number = 0; pages = [] } ∷ [];
      places = WithheldWire (Some (Cookie 0) ∷ replicate 7 None) ∷ WithheldWire (Some (Cookie 1) ∷ replicate 7 None) ∷ [];
      bindings = record { endpoint = 0; space = 0; binding = 0; pasid = 1; stage = LiveWire } ∷ [];
      parts =
          record {
            device = bare_device;
            unit = record { is_open = false; queue = []; busy = Some Fresh ∷ replicate 31 None; front = 0; waits_end = 2 };
            page_queue = [];
            host_groups = [];
          } ∷ [];
      jobs = [];
      hands = None ∷ [];
      in_flight = record { number = 5; endpoint = 0; message = ResetDoneMessage } ∷ [];
      next_space = 1;
      next_binding = 1;
      next_message = 6;
      next_cookie = 2;
    }

abbrev pub ResetEnded : Type 0
ResetEnded =
    kept_after (config 1 2 1 0) (busy_unit ++ reset_step ++ own_reset_of_it ++ end_of_it)
    ≡ record {
      spaces = record { number = 0; pages = [] } ∷ [];
      places = FreeWire ∷ FreeWire ∷ [];
      bindings = record { endpoint = 0; space = 0; binding = 0; pasid = 1; stage = LostWire } ∷ [];
      parts =
          record {
            device = bare_device;
            unit = record { is_open = true; queue = []; busy = replicate 32 None; front = 2; waits_end = 2 };
            page_queue = [];
            host_groups = [];
          } ∷ [];
      jobs = [];
      hands = None ∷ [];
      in_flight = [];
      next_space = 1;
      next_binding = 1;
      next_message = 6;
      next_cookie = 2;
    }

-- What the endpoints keep after a run.

-- a group awaits its response where its PASID is told to stop
abbrev pub told_to_stop : List Line
told_to_stop =
    says step.Space (answer.Space 0)
    ∷ says (step.Bind 0 0) (answer.Binding 0 1)
    ∷ says (step.Deliver 0) answer.Started
    ∷ says (step.Fault 0 1 32 true false None true) (answer.Group 0)
    ∷ says (step.Unbind 0) answer.Stopping
    ∷ says (step.Deliver 2) answer.Stopping
    ∷ []

-- and then the PASID is quit
abbrev pub quit_then : List Line
quit_then = says (step.Quit 0 1) answer.Marker ∷ []

abbrev pub AnswersOfToldToStop : Type 0
AnswersOfToldToStop = IsRun (config 1 1 1 0) (told_to_stop ++ quit_then) 1 0 0

-- its group is kept beside the PASID that ends, and is stale once that is quit
abbrev pub EndingAndStale : Type 0
EndingAndStale =
    (map (λ kept. kept.device) (kept_after (config 1 1 1 0) told_to_stop).parts
    ≡ record bare_device {
      pasids = Ending ∷ replicate 31 Off;
      groups = Some (record { pasid = 1; state = Awaiting; requests = 1 }) ∷ replicate 31 None;
    } ∷ [])
    × (map (λ kept. kept.device) (kept_after (config 1 1 1 0) (told_to_stop ++ quit_then)).parts
    ≡ record bare_device { groups = Some (record { pasid = 1; state = Stale; requests = 1 }) ∷ replicate 31 None } ∷ [])

-- a Response Failure disables the interface
abbrev pub failed_group : List Line
failed_group =
    says step.Space (answer.Space 0)
    ∷ says (step.Bind 0 0) (answer.Binding 0 1)
    ∷ says (step.Deliver 0) answer.Started
    ∷ says (step.Fault 0 1 32 true false None true) (answer.Group 0)
    ∷ says (step.Deliver 1) answer.Queued
    ∷ says (step.Serve 0) answer.Job
    ∷ says (step.Take 0) (answer.JobTaken 0 0 1)
    ∷ says (step.Reply 0 verdict.Failure) answer.Failure
    ∷ says (step.Deliver 2) answer.Answered
    ∷ []

abbrev pub AnswersOfFailedGroup : Type 0
AnswersOfFailedGroup = IsRun (config 1 1 1 0) failed_group 1 0 0

abbrev pub DisabledInterface : Type 0
DisabledInterface =
    map (λ kept. kept.device) (kept_after (config 1 1 1 0) failed_group).parts
    ≡ record bare_device { pasids = On ∷ replicate 31 Off; is_disabled = true } ∷ []
