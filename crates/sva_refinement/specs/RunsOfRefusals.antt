-- Runs that are worked out: each cause of a refusal, and which cause is answered where two hold.
use Rattle.std.specs.Prelude.{true, false, List, [], ◌∷◌, None, ◌++◌, ◌+◌, Some}
use Rattle.sva_step.specs.declared.answers.Answer.TheVariants as answer
use Rattle.sva_step.specs.declared.refusals.Refusal.TheVariants as refusal
use Rattle.sva_step.specs.declared.steps.Step.TheVariants as step
use Rattle.sva_step.specs.declared.steps.Verdict.TheVariants as verdict
use Rattle.sva_model.specs.Runs.{Line, says, IsRun, config, refused, lines}

-- the sixty-fifth live space, and the last number of a space
abbrev pub causes_of_space : List Line
causes_of_space =
    lines 64 (λ k. says step.Space (answer.Space (9223372036854775744 + k)))
    ++ (refused step.Space refusal.TooManySpaces  -- NumbersSpent too
    ∷ says (step.DropSpace 9223372036854775807) answer.Gone
    ∷ refused step.Space refusal.NumbersSpent
    ∷ refused (step.DropSpace 9223372036854775807) refusal.NoSuchSpace
    ∷ [])

abbrev pub CausesOfSpace : Type 0
CausesOfSpace = IsRun (config 1 1 1 9223372036854775744) causes_of_space 1 0 0

-- a space is still bound in each stage until its binding is released
abbrev pub causes_of_drop_space : List Line
causes_of_drop_space =
    refused (step.DropSpace 0) refusal.NoSuchSpace
    ∷ says step.Space (answer.Space 0)
    ∷ says (step.Bind 0 0) (answer.Binding 0 1)
    ∷ refused (step.DropSpace 0) refusal.StillBound
    ∷ refused (step.DropSpace 1) refusal.NoSuchSpace
    ∷ says (step.Reset 0) answer.Resetting
    ∷ refused (step.DropSpace 0) refusal.StillBound
    ∷ says (step.Deliver 0) answer.Started
    ∷ says (step.Deliver 1) answer.Reset
    ∷ says (step.Deliver 2) answer.ResetDone
    ∷ refused (step.DropSpace 0) refusal.StillBound
    ∷ says (step.Unbind 0) answer.Quiet
    ∷ refused (step.DropSpace 0) refusal.StillBound
    ∷ says (step.Advance 0) answer.Released
    ∷ says (step.DropSpace 0) answer.Gone
    ∷ refused (step.DropSpace 0) refusal.NoSuchSpace
    ∷ []

abbrev pub CausesOfDropSpace : Type 0
CausesOfDropSpace = IsRun (config 1 1 1 0) causes_of_drop_space 1 0 0

-- a space, its page numbers, its pages and the frames
abbrev pub causes_of_map : List Line
causes_of_map =
    refused (step.Map 0 68719476736 false) refusal.NoSuchSpace  -- PageRange too
    ∷ says step.Space (answer.Space 0)
    ∷ refused (step.Map 0 68719476736 false) refusal.PageRange
    ∷ says (step.Map 0 16 false) (answer.Frame 0)
    ∷ refused (step.Map 0 68719476736 true) refusal.PageRange  -- NoFrame too
    ∷ refused (step.Map 0 16 true) refusal.Mapped  -- NoFrame too
    ∷ refused (step.Map 0 17 false) refusal.NoFrame
    ∷ []

abbrev pub CausesOfMap : Type 0
CausesOfMap = IsRun (config 1 1 1 0) causes_of_map 0 1 0

-- a space, the count of pages, their numbers, and that each is mapped
abbrev pub causes_of_unmap : List Line
causes_of_unmap =
    refused (step.Unmap 0 16 49) refusal.NoSuchSpace  -- BadCount too
    ∷ says step.Space (answer.Space 0)
    ∷ refused (step.Unmap 0 68719476735 49) refusal.BadCount  -- PageRange too
    ∷ refused (step.Unmap 0 16 0) refusal.BadCount
    ∷ says (step.Map 0 68719476735 false) (answer.Frame 0)
    ∷ refused (step.Unmap 0 68719476735 2) refusal.PageRange  -- NotMapped too
    ∷ says (step.Map 0 16 false) (answer.Frame 1)
    ∷ refused (step.Unmap 0 16 2) refusal.NotMapped
    ∷ says (step.Unmap 0 16 1) (answer.FreeFrames (1 ∷ []))
    ∷ []

abbrev pub CausesOfUnmap : Type 0
CausesOfUnmap = IsRun (config 1 2 1 0) causes_of_unmap 1 1 0

-- an invalidation queue of 64, and 32 cookies, are spent by 32 pages
abbrev pub full_queue_while_stopping : List Line
full_queue_while_stopping =
    (says step.Space (answer.Space 9223372036854775776)
    ∷ [])
    ++ lines 32 (λ k. says (step.Map 9223372036854775776 (16 + k) false) (answer.Frame k))
    ++ (says (step.Bind 0 9223372036854775776) (answer.Binding 9223372036854775776 1)
    ∷ says (step.Deliver 9223372036854775776) answer.Started
    ∷ [])
    ++ lines 32 (λ k. says (step.Unmap 9223372036854775776 (16 + k) 1) (answer.WithheldFrames (k ∷ [])))
    ++ (refused (step.Unmap 9223372036854775776 16 1) refusal.NotMapped  -- QueueFull too
    ∷ says (step.Map 9223372036854775776 48 false) (answer.Frame 32)
    ∷ refused (step.Unmap 9223372036854775776 48 1) refusal.QueueFull  -- NumbersSpent too
    ∷ refused (step.Advance 9223372036854775776) refusal.NotYet
    ∷ says (step.Unbind 9223372036854775776) answer.Stopping
    ∷ refused (step.Advance 9223372036854775776) refusal.NotYet  -- QueueFull too
    ∷ says (step.Deliver 9223372036854775777) answer.Stopping
    ∷ says (step.Quit 0 1) answer.Marker
    ∷ says (step.Deliver 9223372036854775778) answer.Marked
    ∷ refused (step.Advance 9223372036854775776) refusal.QueueFull  -- NumbersSpent too
    ∷ says (step.Pump 0) (answer.Itag 0)
    ∷ refused (step.Advance 9223372036854775776) refusal.NumbersSpent
    ∷ refused (step.Unmap 9223372036854775776 48 1) refusal.QueueFull
    ∷ [])

abbrev pub FullQueueWhileStopping : Type 0
FullQueueWhileStopping = IsRun (config 1 33 1 9223372036854775776) full_queue_while_stopping 0 1 32

-- a draining binding needs two places of the invalidation queue
abbrev pub full_queue_while_draining : List Line
full_queue_while_draining =
    (says step.Space (answer.Space 9223372036854775775)
    ∷ [])
    ++ lines 33 (λ k. says (step.Map 9223372036854775775 (16 + k) false) (answer.Frame k))
    ++ (says (step.Bind 0 9223372036854775775) (answer.Binding 9223372036854775775 1)
    ∷ says (step.Unbind 9223372036854775775) answer.Stopping
    ∷ says (step.Deliver 9223372036854775775) answer.Started
    ∷ says (step.Deliver 9223372036854775776) answer.Stopping
    ∷ says (step.Quit 0 1) answer.Marker
    ∷ says (step.Deliver 9223372036854775777) answer.Marked
    ∷ says (step.Advance 9223372036854775775) answer.Draining
    ∷ [])
    ++ lines 31 (λ k. says (step.Unmap 9223372036854775775 (16 + k) 1) (answer.WithheldFrames (k ∷ [])))
    ++ (refused (step.Advance 9223372036854775775) refusal.NotYet  -- QueueFull too
    ∷ says (step.Pump 0) answer.WaitDone
    ∷ says (step.Unmap 9223372036854775775 47 1) (answer.WithheldFrames (31 ∷ []))
    ∷ refused (step.Advance 9223372036854775775) refusal.QueueFull  -- NumbersSpent too
    ∷ says (step.Pump 0) (answer.Itag 0)
    ∷ refused (step.Advance 9223372036854775775) refusal.QueueFull
    ∷ says (step.Deliver 9223372036854775778) answer.Taken
    ∷ says (step.Finish 0 1 1) (answer.Sent 1)
    ∷ says (step.Deliver 9223372036854775779) (answer.Freed 1)
    ∷ says (step.Pump 0) answer.WaitDone
    ∷ refused (step.Advance 9223372036854775775) refusal.NumbersSpent
    ∷ [])

abbrev pub FullQueueWhileDraining : Type 0
FullQueueWhileDraining = IsRun (config 1 33 1 9223372036854775775) full_queue_while_draining 1 1 31

-- 32 PASIDs are taken at one endpoint, and the last numbers by another
abbrev pub causes_of_bind : List Line
causes_of_bind =
    (refused (step.Bind 2 9223372036854775775) refusal.NoSuchEndpoint  -- NoSuchSpace too
    ∷ refused (step.Bind 0 9223372036854775775) refusal.NoSuchSpace
    ∷ [])
    ++ lines 33 (λ k. says step.Space (answer.Space (9223372036854775775 + k)))
    ++ lines 32 (λ k. says (step.Bind 0 (9223372036854775775 + k)) (answer.Binding (9223372036854775775 + k) (1 + k)))
    ++ (refused (step.Bind 0 9223372036854775775) refusal.AlreadyBound  -- NoPasid too
    ∷ says (step.Bind 1 9223372036854775775) (answer.Binding 9223372036854775807 1)
    ∷ refused (step.Bind 0 9223372036854775807) refusal.NoPasid  -- NumbersSpent too
    ∷ refused (step.Bind 1 9223372036854775776) refusal.NumbersSpent
    ∷ refused (step.Bind 1 9223372036854775775) refusal.AlreadyBound
    ∷ refused (step.Reset 0) refusal.NumbersSpent
    ∷ [])

abbrev pub CausesOfBind : Type 0
CausesOfBind = IsRun (config 2 1 1 9223372036854775775) causes_of_bind 1 0 0

-- nothing is bound at a unit in reset
abbrev pub bind_in_reset : List Line
bind_in_reset =
    says step.Space (answer.Space 0)
    ∷ says (step.Bind 0 0) (answer.Binding 0 1)
    ∷ says (step.Reset 0) answer.Resetting
    ∷ refused (step.Bind 0 1) refusal.NoSuchSpace  -- Resetting too
    ∷ refused (step.Bind 0 0) refusal.Resetting  -- AlreadyBound too
    ∷ []

abbrev pub BindInReset : Type 0
BindInReset = IsRun (config 1 1 1 0) bind_in_reset 1 0 0

-- a binding is unbound once, at an open unit
abbrev pub causes_of_unbind : List Line
causes_of_unbind =
    refused (step.Unbind 0) refusal.NoSuchBinding
    ∷ says step.Space (answer.Space 0)
    ∷ says (step.Bind 0 0) (answer.Binding 0 1)
    ∷ says (step.Unbind 0) answer.Stopping
    ∷ refused (step.Unbind 0) refusal.NotLive
    ∷ says (step.Reset 0) answer.Resetting
    ∷ refused (step.Unbind 0) refusal.NotLive  -- Resetting too
    ∷ says (step.Deliver 0) answer.Started
    ∷ says (step.Deliver 1) answer.Stopping
    ∷ says (step.Deliver 2) answer.Reset
    ∷ says (step.Deliver 3) answer.ResetDone
    ∷ refused (step.Unbind 0) refusal.NotLive
    ∷ says (step.Advance 0) answer.Released
    ∷ refused (step.Unbind 0) refusal.NoSuchBinding  -- a released binding is no longer Live or Lost either
    ∷ []

abbrev pub CausesOfUnbind : Type 0
CausesOfUnbind = IsRun (config 1 1 1 0) causes_of_unbind 1 0 0

-- stages at an open unit and at one in reset
abbrev pub causes_of_advance : List Line
causes_of_advance =
    refused (step.Advance 0) refusal.NoSuchBinding
    ∷ says step.Space (answer.Space 0)
    ∷ says (step.Bind 0 0) (answer.Binding 0 1)
    ∷ refused (step.Advance 0) refusal.NotYet
    ∷ says (step.Unbind 0) answer.Stopping
    ∷ refused (step.Advance 0) refusal.NotYet
    ∷ says (step.Reset 0) answer.Resetting
    ∷ refused (step.Advance 0) refusal.Resetting  -- NotYet too
    ∷ says (step.Deliver 0) answer.Started
    ∷ says (step.Deliver 1) answer.Stopping
    ∷ says (step.Deliver 2) answer.Reset
    ∷ says (step.Deliver 3) answer.ResetDone
    ∷ says (step.Advance 0) answer.Released
    ∷ says (step.Reset 0) answer.Resetting
    ∷ refused (step.Advance 0) refusal.NoSuchBinding  -- its unit is in reset
    ∷ []

abbrev pub CausesOfAdvance : Type 0
CausesOfAdvance = IsRun (config 1 1 1 0) causes_of_advance 1 0 0

-- a unit is pumped, served and reset while it is open
abbrev pub causes_at_a_unit : List Line
causes_at_a_unit =
    refused (step.Pump 1) refusal.NoSuchEndpoint
    ∷ refused (step.Serve 1) refusal.NoSuchEndpoint
    ∷ refused (step.Reset 1) refusal.NoSuchEndpoint
    ∷ says (step.Pump 0) answer.Idle
    ∷ says (step.Serve 0) answer.Empty
    ∷ says (step.Reset 0) answer.Resetting
    ∷ refused (step.Pump 0) refusal.Resetting
    ∷ refused (step.Serve 0) refusal.Resetting
    ∷ refused (step.Reset 0) refusal.Resetting  -- NumbersSpent too
    ∷ []

abbrev pub CausesAtAUnit : Type 0
CausesAtAUnit = IsRun (config 1 1 1 9223372036854775807) causes_at_a_unit 1 0 0

-- a worker, its hand, the queue of jobs, and what a verdict needs
abbrev pub causes_of_workers : List Line
causes_of_workers =
    refused (step.Take 1) refusal.NoSuchWorker  -- NoJob too
    ∷ refused (step.Take 0) refusal.NoJob
    ∷ refused (step.Reply 1 verdict.Success) refusal.NoSuchWorker  -- NoJob too
    ∷ refused (step.Reply 0 verdict.Success) refusal.NoJob
    ∷ says step.Space (answer.Space 9223372036854775805)
    ∷ says (step.Map 9223372036854775805 16 false) (answer.Frame 0)
    ∷ says (step.Bind 0 9223372036854775805) (answer.Binding 9223372036854775805 1)
    ∷ says (step.Deliver 9223372036854775805) answer.Started
    ∷ says (step.Fault 0 1 16 false true None false) (answer.Group 0)
    ∷ says (step.Fault 0 1 17 true false (Some 0) true) (answer.Group 0)
    ∷ says (step.Deliver 9223372036854775806) answer.Queued
    ∷ says (step.Deliver 9223372036854775807) answer.Queued
    ∷ says (step.Serve 0) answer.Part
    ∷ refused (step.Take 0) refusal.NoJob
    ∷ says (step.Serve 0) answer.Job
    ∷ says (step.Take 0) (answer.JobTaken 9223372036854775805 0 2)
    ∷ refused (step.Take 0) refusal.HandsFull  -- NoJob too
    ∷ refused (step.Reply 0 verdict.Success) refusal.BadVerdict  -- NoFrame too
    ∷ says (step.Unmap 9223372036854775805 16 1) (answer.WithheldFrames (0 ∷ []))
    ∷ refused (step.Reply 0 verdict.Success) refusal.NoFrame  -- NumbersSpent too
    ∷ refused (step.Reply 0 verdict.Invalid) refusal.NumbersSpent
    ∷ refused (step.Reply 0 verdict.Failure) refusal.NumbersSpent
    ∷ []

abbrev pub CausesOfWorkers : Type 0
CausesOfWorkers = IsRun (config 1 1 1 9223372036854775805) causes_of_workers 0 0 1

-- 32 translation requests are out, and no message is left
abbrev pub causes_of_ask : List Line
causes_of_ask =
    (refused (step.Ask 1 1 68719476736) refusal.NoSuchEndpoint  -- PageRange too
    ∷ refused (step.Ask 0 1 68719476736) refusal.PageRange  -- NotStarted too
    ∷ refused (step.Ask 0 1 16) refusal.NotStarted
    ∷ says step.Space (answer.Space 9223372036854775775)
    ∷ says (step.Bind 0 9223372036854775775) (answer.Binding 9223372036854775775 1)
    ∷ says (step.Deliver 9223372036854775775) answer.Started
    ∷ [])
    ++ lines 32 (λ k. says (step.Ask 0 1 16) (answer.Tag k))
    ++ (refused (step.Ask 0 2 16) refusal.NotStarted  -- NoTag too
    ∷ refused (step.Ask 0 1 16) refusal.NoTag  -- NumbersSpent too
    ∷ [])

abbrev pub CausesOfAsk : Type 0
CausesOfAsk = IsRun (config 1 1 1 9223372036854775775) causes_of_ask 1 0 0

-- a use needs a PASID that is on, a translation that allows it, and a slot
abbrev pub causes_of_begin_use : List Line
causes_of_begin_use =
    (refused (step.BeginUse 1 1 68719476736 false) refusal.NoSuchEndpoint  -- PageRange too
    ∷ refused (step.BeginUse 0 1 68719476736 false) refusal.PageRange  -- NotStarted too
    ∷ says step.Space (answer.Space 0)
    ∷ says (step.Map 0 16 false) (answer.Frame 0)
    ∷ says (step.Bind 0 0) (answer.Binding 0 1)
    ∷ refused (step.BeginUse 0 1 16 false) refusal.NotStarted  -- NotHeld too
    ∷ says (step.Deliver 0) answer.Started
    ∷ refused (step.BeginUse 0 1 16 false) refusal.NotHeld
    ∷ says (step.Ask 0 1 16) (answer.Tag 0)
    ∷ says (step.Deliver 1) answer.Completion
    ∷ says (step.Deliver 2) answer.Held
    ∷ refused (step.BeginUse 0 1 16 true) refusal.ReadOnly
    ∷ [])
    ++ lines 16 (λ k. says (step.BeginUse 0 1 16 false) (answer.Use k 0))
    ++ (refused (step.BeginUse 0 1 17 false) refusal.NotHeld  -- NoUseSlot too
    ∷ refused (step.BeginUse 0 1 16 true) refusal.ReadOnly  -- NoUseSlot too
    ∷ refused (step.BeginUse 0 1 16 false) refusal.NoUseSlot
    ∷ says (step.EndUse 0 3) answer.Ended
    ∷ says (step.Unbind 0) answer.Stopping
    ∷ says (step.Deliver 3) answer.Stopping
    ∷ refused (step.BeginUse 0 1 16 false) refusal.NotStarted
    ∷ [])

abbrev pub CausesOfBeginUse : Type 0
CausesOfBeginUse = IsRun (config 1 1 1 0) causes_of_begin_use 0 1 0

-- a slot that is taken, and a translation that is held
abbrev pub causes_of_end_use_and_evict : List Line
causes_of_end_use_and_evict =
    refused (step.EndUse 1 0) refusal.NoSuchEndpoint  -- NoSuchUse too
    ∷ refused (step.EndUse 0 0) refusal.NoSuchUse
    ∷ refused (step.EndUse 0 16) refusal.NoSuchUse
    ∷ refused (step.Evict 1 1 68719476736) refusal.NoSuchEndpoint  -- PageRange too
    ∷ refused (step.Evict 0 1 68719476736) refusal.PageRange  -- NotHeld too
    ∷ refused (step.Evict 0 1 16) refusal.NotHeld
    ∷ says step.Space (answer.Space 0)
    ∷ says (step.Map 0 16 false) (answer.Frame 0)
    ∷ says (step.Bind 0 0) (answer.Binding 0 1)
    ∷ says (step.Deliver 0) answer.Started
    ∷ says (step.Ask 0 1 16) (answer.Tag 0)
    ∷ says (step.Deliver 1) answer.Completion
    ∷ says (step.Deliver 2) answer.Held
    ∷ says (step.BeginUse 0 1 16 false) (answer.Use 0 0)
    ∷ refused (step.Evict 0 1 17) refusal.NotHeld
    ∷ refused (step.Evict 0 2 16) refusal.NotHeld
    ∷ says (step.Evict 0 1 16) answer.Evicted
    ∷ refused (step.Evict 0 1 16) refusal.NotHeld
    ∷ refused (step.EndUse 0 1) refusal.NoSuchUse
    ∷ says (step.EndUse 0 0) answer.Ended
    ∷ refused (step.EndUse 0 0) refusal.NoSuchUse
    ∷ []

abbrev pub CausesOfEndUseAndEvict : Type 0
CausesOfEndUseAndEvict = IsRun (config 1 1 1 0) causes_of_end_use_and_evict 0 1 0

-- 32 page requests are outstanding, and no message is left
abbrev pub causes_of_fault : List Line
causes_of_fault =
    (refused (step.Fault 1 1 68719476736 true false None true) refusal.NoSuchEndpoint  -- PageRange too
    ∷ refused (step.Fault 0 1 68719476736 true false None true) refusal.PageRange  -- NotStarted too
    ∷ refused (step.Fault 0 1 16 true false None true) refusal.NotStarted
    ∷ refused (step.Fault 0 1 16 true false (Some 0) true) refusal.NotStarted  -- NoSuchGroup too
    ∷ says step.Space (answer.Space 9223372036854775775)
    ∷ says (step.Bind 0 9223372036854775775) (answer.Binding 9223372036854775775 1)
    ∷ says (step.Deliver 9223372036854775775) answer.Started
    ∷ refused (step.Fault 0 1 16 true false (Some 0) true) refusal.NoSuchGroup
    ∷ [])
    ++ lines 32 (λ k. says (step.Fault 0 1 16 true false None true) (answer.Group k))
    ++ (refused (step.Fault 0 2 16 true false None true) refusal.NotStarted  -- NoCredit too
    ∷ refused (step.Fault 0 1 16 true false (Some 0) true) refusal.NoCredit  -- NoSuchGroup too
    ∷ refused (step.Fault 0 1 16 true false None true) refusal.NoCredit  -- NumbersSpent too
    ∷ [])

abbrev pub CausesOfFault : Type 0
CausesOfFault = IsRun (config 1 1 1 9223372036854775775) causes_of_fault 1 0 0

-- a response failure disables the page request interface
abbrev pub fault_where_disabled : List Line
fault_where_disabled =
    says step.Space (answer.Space 9223372036854775805)
    ∷ says (step.Bind 0 9223372036854775805) (answer.Binding 9223372036854775805 1)
    ∷ says (step.Deliver 9223372036854775805) answer.Started
    ∷ says (step.Fault 0 1 16 true false None true) (answer.Group 0)
    ∷ says (step.Deliver 9223372036854775806) answer.Queued
    ∷ says (step.Serve 0) answer.Job
    ∷ says (step.Take 0) (answer.JobTaken 9223372036854775805 0 1)
    ∷ says (step.Reply 0 verdict.Failure) answer.Failure
    ∷ says (step.Deliver 9223372036854775807) answer.Answered
    ∷ refused (step.Fault 0 1 16 true false (Some 0) true) refusal.NoSuchGroup  -- PriDisabled too
    ∷ refused (step.Fault 0 1 16 true false None true) refusal.PriDisabled  -- NumbersSpent too
    ∷ []

abbrev pub FaultWhereDisabled : Type 0
FaultWhereDisabled = IsRun (config 1 1 1 9223372036854775805) fault_where_disabled 1 0 0

-- two invalidations are taken, a use runs under one, and two messages are left
abbrev pub causes_of_finish : List Line
causes_of_finish =
    refused (step.Finish 1 0 1) refusal.NoSuchEndpoint  -- NotPending too
    ∷ refused (step.Finish 0 0 9) refusal.NotPending  -- BadCount too
    ∷ says step.Space (answer.Space 9223372036854775801)
    ∷ says (step.Map 9223372036854775801 16 false) (answer.Frame 0)
    ∷ says (step.Map 9223372036854775801 17 false) (answer.Frame 1)
    ∷ says (step.Bind 0 9223372036854775801) (answer.Binding 9223372036854775801 1)
    ∷ says (step.Deliver 9223372036854775801) answer.Started
    ∷ says (step.Ask 0 1 16) (answer.Tag 0)
    ∷ says (step.Deliver 9223372036854775802) answer.Completion
    ∷ says (step.Deliver 9223372036854775803) answer.Held
    ∷ says (step.BeginUse 0 1 16 false) (answer.Use 0 0)
    ∷ says (step.Unmap 9223372036854775801 16 2) (answer.WithheldFrames (0 ∷ 1 ∷ []))
    ∷ says (step.Pump 0) (answer.Itag 0)
    ∷ says (step.Pump 0) (answer.Itag 1)
    ∷ refused (step.Finish 0 1 1) refusal.NotPending
    ∷ says (step.Deliver 9223372036854775804) answer.Taken
    ∷ refused (step.Finish 0 3 1) refusal.NotPending  -- InUse too
    ∷ says (step.Deliver 9223372036854775805) answer.Taken
    ∷ refused (step.Finish 0 3 1) refusal.InUse
    ∷ refused (step.Finish 0 1 9) refusal.InUse  -- BadCount too
    ∷ refused (step.Finish 0 2147483650 1) refusal.NotPending
    ∷ refused (step.Finish 0 2 9) refusal.BadCount  -- NumbersSpent too
    ∷ refused (step.Finish 0 2 0) refusal.BadCount
    ∷ refused (step.Finish 0 2 3) refusal.NumbersSpent
    ∷ says (step.Finish 0 2 2) (answer.Sent 2)
    ∷ refused (step.Finish 0 2 1) refusal.NotPending  -- NumbersSpent too
    ∷ says (step.EndUse 0 0) answer.Ended
    ∷ refused (step.Finish 0 1 1) refusal.NumbersSpent
    ∷ []

abbrev pub CausesOfFinish : Type 0
CausesOfFinish = IsRun (config 1 2 1 9223372036854775801) causes_of_finish 0 0 2

-- a PASID that isn't stopping or is busy; a request that can't be answered
abbrev pub causes_of_quit : List Line
causes_of_quit =
    refused (step.Quit 1 1) refusal.NoSuchEndpoint  -- NotStopping too
    ∷ refused (step.Quit 0 1) refusal.NotStopping
    ∷ says step.Space (answer.Space 9223372036854775805)
    ∷ says (step.Bind 0 9223372036854775805) (answer.Binding 9223372036854775805 1)
    ∷ says (step.Deliver 9223372036854775805) answer.Started
    ∷ says (step.Ask 0 1 16) (answer.Tag 0)
    ∷ refused (step.Quit 0 1) refusal.NotStopping  -- Busy too
    ∷ says (step.Unbind 9223372036854775805) answer.Stopping
    ∷ says (step.Deliver 9223372036854775807) answer.Stopping
    ∷ refused (step.Quit 0 1) refusal.Busy  -- NumbersSpent too
    ∷ refused (step.Deliver 9223372036854775806) refusal.NumbersSpent
    ∷ refused (step.Deliver 9223372036854775806) refusal.NumbersSpent
    ∷ []

abbrev pub CausesOfQuit : Type 0
CausesOfQuit = IsRun (config 1 1 1 9223372036854775805) causes_of_quit 1 0 0

-- a message in flight, the order of the link, and the number of a reset-done
abbrev pub causes_of_deliver : List Line
causes_of_deliver =
    refused (step.Deliver 9223372036854775806) refusal.NoSuchMessage
    ∷ says step.Space (answer.Space 9223372036854775806)
    ∷ says (step.Bind 0 9223372036854775806) (answer.Binding 9223372036854775806 1)
    ∷ says (step.Reset 0) answer.Resetting
    ∷ refused (step.Deliver 9223372036854775807) refusal.Overtakes  -- NumbersSpent too
    ∷ says (step.Deliver 9223372036854775806) answer.Started
    ∷ refused (step.Deliver 9223372036854775806) refusal.NoSuchMessage
    ∷ refused (step.Deliver 9223372036854775807) refusal.NumbersSpent
    ∷ refused (step.Deliver 9223372036854775807) refusal.NumbersSpent
    ∷ refused (step.Deliver 9223372036854775808) refusal.NoSuchMessage
    ∷ refused (step.Deliver 0) refusal.NoSuchMessage
    ∷ []

abbrev pub CausesOfDeliver : Type 0
CausesOfDeliver = IsRun (config 1 1 1 9223372036854775806) causes_of_deliver 1 0 0

-- frames are numbered from 0
abbrev pub causes_of_look : List Line
causes_of_look =
    says (step.Look 3) answer.Free
    ∷ refused (step.Look 4) refusal.NoFrame
    ∷ []

abbrev pub CausesOfLook : Type 0
CausesOfLook = IsRun (config 1 4 1 0) causes_of_look 4 0 0
