-- Runs that are worked out: ranges that are unmapped where a queue is full, where numbers are spent, at two endpoints, in reset
-- and while a PASID is invalidated; the largest range, and the last one.
use Rattle.std.specs.Prelude.{true, false, List, [], ◌∷◌, ◌++◌, ◌+◌}
use Rattle.sva_step.specs.declared.answers.Answer.TheVariants as answer
use Rattle.sva_step.specs.declared.refusals.Refusal.TheVariants as refusal
use Rattle.sva_step.specs.declared.steps.Step.TheVariants as step
use Rattle.sva_model.specs.Message.Message.{StartMessage, InvalidateMessage, InvalidatedMessage, RequestMessage, CompletionMessage}
use Rattle.sva_model.specs.Message.Scope.{Coded}
use Rattle.sva_model.specs.Runs.{Line, says, refused, lines, IsRun, config, AreSentInAll, AreOrdered}
use Rattle.sva_model.specs.State.Order.{RangeOf, Wait}

-- a range needs two places of the queue, however many pages it has; 32 ranges fill it
abbrev pub range_into_a_full_queue : List Line
range_into_a_full_queue =
    (says step.Space (answer.Space 0)
    ∷ [])
    ++ lines 33 (λ k. says (step.Map 0 (16 + k) false) (answer.Frame k))
    ++ (says (step.Bind 0 0) (answer.Binding 0 1)
    ∷ [])
    ++ lines 32 (λ k. says (step.UnmapRange 0 (16 + k) 0) (answer.RangeWithheld 1))
    ++ (refused (step.UnmapRange 0 48 4) refusal.QueueFull
    ∷ says (step.Pump 0) (answer.Itag 0)
    ∷ refused (step.UnmapRange 0 48 4) refusal.QueueFull
    ∷ says (step.Pump 0) answer.Blocked
    ∷ says (step.Deliver 1) answer.Taken
    ∷ says (step.Finish 0 1 1) (answer.Sent 1)
    ∷ says (step.Deliver 2) (answer.Freed 1)
    ∷ says (step.Pump 0) answer.WaitDone
    ∷ says (step.UnmapRange 0 48 4) (answer.RangeWithheld 1)
    ∷ refused (step.UnmapRange 0 48 4) refusal.NothingMapped
    ∷ [])

abbrev pub RangeIntoAFullQueue : Type 0
RangeIntoAFullQueue = IsRun (config 1 33 1 0) range_into_a_full_queue 1 0 32

-- a range needs a cookie for each unit that gets it: two are too many, and one is left for the unit that isn't in reset
abbrev pub cookies_of_a_range : List Line
cookies_of_a_range =
    says step.Space (answer.Space 9223372036854775805)
    ∷ says (step.Map 9223372036854775805 16 false) (answer.Frame 0)
    ∷ says (step.Map 9223372036854775805 17 false) (answer.Frame 1)
    ∷ says (step.Bind 0 9223372036854775805) (answer.Binding 9223372036854775805 1)
    ∷ says (step.Bind 1 9223372036854775805) (answer.Binding 9223372036854775806 1)
    ∷ says (step.UnmapRange 9223372036854775805 16 0) (answer.RangeWithheld 1)
    ∷ refused (step.UnmapRange 9223372036854775805 16 0) refusal.NothingMapped  -- NumbersSpent too
    ∷ refused (step.UnmapRange 9223372036854775805 16 1) refusal.NumbersSpent
    ∷ says (step.Reset 1) answer.Resetting
    ∷ says (step.UnmapRange 9223372036854775805 16 1) (answer.RangeWithheld 1)
    ∷ []

abbrev pub CookiesOfARange : Type 0
CookiesOfARange = IsRun (config 2 3 1 9223372036854775805) cookies_of_a_range 1 0 2

-- the frames of a range wait for both endpoints of its space
abbrev pub range_at_two_endpoints : List Line
range_at_two_endpoints =
    says step.Space (answer.Space 0)
    ∷ says (step.Map 0 64 false) (answer.Frame 0)
    ∷ says (step.Map 0 66 false) (answer.Frame 1)
    ∷ says (step.Bind 0 0) (answer.Binding 0 1)
    ∷ says (step.Bind 1 0) (answer.Binding 1 1)
    ∷ says (step.Deliver 0) answer.Started
    ∷ says (step.Deliver 1) answer.Started
    ∷ says (step.UnmapRange 0 64 2) (answer.RangeWithheld 2)
    ∷ says (step.Pump 0) (answer.Itag 0)
    ∷ says (step.Pump 1) (answer.Itag 0)
    ∷ says (step.Deliver 2) answer.Taken
    ∷ says (step.Finish 0 1 1) (answer.Sent 1)
    ∷ says (step.Deliver 4) (answer.Freed 1)
    ∷ says (step.Pump 0) answer.WaitDone
    ∷ says (step.Look 0) answer.Withheld
    ∷ says (step.Look 1) answer.Withheld
    ∷ says (step.Deliver 3) answer.Taken
    ∷ says (step.Finish 1 1 1) (answer.Sent 1)
    ∷ says (step.Deliver 5) (answer.Freed 1)
    ∷ says (step.Look 1) answer.Withheld
    ∷ says (step.Pump 1) answer.WaitDone
    ∷ says (step.Look 0) answer.Free
    ∷ says (step.Look 1) answer.Free
    ∷ says (step.Map 0 66 true) (answer.Frame 0)
    ∷ []

abbrev pub RangeAtTwoEndpoints : Type 0
RangeAtTwoEndpoints = IsRun (config 2 3 1 0) range_at_two_endpoints 2 1 0

-- each unit gets one range and one wait, and the waits have two cookies
abbrev pub RangeAtTheFirst : Type 0
RangeAtTheFirst = AreOrdered (config 2 3 1 0) range_at_two_endpoints 0 (RangeOf 0 (record { base = 64; order = 2 }) ∷ Wait 0 false ∷ [])

abbrev pub RangeAtTheSecond : Type 0
RangeAtTheSecond = AreOrdered (config 2 3 1 0) range_at_two_endpoints 1 (RangeOf 1 (record { base = 64; order = 2 }) ∷ Wait 1 false ∷ [])

-- the frames of a range wait for the end of the reset that the unit is in, which gets nothing
abbrev pub range_in_reset : List Line
range_in_reset =
    says step.Space (answer.Space 0)
    ∷ says (step.Map 0 64 false) (answer.Frame 0)
    ∷ says (step.Map 0 65 false) (answer.Frame 1)
    ∷ says (step.Bind 0 0) (answer.Binding 0 1)
    ∷ says (step.Deliver 0) answer.Started
    ∷ says (step.Reset 0) answer.Resetting
    ∷ says (step.UnmapRange 0 64 1) (answer.RangeWithheld 2)
    ∷ says (step.Look 0) answer.Withheld
    ∷ says (step.Deliver 1) answer.Reset
    ∷ says (step.Look 1) answer.Withheld
    ∷ says (step.Deliver 2) answer.ResetDone
    ∷ says (step.Look 0) answer.Free
    ∷ says (step.Look 1) answer.Free
    ∷ says (step.Pump 0) answer.Idle
    ∷ []

abbrev pub RangeInReset : Type 0
RangeInReset = IsRun (config 1 2 1 0) range_in_reset 2 0 0

-- a range of a space whose PASID is invalidated joins that invalidation's wait; once this is done a range is free at once
abbrev pub range_while_invalidating : List Line
range_while_invalidating =
    says step.Space (answer.Space 0)
    ∷ says (step.Map 0 16 false) (answer.Frame 0)
    ∷ says (step.Map 0 18 false) (answer.Frame 1)
    ∷ says (step.Map 0 24 false) (answer.Frame 2)
    ∷ says (step.Bind 0 0) (answer.Binding 0 1)
    ∷ says (step.Deliver 0) answer.Started
    ∷ says (step.Unbind 0) answer.Stopping
    ∷ says (step.Deliver 1) answer.Stopping
    ∷ says (step.Quit 0 1) answer.Marker
    ∷ says (step.Deliver 2) answer.Marked
    ∷ says (step.Advance 0) answer.Draining
    ∷ says (step.Pump 0) answer.WaitDone
    ∷ says (step.Advance 0) answer.Invalidating
    ∷ says (step.UnmapRange 0 16 2) (answer.RangeWithheld 2)
    ∷ says (step.Pump 0) (answer.Itag 0)
    ∷ says (step.Pump 0) answer.Blocked
    ∷ says (step.Deliver 3) answer.Taken
    ∷ says (step.Finish 0 1 1) (answer.Sent 1)
    ∷ says (step.Deliver 4) (answer.Freed 1)
    ∷ says (step.Look 1) answer.Withheld
    ∷ says (step.Pump 0) answer.WaitDone
    ∷ says (step.Look 0) answer.Free
    ∷ says (step.Look 1) answer.Free
    ∷ says (step.Pump 0) answer.Idle
    ∷ says (step.UnmapRange 0 24 3) (answer.RangeFree 1)
    ∷ says (step.Advance 0) answer.Quiet
    ∷ []

abbrev pub RangeWhileInvalidating : Type 0
RangeWhileInvalidating = IsRun (config 1 3 1 0) range_while_invalidating 3 0 0

-- the largest range, of 512 pages: its first page and its last go, and the pages beside it stay
abbrev pub range_of_512 : List Line
range_of_512 =
    says step.Space (answer.Space 0)
    ∷ says (step.Map 0 512 true) (answer.Frame 0)
    ∷ says (step.Map 0 1023 false) (answer.Frame 1)
    ∷ says (step.Map 0 1024 false) (answer.Frame 2)
    ∷ says (step.Map 0 511 false) (answer.Frame 3)
    ∷ says (step.Bind 0 0) (answer.Binding 0 1)
    ∷ says (step.Deliver 0) answer.Started
    ∷ says (step.Ask 0 1 1023) (answer.Tag 0)
    ∷ says (step.Ask 0 1 1024) (answer.Tag 1)
    ∷ says (step.Ask 0 1 511) (answer.Tag 2)
    ∷ says (step.Deliver 1) answer.Completion
    ∷ says (step.Deliver 2) answer.Completion
    ∷ says (step.Deliver 3) answer.Completion
    ∷ says (step.Deliver 4) answer.Held
    ∷ says (step.Deliver 5) answer.Held
    ∷ says (step.Deliver 6) answer.Held
    ∷ refused (step.UnmapRange 0 256 9) refusal.NotAligned
    ∷ says (step.UnmapRange 0 512 9) (answer.RangeWithheld 2)
    ∷ says (step.Pump 0) (answer.Itag 0)
    ∷ says (step.Deliver 7) answer.Taken
    ∷ refused (step.BeginUse 0 1 1023 false) refusal.NotHeld
    ∷ says (step.BeginUse 0 1 1024 false) (answer.Use 0 2)
    ∷ says (step.BeginUse 0 1 511 false) (answer.Use 1 3)
    ∷ says (step.Finish 0 1 1) (answer.Sent 1)
    ∷ says (step.Deliver 8) (answer.Freed 1)
    ∷ says (step.Pump 0) answer.WaitDone
    ∷ says (step.Look 0) answer.Free
    ∷ says (step.Look 1) answer.Free
    ∷ []

abbrev pub RangeOf512 : Type 0
RangeOf512 = IsRun (config 1 4 1 0) range_of_512 2 2 0

-- its code: the bits 0 to 7 of the page number are set, and bit 8 is clear
abbrev pub RangeOf512AsSent : Type 0
RangeOf512AsSent =
    AreSentInAll
    (config 1 4 1 0)
    range_of_512
    9
    (StartMessage 1
    ∷ RequestMessage 0 1 1023
    ∷ RequestMessage 1 1 1024
    ∷ RequestMessage 2 1 511
    ∷ CompletionMessage 0 1 true false
    ∷ CompletionMessage 1 2 true false
    ∷ CompletionMessage 2 3 true false
    ∷ InvalidateMessage 0 1 (Coded (record { page = 767; s = true }))
    ∷ InvalidatedMessage 1 1
    ∷ [])

-- a range may end with the last page number, and none may end past it
abbrev pub range_of_the_last_pages : List Line
range_of_the_last_pages =
    says step.Space (answer.Space 0)
    ∷ says (step.Map 0 68719476735 false) (answer.Frame 0)
    ∷ says (step.Map 0 68719476224 false) (answer.Frame 1)
    ∷ says (step.Map 0 68719476223 false) (answer.Frame 2)
    ∷ says (step.Bind 0 0) (answer.Binding 0 1)
    ∷ refused (step.UnmapRange 0 68719476736 0) refusal.PageRange
    ∷ refused (step.UnmapRange 0 68719476736 9) refusal.PageRange
    ∷ refused (step.UnmapRange 0 68719476480 9) refusal.PageRange  -- NotAligned too
    ∷ says (step.UnmapRange 0 68719476224 9) (answer.RangeWithheld 2)
    ∷ says (step.Pump 0) (answer.Itag 0)
    ∷ says (step.Deliver 1) answer.Taken
    ∷ says (step.Finish 0 1 1) (answer.Sent 1)
    ∷ says (step.Deliver 2) (answer.Freed 1)
    ∷ says (step.Pump 0) answer.WaitDone
    ∷ says (step.Map 0 68719476735 false) (answer.Frame 0)
    ∷ says (step.UnmapRange 0 68719476735 0) (answer.RangeWithheld 1)
    ∷ []

abbrev pub RangeOfTheLastPages : Type 0
RangeOfTheLastPages = IsRun (config 1 3 1 0) range_of_the_last_pages 1 1 1
