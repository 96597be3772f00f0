-- Runs that are worked out: two of a kind side by side, of which a step means one.
use Rattle.std.specs.Prelude.{true, false, List, [], ◌∷◌, None, ◌++◌, ◌+◌, Some}
use Rattle.sva_step.specs.declared.answers.Answer.TheVariants as answer
use Rattle.sva_step.specs.declared.refusals.Refusal.TheVariants as refusal
use Rattle.sva_step.specs.declared.steps.Step.TheVariants as step
use Rattle.sva_step.specs.declared.steps.Verdict.TheVariants as verdict
use Rattle.sva_model.specs.State.PasidRule.{PerEndpoint}
use Rattle.sva_model.specs.Runs.{page_of, Line, says, IsRun, IsRunBy, config, refused, lines, AreSentInAll, AreOrdered}
use Rattle.sva_model.specs.Words.{tabulate}
use Rattle.sva_model.specs.Message.Message.{StartMessage, CompletionMessage, RequestMessage}
use Rattle.sva_model.specs.State.Order.{Wait}

-- waits submitted by one unmap get their cookies in rising order of units, whatever the order of the bindings
abbrev pub cookies_by_unit : List Line
cookies_by_unit =
    says step.Space (answer.Space 0)
    ∷ says (step.Map 0 16 false) (answer.Frame 0)
    ∷ says (step.Map 0 17 false) (answer.Frame 1)
    ∷ says (step.Bind 2 0) (answer.Binding 0 1)
    ∷ says (step.Bind 0 0) (answer.Binding 1 1)
    ∷ says (step.Bind 1 0) (answer.Binding 2 1)
    ∷ says (step.Unmap 0 16 2) (answer.WithheldFrames (0 ∷ 1 ∷ []))
    ∷ says (step.Map 0 19 false) (answer.Frame 2)
    ∷ says (step.Reset 1) answer.Resetting
    ∷ says (step.Unmap 0 19 1) (answer.WithheldFrames (2 ∷ []))
    ∷ []

abbrev pub CookiesOfTheFirst : Type 0
CookiesOfTheFirst = AreOrdered (config 3 3 1 0) cookies_by_unit 0 (page_of 1 16 ∷ page_of 1 17 ∷ Wait 0 false ∷ page_of 1 19 ∷ Wait 3 false ∷ [])

abbrev pub CookiesOfTheOneInReset : Type 0
CookiesOfTheOneInReset = AreOrdered (config 3 3 1 0) cookies_by_unit 1 (page_of 2 16 ∷ page_of 2 17 ∷ Wait 1 false ∷ [])

abbrev pub CookiesOfTheLast : Type 0
CookiesOfTheLast = AreOrdered (config 3 3 1 0) cookies_by_unit 2 (page_of 0 16 ∷ page_of 0 17 ∷ Wait 2 false ∷ page_of 0 19 ∷ Wait 4 false ∷ [])

-- a completion without a translation: its tag and nothing else
abbrev pub no_translation : List Line
no_translation =
    says step.Space (answer.Space 0)
    ∷ says (step.Bind 0 0) (answer.Binding 0 1)
    ∷ says (step.Deliver 0) answer.Started
    ∷ says (step.Ask 0 1 16) (answer.Tag 0)
    ∷ says (step.Ask 0 1 17) (answer.Tag 1)
    ∷ says (step.Deliver 2) answer.Completion
    ∷ []

abbrev pub NoTranslationAsSent : Type 0
NoTranslationAsSent =
    AreSentInAll (config 1 1 1 0) no_translation 4 (StartMessage 1 ∷ RequestMessage 0 1 16 ∷ RequestMessage 1 1 17 ∷ CompletionMessage 1 0 false false ∷ [])

-- an unmap minds the queue of each unit that gets its descriptors, and of no other
abbrev pub full_queue_of_one_unit : List Line
full_queue_of_one_unit =
    (says step.Space (answer.Space 0)
    ∷ says step.Space (answer.Space 1)
    ∷ says step.Space (answer.Space 2)
    ∷ says step.Space (answer.Space 3)
    ∷ [])
    ++ lines 62 (λ k. says (step.Map 2 (16 + k) false) (answer.Frame k))
    ++ (says (step.Map 3 16 false) (answer.Frame 62)
    ∷ says (step.Map 3 17 false) (answer.Frame 63)
    ∷ says (step.Map 3 18 false) (answer.Frame 64)
    ∷ says (step.Bind 1 2) (answer.Binding 0 1)
    ∷ says (step.Bind 0 3) (answer.Binding 1 1)
    ∷ says (step.Unmap 2 16 48) (answer.WithheldFrames (tabulate 48 (λ k. k)))
    ∷ says (step.Unmap 2 64 14) (answer.WithheldFrames (tabulate 14 (λ k. 48 + k)))
    ∷ says (step.Unmap 3 16 1) (answer.WithheldFrames (62 ∷ []))
    ∷ says (step.Bind 1 3) (answer.Binding 2 2)
    ∷ refused (step.Unmap 3 17 1) refusal.QueueFull
    ∷ says (step.Pump 1) (answer.Itag 0)
    ∷ refused (step.Unmap 3 17 1) refusal.QueueFull
    ∷ says (step.Pump 1) (answer.Itag 1)
    ∷ says (step.Unmap 3 17 1) (answer.WithheldFrames (63 ∷ []))
    ∷ refused (step.Unmap 3 18 1) refusal.QueueFull
    ∷ says (step.Reset 1) answer.Resetting
    ∷ says (step.Unmap 3 18 1) (answer.WithheldFrames (64 ∷ []))
    ∷ [])

abbrev pub FullQueueOfOneUnit : Type 0
FullQueueOfOneUnit = IsRunBy PerEndpoint (config 2 65 1 0) full_queue_of_one_unit 0 0 65

-- a number below the first is nobody's
abbrev pub numbers_below_the_first : List Line
numbers_below_the_first =
    says step.Space (answer.Space 5)
    ∷ says (step.Map 5 16 false) (answer.Frame 0)
    ∷ refused (step.Map 4 16 false) refusal.NoSuchSpace
    ∷ refused (step.Map 4 17 false) refusal.NoSuchSpace
    ∷ refused (step.Unmap 4 16 1) refusal.NoSuchSpace
    ∷ refused (step.Bind 0 4) refusal.NoSuchSpace
    ∷ says (step.Bind 0 5) (answer.Binding 5 1)
    ∷ refused (step.Bind 0 4) refusal.NoSuchSpace
    ∷ refused (step.DropSpace 4) refusal.NoSuchSpace
    ∷ refused (step.Unbind 4) refusal.NoSuchBinding
    ∷ refused (step.Advance 4) refusal.NoSuchBinding
    ∷ refused (step.Deliver 4) refusal.NoSuchMessage
    ∷ says (step.Deliver 5) answer.Started
    ∷ []

abbrev pub NumbersBelowTheFirst : Type 0
NumbersBelowTheFirst = IsRun (config 1 2 1 5) numbers_below_the_first 1 1 0

-- a PASID is quit, and its binding goes on, whatever another PASID of the endpoint has: a request, a use, a group
abbrev pub quit_of_one_of_two : List Line
quit_of_one_of_two =
    says step.Space (answer.Space 0)
    ∷ says step.Space (answer.Space 1)
    ∷ says (step.Map 0 16 false) (answer.Frame 0)
    ∷ says (step.Bind 0 0) (answer.Binding 0 1)
    ∷ says (step.Bind 0 1) (answer.Binding 1 2)
    ∷ says (step.Deliver 0) answer.Started
    ∷ says (step.Deliver 1) answer.Started
    ∷ says (step.Ask 0 1 16) (answer.Tag 0)
    ∷ says (step.Deliver 2) answer.Completion
    ∷ says (step.Deliver 3) answer.Held
    ∷ says (step.BeginUse 0 1 16 false) (answer.Use 0 0)
    ∷ says (step.Fault 0 2 30 true false None true) (answer.Group 0)
    ∷ says (step.Fault 0 1 31 true false None false) (answer.Group 1)
    ∷ says (step.Ask 0 1 18) (answer.Tag 0)
    ∷ says (step.Unbind 1) answer.Stopping
    ∷ says (step.Deliver 7) answer.Stopping
    ∷ says (step.Quit 0 2) answer.Marker
    ∷ says (step.Deliver 4) answer.Queued
    ∷ refused (step.Deliver 8) refusal.Overtakes
    ∷ says (step.Deliver 5) answer.Queued
    ∷ says (step.Deliver 8) answer.Marked
    ∷ says (step.Serve 0) answer.Job
    ∷ says (step.Serve 0) answer.Part
    ∷ says (step.Take 0) (answer.JobTaken 1 0 1)
    ∷ says (step.Reply 0 verdict.Success) answer.Invalid
    ∷ says (step.Advance 1) answer.Draining
    ∷ says (step.Pump 0) answer.WaitDone
    ∷ says (step.Advance 1) answer.Invalidating
    -- the other in its turn
    ∷ says (step.Fault 0 1 32 true false (Some 1) true) (answer.Group 1)
    ∷ says (step.Deliver 10) answer.Queued
    ∷ says (step.Serve 0) answer.Job
    ∷ says (step.Take 0) (answer.JobTaken 0 1 2)
    ∷ says (step.Unbind 0) answer.Stopping
    ∷ says (step.Deliver 9) answer.Stale
    ∷ says (step.Deliver 11) answer.Stopping
    ∷ refused (step.Quit 0 1) refusal.Busy
    ∷ says (step.EndUse 0 0) answer.Ended
    ∷ refused (step.Quit 0 1) refusal.Busy
    ∷ says (step.Deliver 6) answer.Completion
    ∷ says (step.Deliver 12) answer.NoTranslation
    ∷ says (step.Quit 0 1) answer.Marker
    ∷ says (step.Deliver 13) answer.Marked
    ∷ says (step.Advance 0) answer.Draining
    ∷ says (step.Pump 0) (answer.Itag 0)
    ∷ says (step.Deliver 14) answer.Taken
    ∷ says (step.Finish 0 1 1) (answer.Sent 1)
    ∷ says (step.Deliver 15) (answer.Freed 1)
    ∷ says (step.Pump 0) answer.WaitDone
    ∷ says (step.Pump 0) answer.WaitDone
    ∷ refused (step.Advance 0) refusal.NotYet
    ∷ says (step.Advance 1) answer.Quiet
    ∷ says (step.Reply 0 verdict.Failure) answer.Invalid
    ∷ says (step.Advance 0) answer.Invalidating
    ∷ []

abbrev pub QuitOfOneOfTwo : Type 0
QuitOfOneOfTwo = IsRun (config 1 2 1 0) quit_of_one_of_two 1 1 0

-- the second job of an endpoint: its own requests, pages and flags, each page once; and what keeps a PASID busy by itself
abbrev pub second_job_of_an_endpoint : List Line
second_job_of_an_endpoint =
    (says step.Space (answer.Space 0)
    ∷ says step.Space (answer.Space 1)
    ∷ says (step.Map 1 16 false) (answer.Frame 0)
    ∷ says (step.Map 0 50 true) (answer.Frame 1)
    ∷ says (step.Map 1 20 true) (answer.Frame 2)
    ∷ says (step.Bind 1 1) (answer.Binding 0 1)
    ∷ says (step.Bind 1 0) (answer.Binding 1 2)
    ∷ says (step.Deliver 0) answer.Started
    ∷ says (step.Deliver 1) answer.Started
    ∷ says (step.Fault 1 2 60 true false None true) (answer.Group 0)
    ∷ says (step.Fault 1 1 30 true false None false) (answer.Group 1)
    ∷ says (step.Fault 1 1 31 false true (Some 1) false) (answer.Group 1)
    ∷ says (step.Fault 1 1 30 true false (Some 1) false) (answer.Group 1)
    ∷ says (step.Fault 1 1 20 true false (Some 1) false) (answer.Group 1)
    ∷ says (step.Fault 1 1 32 true false (Some 1) true) (answer.Group 1)
    ∷ [])
    ++ lines 6 (λ k. says (step.Deliver (2 + k)) answer.Queued)
    ++ (says (step.Serve 1) answer.Job
    ∷ [])
    ++ lines 4 (λ k. says (step.Serve 1) answer.Part)
    ++ (says (step.Serve 1) answer.Job
    ∷ says (step.Take 0) (answer.JobTaken 1 0 1)
    ∷ says (step.Take 1) (answer.JobTaken 0 1 5)
    ∷ says (step.Reply 1 verdict.Success) (answer.Success 3)
    ∷ says (step.Look 5) answer.Mapped
    ∷ says (step.Look 6) answer.Free
    ∷ says (step.Deliver 8) answer.Answered
    ∷ says (step.Ask 1 1 30) (answer.Tag 0)
    ∷ says (step.Ask 1 1 31) (answer.Tag 1)
    ∷ says (step.Ask 1 1 32) (answer.Tag 2)
    ∷ says (step.Deliver 9) answer.Completion
    ∷ says (step.Deliver 10) answer.Completion
    ∷ says (step.Deliver 11) answer.Completion
    ∷ says (step.Deliver 12) answer.Held
    ∷ says (step.Deliver 13) answer.Held
    ∷ says (step.Deliver 14) answer.Held
    ∷ refused (step.BeginUse 1 1 30 true) refusal.ReadOnly
    ∷ says (step.BeginUse 1 1 31 true) (answer.Use 0 4)
    ∷ refused (step.BeginUse 1 1 32 true) refusal.ReadOnly
    ∷ says (step.BeginUse 1 1 30 false) (answer.Use 1 3)
    ∷ says (step.BeginUse 1 1 32 false) (answer.Use 2 5)
    ∷ says (step.EndUse 1 2) answer.Ended
    ∷ says (step.EndUse 1 0) answer.Ended
    ∷ says (step.EndUse 1 1) answer.Ended
    -- a third job, which asks to write a page that is mapped read-only
    ∷ says (step.Fault 1 1 16 false true None true) (answer.Group 1)
    ∷ says (step.Deliver 15) answer.Queued
    ∷ says (step.Serve 1) answer.Job
    ∷ says (step.Take 1) (answer.JobTaken 0 1 1)
    ∷ refused (step.Reply 1 verdict.Success) refusal.BadVerdict
    ∷ says (step.Reply 1 verdict.Invalid) answer.Invalid
    ∷ says (step.Reply 0 verdict.Success) (answer.Success 1)
    ∷ says (step.Look 6) answer.Mapped
    ∷ says (step.Deliver 16) answer.Answered
    ∷ says (step.Deliver 17) answer.Answered
    -- one PASID has an unfinished group alone, the other a running use alone
    ∷ says (step.Ask 1 2 50) (answer.Tag 0)
    ∷ says (step.Deliver 18) answer.Completion
    ∷ says (step.Deliver 19) answer.Held
    ∷ says (step.BeginUse 1 2 50 true) (answer.Use 0 1)
    ∷ says (step.Fault 1 1 34 true false None false) (answer.Group 0)
    ∷ says (step.Unbind 0) answer.Stopping
    ∷ says (step.Unbind 1) answer.Stopping
    ∷ says (step.Deliver 21) answer.Stopping
    ∷ says (step.Deliver 22) answer.Stopping
    ∷ refused (step.Quit 1 1) refusal.Busy
    ∷ refused (step.Quit 1 2) refusal.Busy
    ∷ says (step.Fault 1 1 35 true false (Some 0) true) (answer.Group 0)
    ∷ says (step.Quit 1 1) answer.Marker
    ∷ says (step.EndUse 1 0) answer.Ended
    ∷ says (step.Quit 1 2) answer.Marker
    ∷ says (step.Deliver 20) answer.Queued
    ∷ says (step.Deliver 23) answer.Queued
    ∷ says (step.Deliver 24) answer.Marked
    ∷ says (step.Deliver 25) answer.Marked
    ∷ says (step.Serve 1) answer.Part
    ∷ says (step.Serve 1) answer.Job
    ∷ says (step.Advance 0) answer.Draining
    ∷ says (step.Advance 1) answer.Draining
    ∷ says (step.Pump 1) answer.WaitDone
    ∷ says (step.Pump 1) answer.WaitDone
    ∷ refused (step.Advance 0) refusal.NotYet
    ∷ says (step.Advance 1) answer.Invalidating
    ∷ says (step.Take 0) (answer.JobTaken 0 0 2)
    ∷ says (step.Reply 0 verdict.Failure) answer.Invalid
    ∷ says (step.Advance 0) answer.Invalidating
    ∷ says (step.Deliver 26) answer.Stale
    -- a third PASID has a translation request alone
    ∷ says step.Space (answer.Space 2)
    ∷ says (step.Bind 1 2) (answer.Binding 2 3)
    ∷ says (step.Deliver 27) answer.Started
    ∷ says (step.Ask 1 3 70) (answer.Tag 0)
    ∷ says (step.Unbind 2) answer.Stopping
    ∷ says (step.Deliver 29) answer.Stopping
    ∷ refused (step.Quit 1 3) refusal.Busy
    ∷ says (step.Deliver 28) answer.Completion
    ∷ says (step.Deliver 30) answer.NoTranslation
    ∷ says (step.Quit 1 3) answer.Marker
    ∷ says (step.Deliver 31) answer.Marked
    ∷ says (step.Reset 1) answer.Resetting
    ∷ refused (step.Advance 2) refusal.Resetting
    ∷ refused (step.Advance 0) refusal.Resetting
    ∷ says (step.Deliver 32) answer.Reset
    ∷ says (step.Deliver 33) answer.ResetDone
    ∷ says (step.Advance 2) answer.Released
    ∷ [])

abbrev pub SecondJobOfAnEndpoint : Type 0
SecondJobOfAnEndpoint = IsRun (config 2 8 2 0) second_job_of_an_endpoint 1 7 0

-- an advance minds the queue of its own binding's unit
abbrev pub full_queue_of_a_binding : List Line
full_queue_of_a_binding =
    (says step.Space (answer.Space 0)
    ∷ says step.Space (answer.Space 1)
    ∷ says step.Space (answer.Space 2)
    ∷ [])
    ++ lines 62 (λ k. says (step.Map 1 (16 + k) false) (answer.Frame k))
    ++ (says (step.Bind 1 0) (answer.Binding 0 1)
    ∷ says (step.Bind 1 1) (answer.Binding 1 2)
    ∷ says (step.Bind 1 2) (answer.Binding 2 3)
    ∷ says (step.Deliver 0) answer.Started
    ∷ says (step.Deliver 1) answer.Started
    ∷ says (step.Deliver 2) answer.Started
    ∷ says (step.Unbind 0) answer.Stopping
    ∷ says (step.Unbind 2) answer.Stopping
    ∷ says (step.Deliver 3) answer.Stopping
    ∷ says (step.Deliver 4) answer.Stopping
    ∷ says (step.Quit 1 1) answer.Marker
    ∷ says (step.Quit 1 3) answer.Marker
    ∷ says (step.Deliver 5) answer.Marked
    ∷ says (step.Deliver 6) answer.Marked
    ∷ says (step.Advance 0) answer.Draining
    ∷ says (step.Pump 1) answer.WaitDone
    ∷ says (step.Unmap 1 16 48) (answer.WithheldFrames (tabulate 48 (λ k. k)))
    ∷ says (step.Unmap 1 64 14) (answer.WithheldFrames (tabulate 14 (λ k. 48 + k)))
    ∷ refused (step.Advance 0) refusal.QueueFull
    ∷ refused (step.Advance 2) refusal.QueueFull
    ∷ says (step.Pump 1) (answer.Itag 0)
    ∷ refused (step.Advance 0) refusal.QueueFull
    ∷ says (step.Advance 2) answer.Draining
    ∷ says (step.Pump 1) (answer.Itag 1)
    ∷ refused (step.Advance 0) refusal.QueueFull
    ∷ says (step.Pump 1) (answer.Itag 2)
    ∷ says (step.Advance 0) answer.Invalidating
    ∷ [])

abbrev pub FullQueueOfABinding : Type 0
FullQueueOfABinding = IsRun (config 2 62 1 0) full_queue_of_a_binding 0 0 62

-- a start overtakes what isn't an order of the host; a marker and a last page request overtake what is no page request
abbrev pub past_older_messages : List Line
past_older_messages =
    says step.Space (answer.Space 0)
    ∷ says step.Space (answer.Space 1)
    ∷ says (step.Map 0 16 false) (answer.Frame 0)
    ∷ says (step.Bind 0 0) (answer.Binding 0 1)
    ∷ says (step.Deliver 0) answer.Started
    ∷ says (step.Ask 0 1 16) (answer.Tag 0)
    ∷ says (step.Ask 0 1 17) (answer.Tag 1)
    ∷ says (step.Deliver 1) answer.Completion
    ∷ says (step.Fault 0 1 30 true false None true) (answer.Group 0)
    ∷ says (step.Unmap 0 16 1) (answer.WithheldFrames (0 ∷ []))
    ∷ says (step.Pump 0) (answer.Itag 0)
    ∷ says (step.Deliver 5) answer.Taken
    ∷ says (step.Finish 0 1 1) (answer.Sent 1)
    ∷ says (step.Bind 0 1) (answer.Binding 1 2)
    ∷ says (step.Deliver 7) answer.Started  -- past two requests, a completion of each kind
    ∷ says (step.Unbind 1) answer.Stopping
    ∷ says (step.Deliver 8) answer.Stopping
    ∷ says (step.Quit 0 2) answer.Marker
    ∷ refused (step.Deliver 9) refusal.Overtakes
    ∷ says (step.Deliver 4) answer.Queued
    ∷ says (step.Deliver 9) answer.Marked
    ∷ says (step.Fault 0 1 31 true false None true) (answer.Group 1)
    ∷ says (step.Deliver 10) answer.Queued
    ∷ says (step.Deliver 3) answer.Dropped
    ∷ says (step.Deliver 6) (answer.Freed 1)
    ∷ says (step.Deliver 2) answer.Completion
    ∷ says (step.Deliver 11) answer.NoTranslation
    -- a group that awaited its response when another PASID was quit isn't stale
    ∷ says (step.Serve 0) answer.Job
    ∷ says (step.Take 0) (answer.JobTaken 0 0 1)
    ∷ says (step.Reply 0 verdict.Success) (answer.Success 1)
    ∷ says (step.Deliver 12) answer.Answered
    ∷ []

abbrev pub PastOlderMessages : Type 0
PastOlderMessages = IsRun (config 1 2 1 0) past_older_messages 0 1 1

-- a newer answer is kept in place of an older one of its page, and one entry goes by an evict
abbrev pub newer_answer_in_place : List Line
newer_answer_in_place =
    says step.Space (answer.Space 0)
    ∷ says (step.Map 0 16 true) (answer.Frame 0)
    ∷ says (step.Bind 0 0) (answer.Binding 0 1)
    ∷ says (step.Deliver 0) answer.Started
    ∷ says (step.Ask 0 1 16) (answer.Tag 0)
    ∷ says (step.Deliver 1) answer.Completion
    ∷ says (step.Deliver 2) answer.Held
    ∷ says (step.BeginUse 0 1 16 true) (answer.Use 0 0)
    ∷ says (step.Unmap 0 16 1) (answer.WithheldFrames (0 ∷ []))
    ∷ says (step.Map 0 16 false) (answer.Frame 1)
    ∷ says (step.Ask 0 1 16) (answer.Tag 0)
    ∷ says (step.Deliver 3) answer.Completion
    ∷ says (step.Deliver 4) answer.Held
    ∷ refused (step.BeginUse 0 1 16 true) refusal.ReadOnly
    ∷ says (step.BeginUse 0 1 16 false) (answer.Use 1 1)
    ∷ says (step.Evict 0 1 16) answer.Evicted
    ∷ refused (step.Evict 0 1 16) refusal.NotHeld
    ∷ says (step.EndUse 0 1) answer.Ended
    ∷ refused (step.EndUse 0 1) refusal.NoSuchUse
    ∷ says (step.EndUse 0 0) answer.Ended
    ∷ []

abbrev pub NewerAnswerInPlace : Type 0
NewerAnswerInPlace = IsRun (config 1 2 1 0) newer_answer_in_place 0 1 1

-- the second unmap at a unit: its orders are the fourth and the fifth, and its tags 0 and 1
abbrev pub second_unmap : List Line
second_unmap =
    (says step.Space (answer.Space 0)
    ∷ [])
    ++ lines 4 (λ k. says (step.Map 0 (16 + k) false) (answer.Frame k))
    ++ (says (step.Bind 0 0) (answer.Binding 0 1)
    ∷ says (step.Unmap 0 16 2) (answer.WithheldFrames (0 ∷ 1 ∷ []))
    ∷ says (step.Pump 0) (answer.Itag 0)
    ∷ says (step.Pump 0) (answer.Itag 1)
    ∷ says (step.Deliver 2) answer.Taken
    ∷ says (step.Deliver 1) answer.Taken
    ∷ says (step.Finish 0 3 1) (answer.Sent 1)
    ∷ says (step.Deliver 3) (answer.Freed 2)
    ∷ says (step.Unmap 0 18 2) (answer.WithheldFrames (2 ∷ 3 ∷ []))
    ∷ says (step.Pump 0) answer.WaitDone
    ∷ says (step.Look 0) answer.Free
    ∷ says (step.Look 2) answer.Withheld
    ∷ says (step.Pump 0) (answer.Itag 0)
    ∷ says (step.Pump 0) (answer.Itag 1)
    ∷ says (step.Deliver 5) answer.Taken
    ∷ refused (step.Finish 0 1 1) refusal.NotPending
    ∷ says (step.Finish 0 2 1) (answer.Sent 1)
    ∷ says (step.Deliver 6) (answer.Freed 1)
    ∷ says (step.Pump 0) answer.Blocked
    ∷ says (step.Deliver 4) answer.Taken
    ∷ says (step.Finish 0 1 1) (answer.Sent 1)
    ∷ says (step.Deliver 7) (answer.Freed 1)
    ∷ says (step.Look 2) answer.Withheld
    ∷ says (step.Pump 0) answer.WaitDone
    ∷ says (step.Look 2) answer.Free
    ∷ says (step.Look 3) answer.Free
    ∷ [])

abbrev pub SecondUnmap : Type 0
SecondUnmap = IsRun (config 1 4 1 0) second_unmap 4 0 0

-- an ITag comes back with the last completion that names it, and is given out again only then
abbrev pub tags_given_back : List Line
tags_given_back =
    (says step.Space (answer.Space 0)
    ∷ [])
    ++ lines 5 (λ k. says (step.Map 0 (16 + k) false) (answer.Frame k))
    ++ (says (step.Bind 0 0) (answer.Binding 0 1)
    ∷ says (step.Unmap 0 16 5) (answer.WithheldFrames (0 ∷ 1 ∷ 2 ∷ 3 ∷ 4 ∷ []))
    ∷ says (step.Pump 0) (answer.Itag 0)
    ∷ says (step.Pump 0) (answer.Itag 1)
    ∷ says (step.Deliver 1) answer.Taken
    ∷ says (step.Deliver 2) answer.Taken
    ∷ says (step.Finish 0 1 2) (answer.Sent 2)
    ∷ says (step.Deliver 3) (answer.Freed 0)
    ∷ says (step.Pump 0) (answer.Itag 2)
    ∷ says (step.Finish 0 2 1) (answer.Sent 1)
    ∷ says (step.Deliver 4) (answer.Freed 1)
    ∷ says (step.Pump 0) (answer.Itag 0)
    ∷ says (step.Pump 0) (answer.Itag 3)
    ∷ says (step.Deliver 6) (answer.Freed 1)
    ∷ says (step.Pump 0) answer.Blocked
    ∷ [])

abbrev pub TagsGivenBack : Type 0
TagsGivenBack = IsRun (config 1 5 1 0) tags_given_back 0 0 5
