-- Runs in which a step leaves alone what stands beside what it changes: other pages, other PASIDs, what was noted or
-- answered before. And what a host keeps after such runs.
use Rattle.std.specs.Prelude.{◌≡◌, ◌+◌, Bool, true, false, Some, None, List, [], ◌∷◌, ◌++◌, replicate, map}
use Rattle.sva_step.specs.declared.answers.Answer.TheVariants as answer
use Rattle.sva_step.specs.declared.steps.Step.TheVariants as step
use Rattle.sva_step.specs.declared.steps.Verdict.TheVariants as verdict
use Rattle.sva_model.specs.Message.Code.{InvalidCode}
use Rattle.sva_model.specs.Message.Message.{ResponseMessage, PageRequestMessage}
use Rattle.sva_model.specs.Runs.{Line, says, IsRun, config, lines}
use Rattle.sva_model.specs.LinkOrder.{MessageKind, stays_behind}
use Rattle.sva_model.specs.LinkOrder.MessageKind.{StartKind, StopKind, ResetKind, CompletionKind, InvalidateKind, ResponseKind, RequestKind, InvalidatedKind}
use Rattle.sva_model.specs.LinkOrder.MessageKind.{PageRequestKind, MarkerKind, ResetDoneKind}
use Rattle.sva_model.specs.RunsOfWire.{kept_after}
use Rattle.sva_model.specs.States.Extent.{Pages}
use Rattle.sva_model.specs.Wire.{EndpointWire}
use Rattle.sva_model.specs.Wire.PlaceWire.{WithheldWire}
use Rattle.sva_model.specs.Wire.TargetWire.{Cookie, ResetEnd}

-- two PASIDs cache the same page, and each uses its own
abbrev pub same_page_of_two_pasids : List Line
same_page_of_two_pasids =
    says step.Space (answer.Space 0)
    ∷ says step.Space (answer.Space 1)
    ∷ says (step.Map 0 16 true) (answer.Frame 0)
    ∷ says (step.Map 1 16 true) (answer.Frame 1)
    ∷ says (step.Bind 0 0) (answer.Binding 0 1)
    ∷ says (step.Bind 0 1) (answer.Binding 1 2)
    ∷ says (step.Deliver 0) answer.Started
    ∷ says (step.Deliver 1) answer.Started
    ∷ says (step.Ask 0 1 16) (answer.Tag 0)
    ∷ says (step.Ask 0 2 16) (answer.Tag 1)
    ∷ says (step.Deliver 2) answer.Completion
    ∷ says (step.Deliver 3) answer.Completion
    ∷ says (step.Deliver 4) answer.Held
    ∷ says (step.Deliver 5) answer.Held
    ∷ says (step.BeginUse 0 1 16 true) (answer.Use 0 0)
    ∷ says (step.BeginUse 0 2 16 true) (answer.Use 1 1)
    ∷ []

abbrev pub SamePageOfTwoPasids : Type 0
SamePageOfTwoPasids = IsRun (config 1 2 1 0) same_page_of_two_pasids 0 2 0

-- a page is evicted: another page of the PASID stays, and so does a request that is out for the page itself
abbrev pub evict_of_one_page : List Line
evict_of_one_page =
    says step.Space (answer.Space 0)
    ∷ says (step.Map 0 16 true) (answer.Frame 0)
    ∷ says (step.Map 0 17 true) (answer.Frame 1)
    ∷ says (step.Bind 0 0) (answer.Binding 0 1)
    ∷ says (step.Deliver 0) answer.Started
    ∷ says (step.Ask 0 1 16) (answer.Tag 0)
    ∷ says (step.Ask 0 1 17) (answer.Tag 1)
    ∷ says (step.Deliver 1) answer.Completion
    ∷ says (step.Deliver 2) answer.Completion
    ∷ says (step.Deliver 3) answer.Held
    ∷ says (step.Deliver 4) answer.Held
    ∷ says (step.Evict 0 1 17) answer.Evicted
    ∷ says (step.BeginUse 0 1 16 true) (answer.Use 0 0)
    ∷ says (step.Ask 0 1 16) (answer.Tag 0)
    ∷ says (step.Deliver 5) answer.Completion
    ∷ says (step.Evict 0 1 16) answer.Evicted
    ∷ says (step.Deliver 6) answer.Held
    ∷ says (step.BeginUse 0 1 16 true) (answer.Use 1 0)
    ∷ []

abbrev pub EvictOfOnePage : Type 0
EvictOfOnePage = IsRun (config 1 2 1 0) evict_of_one_page 0 2 0

-- an answer that brings no translation leaves the older one of its page
abbrev pub no_translation_beside_an_older : List Line
no_translation_beside_an_older =
    says step.Space (answer.Space 0)
    ∷ says (step.Map 0 16 true) (answer.Frame 0)
    ∷ says (step.Bind 0 0) (answer.Binding 0 1)
    ∷ says (step.Deliver 0) answer.Started
    ∷ says (step.Ask 0 1 16) (answer.Tag 0)
    ∷ says (step.Deliver 1) answer.Completion
    ∷ says (step.Deliver 2) answer.Held
    ∷ says (step.Unmap 0 16 1) (answer.WithheldFrames (0 ∷ []))
    ∷ says (step.Ask 0 1 16) (answer.Tag 0)
    ∷ says (step.Deliver 3) answer.Completion
    ∷ says (step.Deliver 4) answer.NoTranslation
    ∷ says (step.BeginUse 0 1 16 true) (answer.Use 0 0)
    ∷ []

abbrev pub NoTranslationBesideAnOlder : Type 0
NoTranslationBesideAnOlder = IsRun (config 1 1 1 0) no_translation_beside_an_older 0 0 1

-- the cache is full of the translations of two PASIDs
abbrev pub cache_full_of_two : List Line
cache_full_of_two =
    says step.Space (answer.Space 0)
    ∷ says step.Space (answer.Space 1)
    ∷ lines 32 (λ k. says (step.Map 0 (16 + k) false) (answer.Frame k))
    ++ lines 33 (λ k. says (step.Map 1 (16 + k) false) (answer.Frame (32 + k)))
    ++ (says (step.Bind 0 0) (answer.Binding 0 1)
    ∷ says (step.Bind 0 1) (answer.Binding 1 2)
    ∷ says (step.Deliver 0) answer.Started
    ∷ says (step.Deliver 1) answer.Started
    ∷ [])
    ++ lines 32 (λ k. says (step.Ask 0 1 (16 + k)) (answer.Tag k))
    ++ lines 32 (λ k. says (step.Deliver (2 + k)) answer.Completion)
    ++ lines 32 (λ k. says (step.Deliver (34 + k)) answer.Held)
    ++ lines 32 (λ k. says (step.Ask 0 2 (16 + k)) (answer.Tag k))
    ++ lines 32 (λ k. says (step.Deliver (66 + k)) answer.Completion)
    ++ lines 32 (λ k. says (step.Deliver (98 + k)) answer.Held)
    ++ (says (step.Ask 0 2 48) (answer.Tag 0)
    ∷ says (step.Deliver 130) answer.Completion
    ∷ says (step.Deliver 131) answer.Full
    ∷ [])

abbrev pub CacheFullOfTwo : Type 0
CacheFullOfTwo = IsRun (config 1 65 1 0) cache_full_of_two 0 65 0

-- the answer to a doomed request comes beside a newer translation of its page: it is dropped, and the newer one stays
abbrev pub doomed_answer_beside_a_newer : List Line
doomed_answer_beside_a_newer =
    says step.Space (answer.Space 0)
    ∷ says (step.Map 0 16 true) (answer.Frame 0)
    ∷ says (step.Bind 0 0) (answer.Binding 0 1)
    ∷ says (step.Deliver 0) answer.Started
    ∷ says (step.Ask 0 1 16) (answer.Tag 0)
    ∷ says (step.Deliver 1) answer.Completion
    ∷ says (step.Unmap 0 16 1) (answer.WithheldFrames (0 ∷ []))
    ∷ says (step.Pump 0) (answer.Itag 0)
    ∷ says (step.Deliver 3) answer.Taken
    ∷ says (step.Map 0 16 true) (answer.Frame 1)
    ∷ says (step.Ask 0 1 16) (answer.Tag 1)
    ∷ says (step.Deliver 4) answer.Completion
    ∷ says (step.Deliver 5) answer.Held
    ∷ says (step.Deliver 2) answer.Dropped
    ∷ says (step.BeginUse 0 1 16 true) (answer.Use 0 1)
    ∷ says (step.Ask 0 1 16) (answer.Tag 0)
    ∷ []

abbrev pub DoomedAnswerBesideANewer : Type 0
DoomedAnswerBesideANewer = IsRun (config 1 2 1 0) doomed_answer_beside_a_newer 0 1 1

-- two pages of a binding whose PASID is invalidated are unmapped: the first waits for that invalidation, and the second, as its
-- unit is in reset then, for the end of the reset
abbrev pub unmapped_while_invalidating : List Line
unmapped_while_invalidating =
    says step.Space (answer.Space 0)
    ∷ says (step.Map 0 16 true) (answer.Frame 0)
    ∷ says (step.Map 0 17 true) (answer.Frame 1)
    ∷ says (step.Bind 0 0) (answer.Binding 0 1)
    ∷ says (step.Deliver 0) answer.Started
    ∷ says (step.Unbind 0) answer.Stopping
    ∷ says (step.Deliver 1) answer.Stopping
    ∷ says (step.Quit 0 1) answer.Marker
    ∷ says (step.Deliver 2) answer.Marked
    ∷ says (step.Advance 0) answer.Draining
    ∷ says (step.Pump 0) answer.WaitDone
    ∷ says (step.Advance 0) answer.Invalidating
    ∷ says (step.Unmap 0 16 1) (answer.WithheldFrames (0 ∷ []))
    ∷ says (step.Reset 0) answer.Resetting
    ∷ says (step.Unmap 0 17 1) (answer.WithheldFrames (1 ∷ []))
    ∷ []

abbrev pub UnmappedWhileInvalidating : Type 0
UnmappedWhileInvalidating =
    (kept_after (config 1 2 1 0) unmapped_while_invalidating).places
    ≡ WithheldWire (Some (Cookie 1) ∷ replicate 7 None) ∷ WithheldWire (Some ResetEnd ∷ replicate 7 None) ∷ []

-- a frame waits at two endpoints, and the first has answered
abbrev pub one_of_two_answered : List Line
one_of_two_answered =
    says step.Space (answer.Space 0)
    ∷ says (step.Map 0 16 true) (answer.Frame 0)
    ∷ says (step.Bind 0 0) (answer.Binding 0 1)
    ∷ says (step.Bind 1 0) (answer.Binding 1 1)
    ∷ says (step.Deliver 0) answer.Started
    ∷ says (step.Deliver 1) answer.Started
    ∷ says (step.Unmap 0 16 1) (answer.WithheldFrames (0 ∷ []))
    ∷ says (step.Pump 0) (answer.Itag 0)
    ∷ says (step.Deliver 2) answer.Taken
    ∷ says (step.Finish 0 1 1) (answer.Sent 1)
    ∷ says (step.Deliver 3) (answer.Freed 1)
    ∷ says (step.Pump 0) answer.WaitDone
    ∷ []

abbrev pub OneOfTwoAnswered : Type 0
OneOfTwoAnswered =
    (kept_after (config 2 1 1 0) one_of_two_answered).places ≡ WithheldWire (None ∷ Some (Cookie 1) ∷ replicate 6 None) ∷ []

-- a use that begins behind an invalidation which the endpoint has taken isn't noted by it
abbrev pub use_behind_an_invalidation : List Line
use_behind_an_invalidation =
    says step.Space (answer.Space 0)
    ∷ says (step.Map 0 16 true) (answer.Frame 0)
    ∷ says (step.Bind 0 0) (answer.Binding 0 1)
    ∷ says (step.Deliver 0) answer.Started
    ∷ says (step.Unmap 0 16 1) (answer.WithheldFrames (0 ∷ []))
    ∷ says (step.Pump 0) (answer.Itag 0)
    ∷ says (step.Deliver 1) answer.Taken
    ∷ says (step.Map 0 16 true) (answer.Frame 1)
    ∷ says (step.Ask 0 1 16) (answer.Tag 0)
    ∷ says (step.Deliver 2) answer.Completion
    ∷ says (step.Deliver 3) answer.Held
    ∷ says (step.BeginUse 0 1 16 true) (answer.Use 0 1)
    ∷ []

abbrev pub UseBehindAnInvalidation : Type 0
UseBehindAnInvalidation =
    map (λ (part : EndpointWire). part.device.taken) (kept_after (config 1 2 1 0) use_behind_an_invalidation).parts
    ≡ (Some (record { pasid = 1; extent = Pages (record { base = 16; order = 0 }); slots = replicate 16 false }) ∷ replicate 31 None) ∷ []

-- what two PASIDs cache is kept by PASID, and then by page
abbrev pub cached_by_pasid : List Line
cached_by_pasid =
    says step.Space (answer.Space 0)
    ∷ says step.Space (answer.Space 1)
    ∷ says (step.Map 0 17 true) (answer.Frame 0)
    ∷ says (step.Map 1 16 true) (answer.Frame 1)
    ∷ says (step.Bind 0 0) (answer.Binding 0 1)
    ∷ says (step.Bind 0 1) (answer.Binding 1 2)
    ∷ says (step.Deliver 0) answer.Started
    ∷ says (step.Deliver 1) answer.Started
    ∷ says (step.Ask 0 2 16) (answer.Tag 0)
    ∷ says (step.Ask 0 1 17) (answer.Tag 1)
    ∷ says (step.Deliver 2) answer.Completion
    ∷ says (step.Deliver 3) answer.Completion
    ∷ says (step.Deliver 4) answer.Held
    ∷ says (step.Deliver 5) answer.Held
    ∷ []

abbrev pub CachedByPasid : Type 0
CachedByPasid =
    map (λ (part : EndpointWire). part.device.cache) (kept_after (config 1 2 1 0) cached_by_pasid).parts
    ≡ (record { pasid = 1; page = 17; frame = 0; write = true } ∷ record { pasid = 2; page = 16; frame = 1; write = true } ∷ []) ∷ []

-- a group of which the host has filed one request, and not the last
abbrev pub group_filed_in_part : List Line
group_filed_in_part =
    says step.Space (answer.Space 0)
    ∷ says (step.Bind 0 0) (answer.Binding 0 1)
    ∷ says (step.Deliver 0) answer.Started
    ∷ says (step.Fault 0 1 32 true false None false) (answer.Group 0)
    ∷ says (step.Deliver 1) answer.Queued
    ∷ says (step.Serve 0) answer.Part
    ∷ []

abbrev pub GroupFiledInPart : Type 0
GroupFiledInPart =
    map (λ (part : EndpointWire). part.host_groups) (kept_after (config 1 1 1 0) group_filed_in_part).parts
    ≡ (record { binding = 0; index = 0; asks = record { page = 32; read = true; write = false } ∷ []; is_whole = false } ∷ []) ∷ []

-- the second group of an index: its page requests carry the index, and so does its response
abbrev pub second_group_of_an_index : List Line
second_group_of_an_index =
    says step.Space (answer.Space 0)
    ∷ says (step.Bind 0 0) (answer.Binding 0 1)
    ∷ says (step.Deliver 0) answer.Started
    ∷ says (step.Fault 0 1 32 true false None true) (answer.Group 0)
    ∷ says (step.Deliver 1) answer.Queued
    ∷ says (step.Serve 0) answer.Job
    ∷ says (step.Take 0) (answer.JobTaken 0 0 1)
    ∷ says (step.Reply 0 verdict.Invalid) answer.Invalid
    ∷ says (step.Deliver 2) answer.Answered
    ∷ says (step.Fault 0 1 33 true false None false) (answer.Group 0)
    ∷ says (step.Fault 0 1 34 true false (Some 0) true) (answer.Group 0)
    ∷ []

-- and then: its page requests are filed, and it is answered
abbrev pub its_response : List Line
its_response =
    says (step.Deliver 3) answer.Queued
    ∷ says (step.Deliver 4) answer.Queued
    ∷ says (step.Serve 0) answer.Part
    ∷ says (step.Serve 0) answer.Job
    ∷ says (step.Take 0) (answer.JobTaken 0 0 2)
    ∷ says (step.Reply 0 verdict.Invalid) answer.Invalid
    ∷ []

abbrev pub SecondGroupOfAnIndex : Type 0
SecondGroupOfAnIndex =
    ((kept_after (config 1 1 1 0) second_group_of_an_index).in_flight
    ≡ record { number = 3; endpoint = 0; message = PageRequestMessage 1 0 33 true false false }
    ∷ record { number = 4; endpoint = 0; message = PageRequestMessage 1 0 34 true false true }
    ∷ [])
    × ((kept_after (config 1 1 1 0) (second_group_of_an_index ++ its_response)).in_flight
    ≡ record { number = 5; endpoint = 0; message = ResponseMessage 1 0 InvalidCode } ∷ [])

-- The order of the link, each sort of message against each older one: what goes down but completions, what goes up, and last ones
-- among the page requests.
abbrev pub kinds : List MessageKind
kinds =
    StartKind
    ∷ StopKind
    ∷ ResetKind
    ∷ InvalidateKind
    ∷ ResponseKind
    ∷ CompletionKind
    ∷ RequestKind
    ∷ InvalidatedKind
    ∷ PageRequestKind false
    ∷ PageRequestKind true
    ∷ MarkerKind
    ∷ ResetDoneKind
    ∷ []

-- behind what goes down but completions, and behind nothing else
abbrev pub behind_orders_down : List Bool
behind_orders_down = replicate 5 true ++ replicate 7 false

-- behind page requests, the last of a group or not, and behind nothing else
abbrev pub behind_page_requests : List Bool
behind_page_requests = replicate 8 false ++ replicate 2 true ++ replicate 2 false

-- the Start, the Stop and the Reset; what overtakes anything; the last page request and the marker; and the reset-done
abbrev pub NothingElseIsOrdered : Type 0
NothingElseIsOrdered =
    map (λ newer. map (stays_behind newer) kinds) kinds
    ≡ replicate 3 behind_orders_down ++ replicate 6 (replicate 12 false) ++ replicate 2 behind_page_requests ++ replicate 12 true ∷ []
