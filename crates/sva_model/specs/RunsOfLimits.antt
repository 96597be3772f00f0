-- Runs that are worked out: the limits of the tables and of the numbers.
use Rattle.std.specs.Prelude.{◌+◌, true, false, List, [], ◌∷◌, ◌++◌, None}
use Rattle.sva_step.specs.declared.answers.Answer.TheVariants as answer
use Rattle.sva_step.specs.declared.refusals.Refusal.TheVariants as refusal
use Rattle.sva_step.specs.declared.steps.Step.TheVariants as step
use Rattle.sva_model.specs.Claims.{Fits}
use Rattle.sva_model.specs.Runs.{Line, says, refused, lines, IsRun, config}

-- 4097 frames are one too many: the config is refused, and there is no first step
abbrev pub FramesPastTheLimit : Type 0
FramesPastTheLimit = Fits (config 1 4097 1 0) → ⊥

-- the thirty-third translation request
abbrev pub request_tags_spent : List Line
request_tags_spent =
    (says (step.Space) (answer.Space 0)
    ∷ [])
    ++ lines 66 (λ k. says (step.Map 0 (16 + k) false) (answer.Frame k))
    ++ (says (step.Bind 0 0) (answer.Binding 0 1)
    ∷ says (step.Deliver 0) (answer.Started)
    ∷ [])
    ++ lines 32 (λ k. says (step.Ask 0 1 16) (answer.Tag k))
    ++ (refused (step.Ask 0 1 16) refusal.NoTag
    ∷ [])

abbrev pub RequestTagsSpent : Type 0
RequestTagsSpent = IsRun (config 1 80 1 0) request_tags_spent 14 66 0

-- the seventeenth use
abbrev pub use_slots_spent : List Line
use_slots_spent =
    (says (step.Space) (answer.Space 0)
    ∷ [])
    ++ lines 66 (λ k. says (step.Map 0 (16 + k) false) (answer.Frame k))
    ++ (says (step.Bind 0 0) (answer.Binding 0 1)
    ∷ says (step.Deliver 0) (answer.Started)
    ∷ says (step.Ask 0 1 16) (answer.Tag 0)
    ∷ says (step.Deliver 1) (answer.Completion)
    ∷ says (step.Deliver 2) (answer.Held)
    ∷ [])
    ++ lines 16 (λ k. says (step.BeginUse 0 1 16 false) (answer.Use k 0))
    ++ (refused (step.BeginUse 0 1 16 false) refusal.NoUseSlot
    ∷ [])

abbrev pub UseSlotsSpent : Type 0
UseSlotsSpent = IsRun (config 1 80 1 0) use_slots_spent 14 66 0

-- the sixty-fifth cached page
abbrev pub cache_full : List Line
cache_full =
    (says (step.Space) (answer.Space 0)
    ∷ [])
    ++ lines 66 (λ k. says (step.Map 0 (16 + k) false) (answer.Frame k))
    ++ (says (step.Bind 0 0) (answer.Binding 0 1)
    ∷ says (step.Deliver 0) (answer.Started)
    ∷ says (step.Ask 0 1 16) (answer.Tag 0)
    ∷ says (step.Deliver 1) (answer.Completion)
    ∷ says (step.Deliver 2) (answer.Held)
    ∷ says (step.Ask 0 1 17) (answer.Tag 0)
    ∷ says (step.Deliver 3) (answer.Completion)
    ∷ says (step.Deliver 4) (answer.Held)
    ∷ says (step.Ask 0 1 18) (answer.Tag 0)
    ∷ says (step.Deliver 5) (answer.Completion)
    ∷ says (step.Deliver 6) (answer.Held)
    ∷ says (step.Ask 0 1 19) (answer.Tag 0)
    ∷ says (step.Deliver 7) (answer.Completion)
    ∷ says (step.Deliver 8) (answer.Held)
    ∷ says (step.Ask 0 1 20) (answer.Tag 0)
    ∷ says (step.Deliver 9) (answer.Completion)
    ∷ says (step.Deliver 10) (answer.Held)
    ∷ says (step.Ask 0 1 21) (answer.Tag 0)
    ∷ says (step.Deliver 11) (answer.Completion)
    ∷ says (step.Deliver 12) (answer.Held)
    ∷ says (step.Ask 0 1 22) (answer.Tag 0)
    ∷ says (step.Deliver 13) (answer.Completion)
    ∷ says (step.Deliver 14) (answer.Held)
    ∷ says (step.Ask 0 1 23) (answer.Tag 0)
    ∷ says (step.Deliver 15) (answer.Completion)
    ∷ says (step.Deliver 16) (answer.Held)
    ∷ says (step.Ask 0 1 24) (answer.Tag 0)
    ∷ says (step.Deliver 17) (answer.Completion)
    ∷ says (step.Deliver 18) (answer.Held)
    ∷ says (step.Ask 0 1 25) (answer.Tag 0)
    ∷ says (step.Deliver 19) (answer.Completion)
    ∷ says (step.Deliver 20) (answer.Held)
    ∷ says (step.Ask 0 1 26) (answer.Tag 0)
    ∷ says (step.Deliver 21) (answer.Completion)
    ∷ says (step.Deliver 22) (answer.Held)
    ∷ says (step.Ask 0 1 27) (answer.Tag 0)
    ∷ says (step.Deliver 23) (answer.Completion)
    ∷ says (step.Deliver 24) (answer.Held)
    ∷ says (step.Ask 0 1 28) (answer.Tag 0)
    ∷ says (step.Deliver 25) (answer.Completion)
    ∷ says (step.Deliver 26) (answer.Held)
    ∷ says (step.Ask 0 1 29) (answer.Tag 0)
    ∷ says (step.Deliver 27) (answer.Completion)
    ∷ says (step.Deliver 28) (answer.Held)
    ∷ says (step.Ask 0 1 30) (answer.Tag 0)
    ∷ says (step.Deliver 29) (answer.Completion)
    ∷ says (step.Deliver 30) (answer.Held)
    ∷ says (step.Ask 0 1 31) (answer.Tag 0)
    ∷ says (step.Deliver 31) (answer.Completion)
    ∷ says (step.Deliver 32) (answer.Held)
    ∷ says (step.Ask 0 1 32) (answer.Tag 0)
    ∷ says (step.Deliver 33) (answer.Completion)
    ∷ says (step.Deliver 34) (answer.Held)
    ∷ says (step.Ask 0 1 33) (answer.Tag 0)
    ∷ says (step.Deliver 35) (answer.Completion)
    ∷ says (step.Deliver 36) (answer.Held)
    ∷ says (step.Ask 0 1 34) (answer.Tag 0)
    ∷ says (step.Deliver 37) (answer.Completion)
    ∷ says (step.Deliver 38) (answer.Held)
    ∷ says (step.Ask 0 1 35) (answer.Tag 0)
    ∷ says (step.Deliver 39) (answer.Completion)
    ∷ says (step.Deliver 40) (answer.Held)
    ∷ says (step.Ask 0 1 36) (answer.Tag 0)
    ∷ says (step.Deliver 41) (answer.Completion)
    ∷ says (step.Deliver 42) (answer.Held)
    ∷ says (step.Ask 0 1 37) (answer.Tag 0)
    ∷ says (step.Deliver 43) (answer.Completion)
    ∷ says (step.Deliver 44) (answer.Held)
    ∷ says (step.Ask 0 1 38) (answer.Tag 0)
    ∷ says (step.Deliver 45) (answer.Completion)
    ∷ says (step.Deliver 46) (answer.Held)
    ∷ says (step.Ask 0 1 39) (answer.Tag 0)
    ∷ says (step.Deliver 47) (answer.Completion)
    ∷ says (step.Deliver 48) (answer.Held)
    ∷ says (step.Ask 0 1 40) (answer.Tag 0)
    ∷ says (step.Deliver 49) (answer.Completion)
    ∷ says (step.Deliver 50) (answer.Held)
    ∷ says (step.Ask 0 1 41) (answer.Tag 0)
    ∷ says (step.Deliver 51) (answer.Completion)
    ∷ says (step.Deliver 52) (answer.Held)
    ∷ says (step.Ask 0 1 42) (answer.Tag 0)
    ∷ says (step.Deliver 53) (answer.Completion)
    ∷ says (step.Deliver 54) (answer.Held)
    ∷ says (step.Ask 0 1 43) (answer.Tag 0)
    ∷ says (step.Deliver 55) (answer.Completion)
    ∷ says (step.Deliver 56) (answer.Held)
    ∷ says (step.Ask 0 1 44) (answer.Tag 0)
    ∷ says (step.Deliver 57) (answer.Completion)
    ∷ says (step.Deliver 58) (answer.Held)
    ∷ says (step.Ask 0 1 45) (answer.Tag 0)
    ∷ says (step.Deliver 59) (answer.Completion)
    ∷ says (step.Deliver 60) (answer.Held)
    ∷ says (step.Ask 0 1 46) (answer.Tag 0)
    ∷ says (step.Deliver 61) (answer.Completion)
    ∷ says (step.Deliver 62) (answer.Held)
    ∷ says (step.Ask 0 1 47) (answer.Tag 0)
    ∷ says (step.Deliver 63) (answer.Completion)
    ∷ says (step.Deliver 64) (answer.Held)
    ∷ says (step.Ask 0 1 48) (answer.Tag 0)
    ∷ says (step.Deliver 65) (answer.Completion)
    ∷ says (step.Deliver 66) (answer.Held)
    ∷ says (step.Ask 0 1 49) (answer.Tag 0)
    ∷ says (step.Deliver 67) (answer.Completion)
    ∷ says (step.Deliver 68) (answer.Held)
    ∷ says (step.Ask 0 1 50) (answer.Tag 0)
    ∷ says (step.Deliver 69) (answer.Completion)
    ∷ says (step.Deliver 70) (answer.Held)
    ∷ says (step.Ask 0 1 51) (answer.Tag 0)
    ∷ says (step.Deliver 71) (answer.Completion)
    ∷ says (step.Deliver 72) (answer.Held)
    ∷ says (step.Ask 0 1 52) (answer.Tag 0)
    ∷ says (step.Deliver 73) (answer.Completion)
    ∷ says (step.Deliver 74) (answer.Held)
    ∷ says (step.Ask 0 1 53) (answer.Tag 0)
    ∷ says (step.Deliver 75) (answer.Completion)
    ∷ says (step.Deliver 76) (answer.Held)
    ∷ says (step.Ask 0 1 54) (answer.Tag 0)
    ∷ says (step.Deliver 77) (answer.Completion)
    ∷ says (step.Deliver 78) (answer.Held)
    ∷ says (step.Ask 0 1 55) (answer.Tag 0)
    ∷ says (step.Deliver 79) (answer.Completion)
    ∷ says (step.Deliver 80) (answer.Held)
    ∷ says (step.Ask 0 1 56) (answer.Tag 0)
    ∷ says (step.Deliver 81) (answer.Completion)
    ∷ says (step.Deliver 82) (answer.Held)
    ∷ says (step.Ask 0 1 57) (answer.Tag 0)
    ∷ says (step.Deliver 83) (answer.Completion)
    ∷ says (step.Deliver 84) (answer.Held)
    ∷ says (step.Ask 0 1 58) (answer.Tag 0)
    ∷ says (step.Deliver 85) (answer.Completion)
    ∷ says (step.Deliver 86) (answer.Held)
    ∷ says (step.Ask 0 1 59) (answer.Tag 0)
    ∷ says (step.Deliver 87) (answer.Completion)
    ∷ says (step.Deliver 88) (answer.Held)
    ∷ says (step.Ask 0 1 60) (answer.Tag 0)
    ∷ says (step.Deliver 89) (answer.Completion)
    ∷ says (step.Deliver 90) (answer.Held)
    ∷ says (step.Ask 0 1 61) (answer.Tag 0)
    ∷ says (step.Deliver 91) (answer.Completion)
    ∷ says (step.Deliver 92) (answer.Held)
    ∷ says (step.Ask 0 1 62) (answer.Tag 0)
    ∷ says (step.Deliver 93) (answer.Completion)
    ∷ says (step.Deliver 94) (answer.Held)
    ∷ says (step.Ask 0 1 63) (answer.Tag 0)
    ∷ says (step.Deliver 95) (answer.Completion)
    ∷ says (step.Deliver 96) (answer.Held)
    ∷ says (step.Ask 0 1 64) (answer.Tag 0)
    ∷ says (step.Deliver 97) (answer.Completion)
    ∷ says (step.Deliver 98) (answer.Held)
    ∷ says (step.Ask 0 1 65) (answer.Tag 0)
    ∷ says (step.Deliver 99) (answer.Completion)
    ∷ says (step.Deliver 100) (answer.Held)
    ∷ says (step.Ask 0 1 66) (answer.Tag 0)
    ∷ says (step.Deliver 101) (answer.Completion)
    ∷ says (step.Deliver 102) (answer.Held)
    ∷ says (step.Ask 0 1 67) (answer.Tag 0)
    ∷ says (step.Deliver 103) (answer.Completion)
    ∷ says (step.Deliver 104) (answer.Held)
    ∷ says (step.Ask 0 1 68) (answer.Tag 0)
    ∷ says (step.Deliver 105) (answer.Completion)
    ∷ says (step.Deliver 106) (answer.Held)
    ∷ says (step.Ask 0 1 69) (answer.Tag 0)
    ∷ says (step.Deliver 107) (answer.Completion)
    ∷ says (step.Deliver 108) (answer.Held)
    ∷ says (step.Ask 0 1 70) (answer.Tag 0)
    ∷ says (step.Deliver 109) (answer.Completion)
    ∷ says (step.Deliver 110) (answer.Held)
    ∷ says (step.Ask 0 1 71) (answer.Tag 0)
    ∷ says (step.Deliver 111) (answer.Completion)
    ∷ says (step.Deliver 112) (answer.Held)
    ∷ says (step.Ask 0 1 72) (answer.Tag 0)
    ∷ says (step.Deliver 113) (answer.Completion)
    ∷ says (step.Deliver 114) (answer.Held)
    ∷ says (step.Ask 0 1 73) (answer.Tag 0)
    ∷ says (step.Deliver 115) (answer.Completion)
    ∷ says (step.Deliver 116) (answer.Held)
    ∷ says (step.Ask 0 1 74) (answer.Tag 0)
    ∷ says (step.Deliver 117) (answer.Completion)
    ∷ says (step.Deliver 118) (answer.Held)
    ∷ says (step.Ask 0 1 75) (answer.Tag 0)
    ∷ says (step.Deliver 119) (answer.Completion)
    ∷ says (step.Deliver 120) (answer.Held)
    ∷ says (step.Ask 0 1 76) (answer.Tag 0)
    ∷ says (step.Deliver 121) (answer.Completion)
    ∷ says (step.Deliver 122) (answer.Held)
    ∷ says (step.Ask 0 1 77) (answer.Tag 0)
    ∷ says (step.Deliver 123) (answer.Completion)
    ∷ says (step.Deliver 124) (answer.Held)
    ∷ says (step.Ask 0 1 78) (answer.Tag 0)
    ∷ says (step.Deliver 125) (answer.Completion)
    ∷ says (step.Deliver 126) (answer.Held)
    ∷ says (step.Ask 0 1 79) (answer.Tag 0)
    ∷ says (step.Deliver 127) (answer.Completion)
    ∷ says (step.Deliver 128) (answer.Held)
    ∷ says (step.Ask 0 1 80) (answer.Tag 0)
    ∷ says (step.Deliver 129) (answer.Completion)
    ∷ says (step.Deliver 130) (answer.Full)
    ∷ refused (step.BeginUse 0 1 80 false) refusal.NotHeld
    ∷ says (step.Ask 0 1 20) (answer.Tag 0)
    ∷ says (step.Deliver 131) (answer.Completion)
    ∷ says (step.Deliver 132) (answer.Held)
    ∷ says (step.BeginUse 0 1 20 false) (answer.Use 0 4)
    ∷ [])

abbrev pub CacheFull : Type 0
CacheFull = IsRun (config 1 80 1 0) cache_full 14 66 0

-- the thirty-third binding at an endpoint
abbrev pub pasids_spent : List Line
pasids_spent =
    lines 33 (λ k. says (step.Space) (answer.Space k))
    ++ lines 32 (λ k. says (step.Bind 0 k) (answer.Binding k (1 + k)))
    ++ (refused (step.Bind 0 32) refusal.NoPasid
    ∷ [])

abbrev pub PasidsSpent : Type 0
PasidsSpent = IsRun (config 1 4 1 0) pasids_spent 4 0 0

-- the greatest page number
abbrev pub page_numbers : List Line
page_numbers =
    says (step.Space) (answer.Space 0)
    ∷ refused (step.Map 0 68719476736 false) refusal.PageRange
    ∷ says (step.Map 0 68719476735 false) (answer.Frame 0)
    ∷ []

abbrev pub PageNumbers : Type 0
PageNumbers = IsRun (config 1 4 1 0) page_numbers 3 1 0

-- the thirty-third page request
abbrev pub page_requests_spent : List Line
page_requests_spent =
    (says (step.Space) (answer.Space 0)
    ∷ says (step.Bind 0 0) (answer.Binding 0 1)
    ∷ says (step.Deliver 0) (answer.Started)
    ∷ [])
    ++ lines 32 (λ k. says (step.Fault 0 1 32 true false None true) (answer.Group k))
    ++ (refused (step.Fault 0 1 32 true false None true) refusal.NoCredit
    ∷ [])

abbrev pub PageRequestsSpent : Type 0
PageRequestsSpent = IsRun (config 1 4 1 0) page_requests_spent 4 0 0

-- an invalidation queue that is full
abbrev pub queue_of_sixty_four : List Line
queue_of_sixty_four =
    (says (step.Space) (answer.Space 0)
    ∷ [])
    ++ lines 63 (λ k. says (step.Map 0 (16 + k) false) (answer.Frame k))
    ++ (says (step.Bind 0 0) (answer.Binding 0 1)
    ∷ says (step.Unmap 0 16 48)
    (answer.WithheldFrames (0 ∷ 1 ∷ 2 ∷ 3 ∷ 4 ∷ 5 ∷ 6 ∷ 7 ∷ 8 ∷ 9 ∷ 10 ∷ 11 ∷ 12 ∷ 13 ∷ 14 ∷ 15 ∷ 16 ∷ 17 ∷ 18 ∷ 19 ∷ 20 ∷ 21 ∷ 22 ∷ 23 ∷ 24 ∷ 25
    ∷ 26 ∷ 27 ∷ 28 ∷ 29 ∷ 30 ∷ 31 ∷ 32 ∷ 33 ∷ 34 ∷ 35 ∷ 36 ∷ 37 ∷ 38 ∷ 39 ∷ 40 ∷ 41 ∷ 42 ∷ 43 ∷ 44 ∷ 45 ∷ 46 ∷ 47 ∷ []))
    ∷ says (step.Unmap 0 64 14) (answer.WithheldFrames (48 ∷ 49 ∷ 50 ∷ 51 ∷ 52 ∷ 53 ∷ 54 ∷ 55 ∷ 56 ∷ 57 ∷ 58 ∷ 59 ∷ 60 ∷ 61 ∷ []))
    ∷ refused (step.Unmap 0 78 1) refusal.QueueFull
    ∷ [])

abbrev pub QueueOfSixtyFour : Type 0
QueueOfSixtyFour = IsRun (config 1 63 1 0) queue_of_sixty_four 0 1 62

-- the sixty-fifth space
abbrev pub spaces_spent : List Line
spaces_spent =
    lines 64 (λ k. says (step.Space) (answer.Space k))
    ++ (refused (step.Space) refusal.TooManySpaces
    ∷ [])

abbrev pub SpacesSpent : Type 0
SpacesSpent = IsRun (config 1 4 1 0) spaces_spent 4 0 0

-- the forty-ninth page of an unmap
abbrev pub pages_of_an_unmap : List Line
pages_of_an_unmap =
    says (step.Space) (answer.Space 0)
    ∷ refused (step.Unmap 0 16 49) refusal.BadCount
    ∷ []

abbrev pub PagesOfAnUnmap : Type 0
PagesOfAnUnmap = IsRun (config 1 4 1 0) pages_of_an_unmap 4 0 0

-- the last number
abbrev pub numbers_spent_at_the_end : List Line
numbers_spent_at_the_end =
    says (step.Space) (answer.Space 9223372036854775807)
    ∷ refused (step.Space) refusal.NumbersSpent
    ∷ []

abbrev pub NumbersSpentAtTheEnd : Type 0
NumbersSpentAtTheEnd = IsRun (config 1 4 1 9223372036854775807) numbers_spent_at_the_end 4 0 0
