-- Listings that are worked out by hand, each of what a host keeps after a run.
use Rattle.std.specs.Prelude.{◌≡◌, ℕ, true, false, List, [], ◌∷◌, ◌++◌, Some, None, codes, flat_map}
use Rattle.sva_step.specs.declared.answers.Answer.TheVariants as answer
use Rattle.sva_step.specs.declared.limits.Config.{Config}
use Rattle.sva_step.specs.declared.steps.Step.TheVariants as step
use Rattle.sva_step.specs.declared.steps.Verdict.TheVariants as verdict
use Rattle.sva_model.specs.Runs.{Line, says, config}
use Rattle.sva_model.specs.RunsOfWire.{kept_after, drained, groups_under_way, invalidations_under_way, ranges_queued, two_targets}
use Rattle.sva_lines.specs.Listing.{listing_of}

-- the lines as a text
abbrev pub text_of : List (List ℕ) → List ℕ
text_of lines = flat_map (λ line. line ++ 10 ∷ []) lines

-- after the run the listing has these lines
abbrev pub Lists : Config → List Line → (lines : List (List ℕ)) → Type 0
Lists limits run lines = listing_of (kept_after limits run) ≡ text_of lines

-- four pages are mapped, and the space is bound; then one page is unmapped
abbrev pub pages_mapped : List Line
pages_mapped =
    says step.Space (answer.Space 0)
    ∷ says (step.Map 0 16 true) (answer.Frame 0)
    ∷ says (step.Map 0 17 true) (answer.Frame 1)
    ∷ says (step.Map 0 64 false) (answer.Frame 2)
    ∷ says (step.Map 0 66 false) (answer.Frame 3)
    ∷ says (step.Bind 0 0) (answer.Binding 0 1)
    ∷ []

abbrev pub PagesMapped : Type 0
PagesMapped =
    Lists (config 1 6 1 0) pages_mapped
    (codes "space 0     page 16 frame 0 w"
    ∷ codes "space 0     page 17 frame 1 w"
    ∷ codes "space 0     page 64 frame 2"
    ∷ codes "space 0     page 66 frame 3"
    ∷ codes "binding 0   endpoint 0 space 0 pasid 1 live"
    ∷ codes "unit 0      open, waits done below 0"
    ∷ codes "message 0   endpoint 0 start pasid 1, may be delivered"
    ∷ codes "frames      free 2 mapped 4 withheld 0"
    ∷ [])

abbrev pub PageUnmapped : Type 0
PageUnmapped =
    Lists (config 1 6 1 0) (pages_mapped ++ says (step.Unmap 0 16 1) (answer.WithheldFrames (0 ∷ [])) ∷ [])
    (codes "space 0     page 17 frame 1 w"
    ∷ codes "space 0     page 64 frame 2"
    ∷ codes "space 0     page 66 frame 3"
    ∷ codes "frame 0     withheld: unit 0 wait 0"
    ∷ codes "binding 0   endpoint 0 space 0 pasid 1 live"
    ∷ codes "unit 0      open, waits done below 0"
    ∷ codes "unit 0      queued page 16 of pasid 1"
    ∷ codes "unit 0      queued wait 0"
    ∷ codes "message 0   endpoint 0 start pasid 1, may be delivered"
    ∷ codes "frames      free 2 mapped 3 withheld 1"
    ∷ [])

-- an invalidation waits for a use, and of another one completion of three has come
abbrev pub ListedInvalidations : Type 0
ListedInvalidations =
    Lists (config 1 3 1 100) invalidations_under_way
    (codes "space 100   no pages"
    ∷ codes "frame 0     withheld: unit 0 wait 100"
    ∷ codes "frame 1     withheld: unit 0 wait 100"
    ∷ codes "binding 100 endpoint 0 space 100 pasid 1 live"
    ∷ codes "endpoint 0  pasid 1 on"
    ∷ codes "endpoint 0  use 0 pasid 1 page 16 frame 0 w"
    ∷ codes "endpoint 0  itag 0 pasid 1 page 16 uses {0}"
    ∷ codes "unit 0      open, waits done below 0"
    ∷ codes "unit 0      queued wait 100"
    ∷ codes "unit 0      itag 0 busy"
    ∷ codes "unit 0      itag 1 busy, 1 of 3"
    ∷ codes "message 106 endpoint 0 invalidated 00000002 count 3, may be delivered"
    ∷ codes "message 107 endpoint 0 invalidated 00000002 count 3, may be delivered"
    ∷ codes "frames      free 1 mapped 0 withheld 2"
    ∷ [])

-- groups of page requests at two endpoints: in hand, half arrived, and a job
abbrev pub ListedGroups : Type 0
ListedGroups =
    Lists (config 2 2 2 0) groups_under_way
    (codes "space 0     no pages"
    ∷ codes "binding 0   endpoint 0 space 0 pasid 1 live"
    ∷ codes "binding 1   endpoint 1 space 0 pasid 1 live"
    ∷ codes "endpoint 0  pasid 1 on"
    ∷ codes "endpoint 0  group 0 pasid 1 awaiting 2"
    ∷ codes "endpoint 0  group 1 pasid 1 collecting 1"
    ∷ codes "endpoint 1  pasid 1 on"
    ∷ codes "endpoint 1  group 0 pasid 1 awaiting 1"
    ∷ codes "unit 0      open, waits done below 0"
    ∷ codes "unit 0      page-request pasid 1 group 1 page 40 rw more"
    ∷ codes "unit 0      group 0 binding 0 whole: 32 r, 33 w"
    ∷ codes "unit 1      open, waits done below 0"
    ∷ codes "unit 1      group 0 binding 1 whole: 50 r"
    ∷ codes "job         endpoint 1 binding 1 group 0: 50 r"
    ∷ codes "worker 1    endpoint 0 binding 0 group 0: 32 r, 33 w"
    ∷ codes "frames      free 2 mapped 0 withheld 0"
    ∷ [])

-- a frame waits at two units, of which one is in reset; the reset has to stay behind the start
abbrev pub ListedTargets : Type 0
ListedTargets =
    Lists (config 2 2 1 0) two_targets
    (codes "space 0     no pages"
    ∷ codes "frame 0     withheld: unit 0 wait 0, unit 1 end of reset"
    ∷ codes "binding 0   endpoint 0 space 0 pasid 1 live"
    ∷ codes "binding 1   endpoint 1 space 0 pasid 1 live"
    ∷ codes "unit 0      open, waits done below 0"
    ∷ codes "unit 0      queued page 16 of pasid 1"
    ∷ codes "unit 0      queued wait 0"
    ∷ codes "unit 1      in reset, waits done below 0"
    ∷ codes "message 0   endpoint 0 start pasid 1, may be delivered"
    ∷ codes "message 1   endpoint 1 start pasid 1, may be delivered"
    ∷ codes "message 2   endpoint 1 reset, behind 1"
    ∷ codes "frames      free 1 mapped 0 withheld 1"
    ∷ [])

-- a binding whose drain is done, and that isn't told so yet
abbrev pub ListedDrain : Type 0
ListedDrain =
    Lists (config 1 1 1 7) drained
    (codes "space 7     no pages"
    ∷ codes "binding 7   endpoint 0 space 7 pasid 1 draining wait 7"
    ∷ codes "unit 0      open, waits done below 8"
    ∷ codes "frames      free 1 mapped 0 withheld 0"
    ∷ [])

-- ranges are queued, and an invalidation has doomed a request
abbrev pub ListedRanges : Type 0
ListedRanges =
    Lists (config 1 4 1 10) ranges_queued
    (codes "space 10    page 80 frame 2"
    ∷ codes "frame 0     withheld: unit 0 wait 10"
    ∷ codes "frame 1     withheld: unit 0 wait 11"
    ∷ codes "frame 3     withheld: unit 0 wait 12"
    ∷ codes "binding 10  endpoint 0 space 10 pasid 1 stopping"
    ∷ codes "endpoint 0  pasid 1 on"
    ∷ codes "endpoint 0  tag 0 pasid 1 page 64 doomed"
    ∷ codes "endpoint 0  tag 1 pasid 1 page 80"
    ∷ codes "endpoint 0  itag 0 pasid 1 page 64"
    ∷ codes "unit 0      open, waits done below 0"
    ∷ codes "unit 0      queued wait 10"
    ∷ codes "unit 0      queued pages 64..71 of pasid 1"
    ∷ codes "unit 0      queued wait 11"
    ∷ codes "unit 0      queued page 81 of pasid 1"
    ∷ codes "unit 0      queued wait 12"
    ∷ codes "unit 0      itag 0 busy"
    ∷ codes "message 11  endpoint 0 request tag 0 pasid 1 page 64, may be delivered"
    ∷ codes "message 12  endpoint 0 request tag 1 pasid 1 page 80, may be delivered"
    ∷ codes "message 14  endpoint 0 stop pasid 1, may be delivered"
    ∷ codes "frames      free 0 mapped 1 withheld 3"
    ∷ [])

-- the last page request of a group stays behind the first
abbrev pub group_sent : List Line
group_sent =
    says step.Space (answer.Space 0)
    ∷ says (step.Bind 0 0) (answer.Binding 0 1)
    ∷ says (step.Deliver 0) answer.Started
    ∷ says (step.Fault 0 1 16 true false None false) (answer.Group 0)
    ∷ says (step.Fault 0 1 17 false true (Some 0) true) (answer.Group 0)
    ∷ []

abbrev pub ListedHeldBack : Type 0
ListedHeldBack =
    Lists (config 1 1 1 0) group_sent
    (codes "space 0     no pages"
    ∷ codes "binding 0   endpoint 0 space 0 pasid 1 live"
    ∷ codes "endpoint 0  pasid 1 on"
    ∷ codes "endpoint 0  group 0 pasid 1 awaiting 2"
    ∷ codes "unit 0      open, waits done below 0"
    ∷ codes "message 1   endpoint 0 page-request pasid 1 group 0 page 16 r more, may be delivered"
    ∷ codes "message 2   endpoint 0 page-request pasid 1 group 0 page 17 w last, behind 1"
    ∷ codes "frames      free 1 mapped 0 withheld 0"
    ∷ [])

-- a page is cached and in use, a group was answered with a failure, another page isn't mapped, and the binding is told to stop
abbrev pub translations_and_failure : List Line
translations_and_failure =
    says step.Space (answer.Space 0)
    ∷ says (step.Map 0 16 true) (answer.Frame 0)
    ∷ says (step.Bind 0 0) (answer.Binding 0 1)
    ∷ says (step.Deliver 0) answer.Started
    ∷ says (step.Ask 0 1 16) (answer.Tag 0)
    ∷ says (step.Deliver 1) answer.Completion
    ∷ says (step.Deliver 2) answer.Held
    ∷ says (step.BeginUse 0 1 16 true) (answer.Use 0 0)
    ∷ says (step.Fault 0 1 17 true false None true) (answer.Group 0)
    ∷ says (step.Deliver 3) answer.Queued
    ∷ says (step.Serve 0) answer.Job
    ∷ says (step.Take 0) (answer.JobTaken 0 0 1)
    ∷ says (step.Reply 0 verdict.Failure) answer.Failure
    ∷ says (step.Ask 0 1 18) (answer.Tag 0)
    ∷ says (step.Deliver 5) answer.Completion
    ∷ says (step.Unbind 0) answer.Stopping
    ∷ []

abbrev pub ListedTranslations : Type 0
ListedTranslations =
    Lists (config 1 3 1 0) translations_and_failure
    (codes "space 0     page 16 frame 0 w"
    ∷ codes "binding 0   endpoint 0 space 0 pasid 1 stopping"
    ∷ codes "endpoint 0  pasid 1 on"
    ∷ codes "endpoint 0  cached pasid 1 page 16 frame 0 w"
    ∷ codes "endpoint 0  tag 0 pasid 1 page 18"
    ∷ codes "endpoint 0  use 0 pasid 1 page 16 frame 0 w"
    ∷ codes "endpoint 0  group 0 pasid 1 awaiting 1"
    ∷ codes "unit 0      open, waits done below 0"
    ∷ codes "message 4   endpoint 0 response pasid 1 group 0 failure, may be delivered"
    ∷ codes "message 6   endpoint 0 completion tag 0 frame 0 -, may be delivered"
    ∷ codes "message 7   endpoint 0 stop pasid 1, behind 4"
    ∷ codes "frames      free 2 mapped 1 withheld 0"
    ∷ [])

-- the endpoint has got all that was on its way
abbrev pub stopping : List Line
stopping =
    translations_and_failure
    ++ says (step.Deliver 4) answer.Answered
    ∷ says (step.Deliver 6) answer.NoTranslation
    ∷ says (step.Deliver 7) answer.Stopping
    ∷ []

abbrev pub ListedStopping : Type 0
ListedStopping =
    Lists (config 1 3 1 0) stopping
    (codes "space 0     page 16 frame 0 w"
    ∷ codes "binding 0   endpoint 0 space 0 pasid 1 stopping"
    ∷ codes "endpoint 0  pasid 1 stopping"
    ∷ codes "endpoint 0  cached pasid 1 page 16 frame 0 w"
    ∷ codes "endpoint 0  use 0 pasid 1 page 16 frame 0 w"
    ∷ codes "endpoint 0  page requests disabled"
    ∷ codes "unit 0      open, waits done below 0"
    ∷ codes "frames      free 2 mapped 1 withheld 0"
    ∷ [])

-- it lets go of the page, ends the use and sends its marker
abbrev pub quit : List Line
quit =
    stopping
    ++ says (step.EndUse 0 0) answer.Ended
    ∷ says (step.Evict 0 1 16) answer.Evicted
    ∷ says (step.Quit 0 1) answer.Marker
    ∷ []

abbrev pub ListedMarker : Type 0
ListedMarker =
    Lists (config 1 3 1 0) quit
    (codes "space 0     page 16 frame 0 w"
    ∷ codes "binding 0   endpoint 0 space 0 pasid 1 stopping"
    ∷ codes "endpoint 0  page requests disabled"
    ∷ codes "unit 0      open, waits done below 0"
    ∷ codes "message 8   endpoint 0 marker pasid 1, may be delivered"
    ∷ codes "frames      free 2 mapped 1 withheld 0"
    ∷ [])

-- the page requests are drained
abbrev pub draining : List Line
draining = quit ++ says (step.Deliver 8) answer.Marked ∷ says (step.Advance 0) answer.Draining ∷ []

abbrev pub ListedDraining : Type 0
ListedDraining =
    Lists (config 1 3 1 0) draining
    (codes "space 0     page 16 frame 0 w"
    ∷ codes "binding 0   endpoint 0 space 0 pasid 1 draining wait 0"
    ∷ codes "endpoint 0  page requests disabled"
    ∷ codes "unit 0      open, waits done below 0"
    ∷ codes "unit 0      queued wait 0 drain"
    ∷ codes "frames      free 2 mapped 1 withheld 0"
    ∷ [])

-- the PASID is invalidated
abbrev pub invalidating : List Line
invalidating = draining ++ says (step.Pump 0) answer.WaitDone ∷ says (step.Advance 0) answer.Invalidating ∷ []

abbrev pub ListedInvalidating : Type 0
ListedInvalidating =
    Lists (config 1 3 1 0) invalidating
    (codes "space 0     page 16 frame 0 w"
    ∷ codes "binding 0   endpoint 0 space 0 pasid 1 invalidating wait 1"
    ∷ codes "endpoint 0  page requests disabled"
    ∷ codes "unit 0      open, waits done below 1"
    ∷ codes "unit 0      queued all pages of pasid 1"
    ∷ codes "unit 0      queued wait 1"
    ∷ codes "frames      free 2 mapped 1 withheld 0"
    ∷ [])

-- the invalidation is on its way when the endpoint is reset
abbrev pub ListedReset : Type 0
ListedReset =
    Lists (config 1 3 1 0) (invalidating ++ says (step.Pump 0) (answer.Itag 0) ∷ says (step.Reset 0) answer.Resetting ∷ [])
    (codes "space 0     page 16 frame 0 w"
    ∷ codes "binding 0   endpoint 0 space 0 pasid 1 invalidating wait 1"
    ∷ codes "endpoint 0  page requests disabled"
    ∷ codes "unit 0      in reset, waits done below 1"
    ∷ codes "unit 0      itag 0 busy"
    ∷ codes "message 9   endpoint 0 invalidate itag 0 pasid 1 all pages, may be delivered"
    ∷ codes "message 10  endpoint 0 reset, behind 9"
    ∷ codes "frames      free 2 mapped 1 withheld 0"
    ∷ [])
