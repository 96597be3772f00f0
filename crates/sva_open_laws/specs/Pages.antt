-- The open world as it is of one page, in which every other page leads nowhere; what acts of the whole are there; and what can be told
-- of the whole by these worlds alone.
use Rattle.std.specs.Prelude.{◌≡◌, ◌↔◌, ℕ, zero, suc, ⊤, ◌==◌, ◌&&◌, if◌then◌else◌, Bool, true, false, List, [], ◌∷◌, filter, map}
use Rattle.std.specs.Prelude.{Option, Some, None, option_map, slice_get}
use Rattle.std.specs.List.{cons_option, list_all}
use Rattle.sva_open.specs.declared.frames.Mapping.{Mapping}
use Rattle.sva_open.specs.declared.frames.Target.{Target}
use Rattle.sva_open.specs.declared.frames.Translation.{Translation}
use Rattle.sva_open.specs.declared.messages.Message.{Message}
use Rattle.sva_open.specs.declared.messages.Message.TheVariants as message
use Rattle.sva_open.specs.declared.messages.Sent.{Sent}
use Rattle.sva_open.specs.declared.works.Work.{Work}
use Rattle.sva_open.specs.declared.works.Work.TheVariants.{Use, Taken, Draining}
use Rattle.sva_open.specs.declared.acts.Act.{Act}
use Rattle.sva_open.specs.declared.acts.Act.TheVariants as act
use Rattle.sva_open.specs.declared.acts.LocalAct.{LocalAct}
use Rattle.sva_open.specs.declared.acts.LocalAct.TheVariants as local
use Rattle.sva_open.specs.World.{Open, Part, if_so}
use Rattle.sva_open.specs.Acts.{next_open}
use Rattle.sva_open.specs.Checks.{is_safe}

-- ---- the world of a page

-- a page is known by its number, in whatever space and under whatever PASID
abbrev pub leads_at : (page : ℕ) → Mapping → Bool
leads_at page mapping = mapping.page == page

abbrev pub is_at : (page : ℕ) → Translation → Bool
is_at page translation = translation.page == page

-- an invalidation that is taken is there for each, whatever it covers; and so is a barrier
abbrev pub is_work_at : (page : ℕ) → Work → Bool
is_work_at page (Use translation) = is_at page translation
is_work_at page (Taken itag scope) = true
is_work_at page (Draining barrier) = true

-- so is a completion; where it is of another page, it says that this leads nowhere
abbrev pub target_if : Bool → Option Target → Option Target
target_if true target = target
target_if false target = None

abbrev pub its_message : (page : ℕ) → Message → Message
its_message page (message.Completion tag other target) = message.Completion tag other (target_if (other == page) target)
its_message page one = one

abbrev pub its_sent : (page : ℕ) → Sent → Sent
its_sent page one = record one { message = its_message page one.message }

abbrev pub its_part : (page : ℕ) → Part → Part
its_part page part =
    record part {
      held = filter (is_at page) part.held;
      works = filter (is_work_at page) part.works;
      flight = map (its_sent page) part.flight;
      kept = filter (is_at page) part.kept;
    }

-- All else stays: frames, owners, entries, page requests, queues, and the requests for other pages, with their tags.
abbrev pub its_world : (page : ℕ) → Open → Open
its_world page now = record now { mappings = filter (leads_at page) now.mappings; parts = map (its_part page) now.parts }

-- Does nothing lead anywhere but by the page: no mapping, nothing that is held, used or kept, and no completion in flight?
abbrev pub leads_by : (page : ℕ) → Message → Bool
leads_by page (message.Completion tag other (Some target)) = other == page
leads_by page one = true

abbrev pub leads_by_sent : (page : ℕ) → Sent → Bool
leads_by_sent page one = leads_by page one.message

abbrev pub is_alone_at : (page : ℕ) → Part → Bool
is_alone_at page part =
    list_all (is_at page) part.held
    && (list_all (is_work_at page) part.works && (list_all (leads_by_sent page) part.flight && list_all (is_at page) part.kept))

abbrev pub is_alone : (page : ℕ) → Open → Bool
is_alone page now = list_all (leads_at page) now.mappings && list_all (is_alone_at page) now.parts

-- So it is in the world of a page; and where it is so of the whole, that is the world of the page.
abbrev pub IsOnePage : Type 0
IsOnePage = (page : ℕ) (now : Open) → (is_alone page (its_world page now) ≡ true) × (is_alone page now ≡ true → its_world page now ≡ now)

-- ---- what an act is of a page

-- a place of a list, in what is left of that: so many as stand before it and are left
abbrev pub place_in : {X : Type 0} → (X → Bool) → List X → (place : ℕ) → ℕ
place_in is_left [] place = 0
place_in is_left (x ∷ xs) zero = 0
place_in is_left (x ∷ xs) (suc place) = if is_left x then suc (place_in is_left xs place) else place_in is_left xs place

-- is what stands there left? Where nothing stands, nothing was left out
abbrev pub is_left_at : {X : Type 0} → (X → Bool) → Option X → Bool
is_left_at is_left None = true
is_left_at is_left (Some x) = is_left x

-- an act that names a place, of what is left; none where that isn't left
abbrev pub moved_in : {X : Type 0} → (X → Bool) → List X → (place : ℕ) → (ℕ → LocalAct) → Option LocalAct
moved_in is_left xs place by = if_so (is_left_at is_left (slice_get xs place)) (by (place_in is_left xs place))

-- Of one page alone are uses and their ends, evictions, and that a unit forgets a translation. All else is there for each, the asks
-- for other pages too.
abbrev pub its_local : (page : ℕ) → Part → LocalAct → Option LocalAct
its_local page part (local.Use pasid other) = if_so (other == page) (local.Use pasid other)
its_local page part (local.Evict pasid other) = if_so (other == page) (local.Evict pasid other)
its_local page part (local.End place) = moved_in (is_work_at page) part.works place local.End
its_local page part (local.Finish place) = moved_in (is_work_at page) part.works place local.Finish
its_local page part (local.Pass place) = moved_in (is_work_at page) part.works place local.Pass
its_local page part (local.Forget place) = moved_in (is_at page) part.kept place local.Forget
its_local page part its = Some its

abbrev pub its_local_at : (page : ℕ) → Option Part → LocalAct → Option LocalAct
its_local_at page None its = Some its
its_local_at page (Some part) its = its_local page part its

abbrev pub its_act : (page : ℕ) → Open → Act → Option Act
its_act page now (act.SetPage space other frame write) = if_so (other == page) (act.SetPage space other frame write)
its_act page now (act.ClearPage space other) = if_so (other == page) (act.ClearPage space other)
its_act page now (act.At endpoint its) = option_map (act.At endpoint) (its_local_at page (slice_get now.parts endpoint) its)
its_act page now one = Some one

-- ---- one act

-- what an act leads to, where there is one
abbrev pub next_by : Open → Option Act → Option Open
next_by now None = Some now
next_by now (Some one) = next_open now one

-- Where an act is permitted in a safe moment, what it is of a page is permitted in that page's world, and leads there to the world of
-- that page which belongs to the next moment; and where it is none, that world stays as it is.
abbrev pub IsPageLaw : Type 0
IsPageLaw = (page : ℕ) (now next : Open) (one : Act) → is_safe now ≡ true → next_open now one ≡ Some next
    → next_by (its_world page now) (its_act page now one) ≡ Some (its_world page next)

-- A moment is safe exactly where the world of each page is.
abbrev pub AreSafeApart : Type 0
AreSafeApart = (now : Open) → (is_safe now ≡ true) ↔ ((page : ℕ) → is_safe (its_world page now) ≡ true)

-- ---- acts one after another

-- what they lead to, where each is permitted
abbrev pub after : Option Open → List Act → Option Open
after None acts = None
after (Some now) [] = Some now
after (Some now) (one ∷ acts) = after (next_open now one) acts

-- each moment in which one of them is taken is safe
abbrev pub AreTakenSafely : Option Open → List Act → Type 0
AreTakenSafely None acts = ⊤
AreTakenSafely (Some now) [] = ⊤
AreTakenSafely (Some now) (one ∷ acts) = (is_safe now ≡ true) × AreTakenSafely (next_open now one) acts

-- what they are of a page, one after another
abbrev pub its_acts : (page : ℕ) → Option Open → List Act → List Act
its_acts page None acts = []
its_acts page (Some now) [] = []
its_acts page (Some now) (one ∷ acts) = cons_option (its_act page now one) (its_acts page (next_open now one) acts)

-- Where acts lead to a moment, and none was taken in one that isn't safe, what they are of a page leads from that page's world to the
-- world of that page which belongs to the moment.
abbrev pub AreRunsApart : Type 0
AreRunsApart = (page : ℕ) (now next : Open) (acts : List Act) → AreTakenSafely (Some now) acts → after (Some now) acts ≡ Some next
    → after (Some (its_world page now)) (its_acts page (Some now) acts) ≡ Some (its_world page next)

-- each moment through which they lead is safe, the last one too
abbrev pub IsSafeAlong : Option Open → List Act → Type 0
IsSafeAlong None acts = ⊤
IsSafeAlong (Some now) [] = is_safe now ≡ true
IsSafeAlong (Some now) (one ∷ acts) = (is_safe now ≡ true) × IsSafeAlong (next_open now one) acts

-- Where that is so, in the world of each page, of what they are of it, it is so of the whole.
abbrev pub AreRunsSafeApart : Type 0
AreRunsSafeApart = (now : Open) (acts : List Act) → ((page : ℕ) → IsSafeAlong (Some (its_world page now)) (its_acts page (Some now) acts))
    → IsSafeAlong (Some now) acts

-- whatever acts come, each moment is safe
abbrev pub IsAlwaysSafe : Open → Type 0
IsAlwaysSafe now = (acts : List Act) (next : Open) → after (Some now) acts ≡ Some next → is_safe next ≡ true

-- Where the world of each page is always safe, so is the whole.
abbrev pub AreAlwaysSafeApart : Type 0
AreAlwaysSafeApart = (now : Open) → ((page : ℕ) → IsAlwaysSafe (its_world page now)) → IsAlwaysSafe now
