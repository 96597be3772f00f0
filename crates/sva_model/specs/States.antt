-- What the states of records mean. Sections are those of PCI Express Base 5.0.
use Rattle.std.specs.Prelude.{ℕ, suc, ◌+◌, Bool, true, false, ◌&&◌, ◌||◌, ◌==◌, nat_lt, Option, Some, None}
use Rattle.sva_model.specs.Words.{all_below}
use Rattle.sva_model.specs.Range.{Range, is_in}
use Rattle.sva_model.specs.State.{Owed, MappingState, Stage, PasidState, RequestState, UseState, PageRequestState, GroupState, HostGroupState, Order}
use Rattle.sva_model.specs.State.{OrderState, Phase, Endpoint, World}
use Rattle.sva_model.specs.State.Owed.{Nothing, Ranges, Pasid, NextReset}
use Rattle.sva_model.specs.State.MappingState.{Present, Gone}
use Rattle.sva_model.specs.State.Stage.{Unbound, Live, Stopping, Draining, Released}
use Rattle.sva_model.specs.State.PasidState.{Off, On, Ending}
use Rattle.sva_model.specs.State.RequestState.{Out, Doomed}
use Rattle.sva_model.specs.State.UseState.{Running}
use Rattle.sva_model.specs.State.PageRequestState.{Arrived}
use Rattle.sva_model.specs.State.GroupState.{Collecting, Closed}
use Rattle.sva_model.specs.State.HostGroupState.{PartFiled, Job, InHand}
use Rattle.sva_model.specs.State.Order.{RangeOf, PasidOf, Wait}
use Rattle.sva_model.specs.State.OrderState.{Queued, Sent, Taken, Lapsed, Completing, Done}
use Rattle.sva_model.specs.State.Phase.{Open}

-- isn't the unit in reset?
abbrev pub is_open : Phase → Bool
is_open Open = true
is_open _ = false

-- bound, and not yet released
abbrev pub is_unreleased : Stage → Bool
is_unreleased Unbound = false
is_unreleased Released = false
is_unreleased _ = true

-- is it bound, and not told to stop?
abbrev pub is_live_stage : Stage → Bool
is_live_stage Live = true
is_live_stage _ = false

-- Live, Stopping or Draining: its translations may be asked for or are still cached, and the invalidation of its whole
-- PASID isn't ordered yet
abbrev pub is_before_invalidating : Stage → Bool
is_before_invalidating Live = true
is_before_invalidating (Stopping marked) = true
is_before_invalidating (Draining wait) = true
is_before_invalidating _ = false

-- hasn't the PASID started here, or was it quit?
abbrev pub is_off : PasidState → Bool
is_off Off = true
is_off _ = false

-- has the PASID started here, and isn't it told to stop?
abbrev pub is_on : PasidState → Bool
is_on On = true
is_on _ = false

-- is the PASID told to stop, and not quit yet?
abbrev pub is_ending : PasidState → Bool
is_ending Ending = true
is_ending _ = false

-- is its request tag taken?
abbrev pub is_out : RequestState → Bool
is_out Out = true
is_out Doomed = true
is_out _ = false

-- does the use go on?
abbrev pub is_running : UseState → Bool
is_running Running = true
is_running _ = false

-- does the page request wait in the unit's queue?
abbrev pub is_arrived : PageRequestState → Bool
is_arrived Arrived = true
is_arrived _ = false

-- is the last page request of the group still to come?
abbrev pub is_collecting : GroupState → Bool
is_collecting Collecting = true
is_collecting _ = false

-- does it keep its index and its requests' allocation (section 10.5.2)?
abbrev pub is_outstanding : GroupState → Bool
is_outstanding Closed = false
is_outstanding _ = true

-- does the group wait for a worker?
abbrev pub is_job : HostGroupState → Bool
is_job Job = true
is_job _ = false

-- has the host filed it in part or whole, and not answered it?
abbrev pub is_open_group : HostGroupState → Bool
is_open_group PartFiled = true
is_open_group Job = true
is_open_group (InHand worker) = true
is_open_group _ = false

-- does the order stand in the invalidation queue?
abbrev pub is_queued : OrderState → Bool
is_queued Queued = true
is_queued _ = false

-- has the endpoint taken the invalidation, and not answered it?
abbrev pub is_taken : OrderState → Bool
is_taken (Taken uses) = true
is_taken _ = false

-- does it bear an ITag (section 10.3.3: until the last of its completions)?
abbrev pub is_busy : OrderState → Bool
is_busy Sent = true
is_busy (Taken uses) = true
is_busy Lapsed = true
is_busy (Completing count left) = true
is_busy _ = false

-- is the order done?
abbrev pub is_done : OrderState → Bool
is_done Done = true
is_done _ = false

-- is it a wait, and no invalidation?
abbrev pub is_wait : Order → Bool
is_wait (Wait cookie drain) = true
is_wait _ = false

-- a wait that drains (Intel VT-d, "Page Request Drain"): it waits for an empty page request queue too
abbrev pub drains : Order → Bool
drains (Wait cookie drain) = drain
drains _ = false

-- how many uses had begun at the endpoint when it took the invalidation; 0 of one that isn't taken and unfinished
abbrev pub uses_noted : OrderState → ℕ
uses_noted (Taken uses) = uses
uses_noted _ = 0

-- What an invalidation is of (section 10.3.1): a range of pages, or every page.
pub data Extent : Type 0 where
  Pages : (range : Range) → Extent
  AllPages : Extent

-- is the page one of the extent?
abbrev pub is_within : Extent → (page : ℕ) → Bool
is_within (Pages range) page = is_in range page
is_within AllPages page = true

-- it covers these pages of its own binding
abbrev pub covers : Order → (binding page : ℕ) → Bool
covers (RangeOf owner range) binding page = owner == binding && is_within (Pages range) page
covers (PasidOf owner) binding page = owner == binding && is_within AllPages page
covers (Wait cookie drain) binding page = false

-- Has the endpoint answered for a mapping that was taken out, by now?
abbrev pub answered : Endpoint → Owed → Bool
answered part Nothing = true
answered part (Ranges first count resets) = all_below (suc count) (λ j. is_done (part.order_state (first + j))) || nat_lt resets part.resets
answered part (Pasid invalidation wait resets in_reset) =
    (is_done (part.order_state invalidation) && is_done (part.order_state wait)) || nat_lt resets part.resets
answered part (NextReset resets) = nat_lt resets part.resets

-- does the mapping stand in its space?
abbrev pub is_present : MappingState → Bool
is_present Present = true
is_present _ = false

-- Where a frame is: at a page of a space; withheld, since an endpoint hasn't answered; or free.
pub data Place : Type 0 where
  Free : Place
  Mapped : Place
  Withheld : Place

-- the place of a frame whose mapping is gone, by whether all endpoints have answered for it
abbrev pub place_of_gone : Bool → Place
place_of_gone true = Free
place_of_gone false = Withheld

-- the place of the frame of a mapping in this state
abbrev pub place_by : World → MappingState → Place
place_by world Present = Mapped
place_by world (Gone owed) = place_of_gone (all_below world.config.endpoints (λ e. answered (world.part e) (owed e)))
place_by world _ = Free

-- the place of a frame by its last mapping; free where it never had one
abbrev pub place_at : World → Option ℕ → Place
place_at world None = Free
place_at world (Some mapping) = place_by world (world.mappings.state mapping)

-- the place of a frame
abbrev pub place : World → (frame : ℕ) → Place
place world frame = place_at world (world.mappings.latest frame)

-- is the place free?
abbrev pub is_free_place : Place → Bool
is_free_place Free = true
is_free_place _ = false

-- is the frame free?
abbrev pub is_free : World → (frame : ℕ) → Bool
is_free world frame = is_free_place (place world frame)
