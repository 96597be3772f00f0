-- What an unmapping does: what each unit gets, what each endpoint owes and waits for, and which mappings go.
use Rattle.std.specs.Prelude.{ℕ, suc, ◌+◌, ◌*◌, ◌^◌, Bool, true, false, ◌&&◌, not, ◌==◌, nat_lt, nat_le, Option, Some, None}
use Rattle.sva_model.specs.Words.{put, put_range, count_below, find, unless}
use Rattle.sva_model.specs.Range.{Range}
use Rattle.sva_model.specs.State.{Owed, MappingState, Mappings, Stage}
use Rattle.sva_model.specs.State.{Endpoint, World}
use Rattle.sva_model.specs.State.Owed.{Nothing, Ranges, Pasid, NextReset}
use Rattle.sva_model.specs.State.MappingState.{Present, Gone}
use Rattle.sva_model.specs.State.Stage.{Live, Stopping, Draining, Invalidating}
use Rattle.sva_model.specs.State.Order.{RangeOf, Wait}
use Rattle.sva_model.specs.State.OrderState.{Queued}
use Rattle.sva_model.specs.States.{is_open, is_unreleased, is_before_invalidating, is_done}

-- the unreleased binding of a space at an endpoint
abbrev pub bound : World → (endpoint space : ℕ) → Option ℕ
bound world endpoint space = find world.bindings (λ b. is_unreleased ((world.part endpoint).stage b) && (world.part endpoint).space b == space)

-- Unmapping. A unit that is open gets the invalidations of the ranges and a wait where its binding is Live, Stopping or
-- Draining.
abbrev pub submits_at : Endpoint → Option ℕ → Bool
submits_at part None = false
submits_at part (Some binding) = is_open part.phase && is_before_invalidating (part.stage binding)

-- does the unmapping of the space submit at this endpoint's unit?
abbrev pub submits : World → (space endpoint : ℕ) → Bool
submits world space endpoint = submits_at (world.part endpoint) (bound world endpoint space)

-- what is owed where a unit that is open gets so many ranges; at one in reset, its next reset-done
abbrev pub owed_by_unit : Endpoint → (count : ℕ) → Bool → Owed
owed_by_unit part count true = Ranges part.orders count part.resets
owed_by_unit part count false = NextReset part.resets

-- what the endpoint has to answer for the pages of `count` ranges that a binding in this stage loses
abbrev pub owed_by_stage : Endpoint → (count : ℕ) → Stage → Owed
owed_by_stage part count Live = owed_by_unit part count (is_open part.phase)
owed_by_stage part count (Stopping marked) = owed_by_unit part count (is_open part.phase)
owed_by_stage part count (Draining wait) = owed_by_unit part count (is_open part.phase)
owed_by_stage part count (Invalidating invalidation wait) = Pasid invalidation wait part.resets (not (is_open part.phase))
owed_by_stage part count _ = Nothing

-- what the endpoint owes, by the binding that the space has there, if any
abbrev pub owed_by : Endpoint → (count : ℕ) → Option ℕ → Owed
owed_by part count None = Nothing
owed_by part count (Some binding) = owed_by_stage part count (part.stage binding)

-- is there something to wait for at the endpoint?
abbrev pub waits_by_stage : Endpoint → Stage → Bool
waits_by_stage part Live = true
waits_by_stage part (Stopping marked) = true
waits_by_stage part (Draining wait) = true
waits_by_stage part (Invalidating invalidation wait) = not (is_done (part.order_state wait))
waits_by_stage part _ = false

-- is there something to wait for, by the binding that the space has there?
abbrev pub waits_at : Endpoint → Option ℕ → Bool
waits_at part None = false
waits_at part (Some binding) = waits_by_stage part (part.stage binding)

-- is there something to wait for at the endpoint where the space loses a page?
abbrev pub waits : World → (space endpoint : ℕ) → Bool
waits world space endpoint = waits_at (world.part endpoint) (bound world endpoint space)

-- of ranges of 2^order pages, one behind another from `page` on, that with this number
abbrev pub range_at : (page order number : ℕ) → Range
range_at page order number = record { base = page + number * 2 ^ order; order = order }

-- the unit behind `count` range invalidations and their wait
abbrev pub submitted : Endpoint → (binding page count order cookie : ℕ) → Endpoint
submitted part binding page count order cookie =
    record part {
      orders = part.orders + suc count;
      order = put (put_range part.order part.orders count (λ j. RangeOf binding (range_at page order j))) (part.orders + count) (Wait cookie false);
      order_state = put_range part.order_state part.orders (suc count) (λ j. Queued);
      waits_end = suc cookie;
    }

-- the same where something is submitted at all
abbrev pub submitted_if : Bool → Endpoint → Option ℕ → (page count order cookie : ℕ) → Endpoint
submitted_if true part (Some binding) page count order cookie = submitted part binding page count order cookie
submitted_if _ part _ page count order cookie = part

-- the cookies are given out in rising order of units
abbrev pub cookie_of : World → (space endpoint : ℕ) → ℕ
cookie_of world space endpoint = world.cookies + count_below endpoint (submits world space)

-- an endpoint with its unit behind an unmapping of `count` ranges
abbrev pub part_after_unmap : World → (space page count order endpoint : ℕ) → Endpoint
part_after_unmap world space page count order endpoint =
    submitted_if (submits world space endpoint) (world.part endpoint) (bound world endpoint space) page count order (cookie_of world space endpoint)

-- a mapping that was present is gone, and is owed this
abbrev pub gone_if : Bool → (ℕ → Owed) → MappingState → MappingState
gone_if true owed Present = Gone owed
gone_if _ owed state = state

-- is the number one of `count` numbers from `first` on?
abbrev pub in_range : (first count number : ℕ) → Bool
in_range first count number = nat_le first number && nat_lt number (first + count)

-- the mappings after some pages of a space are taken out of it: each that was present is gone, and waits for what the
-- endpoints owe for it
abbrev pub without_pages : Mappings → ℕ → (ℕ → Bool) → (ℕ → Owed) → Mappings
without_pages mappings space pages owed =
    record mappings {
      state = λ m. gone_if (mappings.space m == space && pages (mappings.page m)) owed (mappings.state m);
      at = put mappings.at space (λ q. unless (λ m. pages q) (mappings.at space q));
    }
