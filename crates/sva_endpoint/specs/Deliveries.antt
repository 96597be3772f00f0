-- What an endpoint does with a message from the host, and answers.
use Rattle.std.specs.Prelude.{ℕ, Bool, true, false, map, slice_set, Some, not, ◌&&◌, if◌then◌else◌}
use Rattle.std.specs.FinMap.{insert}
use Rattle.sva_step.specs.declared.answers.Answer.{Answer}
use Rattle.sva_step.specs.declared.answers.Answer.TheVariants.{Started, Stopping as ToldToStop, Reset as IsReset, Dropped, NoTranslation, Full, Held}
use Rattle.sva_step.specs.declared.answers.Answer.TheVariants.{Taken as IsTaken, Answered, Stale as AnsweredStale}
use Rattle.sva_msg.specs.declared.messages.Kind.{Kind}
use Rattle.sva_msg.specs.declared.messages.Kind.TheVariants.{Start, Stop, Reset, Completion, Invalidate, Response}
use Rattle.sva_msg.specs.declared.messages.Code.{Code}
use Rattle.sva_msg.specs.declared.messages.Code.TheVariants.{Success, InvalidRequest, ResponseFailure}
use Rattle.sva_endpoint.specs.declared.pasid_states.PasidState.TheVariants.{On, Stopping}
use Rattle.sva_endpoint.specs.declared.request_tags.RequestTag.{RequestTag}
use Rattle.sva_endpoint.specs.declared.request_tags.RequestTag.TheVariants.{Free, Out, Doomed}
use Rattle.sva_endpoint.specs.declared.groups.GroupPlace.{GroupPlace}
use Rattle.sva_endpoint.specs.declared.groups.GroupPlace.TheVariants.{Free as NoGroup, Collecting, Out as GroupOut, Stale}
use Rattle.sva_endpoint.specs.declared.coverage.Invalidation.{Invalidation}
use Rattle.sva_msg.specs.Extents.{extent_of}
use Rattle.sva_endpoint.specs.Cache.{Translations, has_room_for, without_covered}
use Rattle.sva_endpoint.specs.PasidStates.{with_state}
use Rattle.sva_endpoint.specs.RequestTags.{request_at, doomed_by}
use Rattle.sva_endpoint.specs.UseSlots.{cut_off, runs_covered}
use Rattle.sva_endpoint.specs.Groups.{group_at}
use Rattle.sva_endpoint.specs.Tables.{Tables, fresh}

-- ---- a translation completion, by the request that bore its tag

-- the answer to a doomed request is thrown away; one that finds the cache full of other pages isn't kept (this
-- project's own rules)
abbrev pub cache_after : Translations → ℕ → Bool → Bool → RequestTag → Translations
cache_after cache frame read write Free = cache
cache_after cache frame read write (Out pasid page) =
    if read && has_room_for cache (pasid, page) then insert cache (pasid, page) (record { frame = frame; write = write }) else cache
cache_after cache frame read write (Doomed pasid page) = cache

-- with R clear there is no translation
abbrev pub answer_to_completion : Translations → Bool → RequestTag → Answer
answer_to_completion cache read Free = Dropped
answer_to_completion cache read (Out pasid page) = if read then (if has_room_for cache (pasid, page) then Held else Full) else NoTranslation
answer_to_completion cache read (Doomed pasid page) = Dropped

-- the request under this tag is over and its tag free, whether its answer is kept or not (PCI Express Base 5.0, section 10.2.3)
abbrev pub after_completion : Tables → ℕ → ℕ → Bool → Bool → Tables
after_completion tables tag frame read write =
    record tables { cache = cache_after tables.cache frame read write (request_at tables.tags tag); tags = slice_set tables.tags tag Free }

-- ---- an invalidation

-- it strikes what is cached, dooms the requests that are out and notes the uses that run, as far as it covers them
abbrev pub after_invalidate : Tables → ℕ → Invalidation → Tables
after_invalidate tables itag invalidation =
    record tables {
      cache = without_covered invalidation tables.cache;
      tags = map (doomed_by invalidation) tables.tags;
      taken = slice_set tables.taken itag (Some (record { invalidation = invalidation; noted = map (runs_covered invalidation) tables.uses }));
    }

-- ---- a page request group response

-- is it Response Failure (1111b), which disables the page request interface (PCI Express Base 5.0, section 10.4.2)?
abbrev pub is_failure : Code → Bool
is_failure Success = false
is_failure InvalidRequest = false
is_failure ResponseFailure = true

-- whatever the code is, the response to a group whose PASID was quit meanwhile is answered as stale (this project's own rule)
abbrev pub answer_to_response : GroupPlace → Answer
answer_to_response NoGroup = Answered
answer_to_response (Collecting pasid requests) = Answered
answer_to_response (GroupOut pasid requests) = Answered
answer_to_response (Stale pasid requests) = AnsweredStale

-- the group's index and its requests are free; a response failure disables the page request interface
abbrev pub after_response : Tables → ℕ → Code → Tables
after_response tables index code = record tables { groups = slice_set tables.groups index NoGroup; enabled = tables.enabled && not (is_failure code) }

-- ---- each message; one that isn't sent to an endpoint changes nothing

-- the endpoint after a message: a reset clears all that it keeps, but running uses leave their slots taken, as dead ones (PCI
-- Express Base 5.0, section 6.6.2, which resets all state of a function; that the slots stay is this project's own rule)
abbrev pub after_receive : Tables → Kind → Tables
after_receive tables (Start pasid) = record tables { pasids = with_state tables.pasids pasid On }
after_receive tables (Stop pasid) = record tables { pasids = with_state tables.pasids pasid Stopping }
after_receive tables Reset = record fresh { uses = map cut_off tables.uses }
after_receive tables (Completion tag frame read write) = after_completion tables tag frame read write
after_receive tables (Invalidate itag pasid scope) = after_invalidate tables itag (record { pasid = pasid; extent = extent_of scope })
after_receive tables (Response pasid index code) = after_response tables index code
after_receive tables _ = tables

-- what came of a message, as the step that delivers it answers
abbrev pub answer_to : Tables → Kind → Answer
answer_to tables (Start pasid) = Started
answer_to tables (Stop pasid) = ToldToStop
answer_to tables Reset = IsReset
answer_to tables (Completion tag frame read write) = answer_to_completion tables.cache read (request_at tables.tags tag)
answer_to tables (Invalidate itag pasid scope) = IsTaken
answer_to tables (Response pasid index code) = answer_to_response (group_at tables.groups index)
answer_to tables _ = Dropped
