-- What an endpoint keeps, by labels.
use Rattle.std.specs.Prelude.{Bool, true, List, Option}
use Rattle.std.specs.FinMap.{empty}
use Rattle.sva_endpoint.specs.declared.pasid_states.PasidState.{PasidState}
use Rattle.sva_endpoint.specs.declared.request_tags.RequestTag.{RequestTag}
use Rattle.sva_endpoint.specs.declared.use_slots.UseSlot.{UseSlot}
use Rattle.sva_endpoint.specs.declared.taken_table.Taken.{Taken}
use Rattle.sva_endpoint.specs.declared.groups.GroupPlace.{GroupPlace}
use Rattle.sva_endpoint.specs.Cache.{Translations}
use Rattle.sva_endpoint.specs.PasidStates.{all_off}
use Rattle.sva_endpoint.specs.RequestTags.{no_requests}
use Rattle.sva_endpoint.specs.UseSlots.{no_uses}
use Rattle.sva_endpoint.specs.Taken.{none_taken}
use Rattle.sva_endpoint.specs.Groups.{no_groups}

-- all that an endpoint keeps: its labels with what bears each, its cache, and whether it may send page requests
pub record Tables : Type 0 where
  -- by PASID
  pub pasids : List PasidState
  -- from (PASID, page) to the translation
  pub cache : Translations
  -- by tag
  pub tags : List RequestTag
  -- by slot
  pub uses : List UseSlot
  -- by ITag
  pub taken : List (Option Taken)
  -- by Page Request Group Index
  pub groups : List GroupPlace
  -- is the page request interface enabled?
  pub enabled : Bool

-- an endpoint to which nothing has come yet; a reset leaves the same, but for the slots of uses
abbrev pub fresh : Tables
fresh = record { pasids = all_off; cache = empty; tags = no_requests; uses = no_uses; taken = none_taken; groups = no_groups; enabled = true }
