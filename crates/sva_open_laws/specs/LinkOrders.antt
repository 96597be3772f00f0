-- The order of the link: of messages read off a world, one stays behind an older one in the open world exactly where it does by MODEL;
-- and one may be delivered exactly where it may by MODEL.
use Rattle.std.specs.Prelude.{◌≡◌, ◌≢◌, ℕ, List, [], ◌∷◌, Some, Contains, length, slice_get}
use Rattle.sva_step.specs.declared.limits.Config.{Config}
use Rattle.sva_step.specs.declared.steps.Step.{Step}
use Rattle.sva_model.specs.LinkOrder.{stays_behind}
use Rattle.sva_model.specs.Labels.{is_permitted, kind_of}
use Rattle.sva_model.specs.State.{Endpoint, Mappings, PasidRule, Subject, World}
use Rattle.sva_model.specs.State.Subject.{ResetDone}
use Rattle.sva_model.specs.Steps.{world_after}
use Rattle.sva_open.specs.Order.{may_deliver, must_stay}
use Rattle.sva_open.specs.declared.messages.Sent.{Sent}
use Rattle.sva_open.specs.declared.settings.Link.TheVariants.{Free}
use Rattle.sva_open_laws.specs.AsOpen.{flying_of, gather, part_of, sent_of}

abbrev pub OrdersAreOne : Type 0
OrdersAreOne =
    (mappings : Mappings) (part : Endpoint) (newer older : Subject) (one other : Sent)
    → Contains (sent_of mappings part newer) one
    → Contains (sent_of mappings part older) other
    → must_stay Free one.message other.message ≡ stays_behind (kind_of part newer) (kind_of part older)

-- at which place a message stands: behind what is shown of those that were sent before it
abbrev pub place_of_message : Mappings → Endpoint → (message : ℕ) → ℕ
place_of_message mappings part message = length (gather message (λ c. flying_of mappings part (part.message c)))

-- A message that is one in the open world too stands at its place, and may be delivered from there exactly where it may by MODEL. Of a
-- reset-done nothing is said: it stays behind a completion of no invalidation too, which the open world doesn't show.
pub record IsDeliveredAlike (world : World) (endpoint message : ℕ) (subject : Subject) (one : Sent) : Type 0 where
  pub stands :
      slice_get (part_of world endpoint (world.part endpoint)).flight (place_of_message world.mappings (world.part endpoint) message) ≡ Some one
  pub permitted :
      may_deliver Free (part_of world endpoint (world.part endpoint)).flight
      (place_of_message world.mappings (world.part endpoint) message) one.message
      ≡ is_permitted (world.part endpoint) message subject

abbrev pub DeliveriesAreOne : Type 0
DeliveriesAreOne =
    (rule : PasidRule) (config : Config) (steps : List Step) (endpoint message : ℕ) (subject : Subject) (one : Sent)
    → ((world_after rule config steps).part endpoint).message message ≡ Some subject
    → subject ≢ ResetDone
    → sent_of (world_after rule config steps).mappings ((world_after rule config steps).part endpoint) subject ≡ one ∷ []
    → IsDeliveredAlike (world_after rule config steps) endpoint message subject one
