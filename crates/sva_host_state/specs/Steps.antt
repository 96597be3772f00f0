-- What a step does, by labels.
use Rattle.std.specs.Prelude.{◌≡◌, ℕ, true, false, nat_lt, length, Result, Ok, Err}
use Rattle.sva_step.specs.declared.refusals.Refusal.{Refusal}
use Rattle.sva_step.specs.declared.refusals.Refusal.TheVariants as refusal
use Rattle.sva_step.specs.declared.steps.Step.{Step}
use Rattle.sva_model.specs.Message.{Message}
use Rattle.sva_model.specs.Message.Message.{StartMessage, StopMessage, CompletionMessage, InvalidateMessage, ResponseMessage}
use Rattle.sva_model.specs.Wire.{Wire}
pub use Rattle.sva_address_spaces.specs.Steps.{Does, ByLabels}
use Rattle.sva_labels.specs.Causes.{lacks, causes_of}
use Rattle.sva_msg.specs.declared.messages.Kind.{Kind}
use Rattle.sva_msg.specs.Bag.{InFlight, with_sent}
use Rattle.sva_model.specs.Refusals.{unless_refused}

-- what refuses a step: the first of its causes that holds, if one does
abbrev pub MayStep : Wire → Step → Result (Unit {0}) Refusal → Type 0
MayStep world step result = result ≡ unless_refused (causes_of world step) tt

-- the endpoint of a number stands at it
abbrev pub PortFor : Wire → (endpoint : ℕ) → Result ℕ Refusal → Type 0
PortFor world endpoint (Ok at) = (at ≡ endpoint) × (nat_lt endpoint (length world.parts) ≡ true)
PortFor world endpoint (Err refusal.NoSuchEndpoint) = nat_lt endpoint (length world.parts) ≡ false
PortFor world endpoint _ = ⊥

-- so many copies of a message are sent
abbrev pub Sends : InFlight → (endpoint : ℕ) → Kind → (copies : ℕ) → Result (Unit {0}) Refusal → InFlight → Type 0
Sends bag endpoint kind copies (Ok _) after = (lacks bag.next copies ≡ false) × (after ≡ with_sent bag (record { endpoint = endpoint; kind = kind }) copies)
Sends bag endpoint kind copies (Err refusal.NumbersSpent) after = (lacks bag.next copies ≡ true) × (after ≡ bag)
Sends bag endpoint kind copies (Err refusal.OutOfMemory) after = (lacks bag.next copies ≡ false) × (after ≡ bag)
Sends bag endpoint kind copies _ after = ⊥

-- is it a message of a host to its endpoint, and no reset?
abbrev pub IsDown : Message → Type 0
IsDown (StartMessage pasid) = Unit {0}
IsDown (StopMessage pasid) = Unit {0}
IsDown (CompletionMessage tag frame read write) = Unit {0}
IsDown (InvalidateMessage itag pasid scope) = Unit {0}
IsDown (ResponseMessage pasid index code) = Unit {0}
IsDown _ = ⊥
