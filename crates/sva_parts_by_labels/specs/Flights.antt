-- How the messages in flight are seen by the definitions by labels, and what is looked up and changed there.
use Rattle.std.specs.Prelude.{◌≡◌, ◌↔◌, ℕ, ◌+◌, false, ◌==◌, not, Option, Some, None, List, [], ◌∷◌, ◌++◌, map, filter, find}
use Rattle.std.specs.List.{list_any}
use Rattle.sva_model.specs.Words.{tabulate}
use Rattle.sva_model.specs.Message.{Message, Scope as MessageScope, Code as MessageCode}
use Rattle.sva_model.specs.Message.Message.{StartMessage, StopMessage, ResetMessage, CompletionMessage, InvalidateMessage, ResponseMessage, RequestMessage}
use Rattle.sva_model.specs.Message.Message.{InvalidatedMessage, PageRequestMessage, MarkerMessage, ResetDoneMessage}
use Rattle.sva_model.specs.Message.Scope.{Coded, Everything}
use Rattle.sva_model.specs.Message.Code.{SuccessCode, InvalidCode, FailureCode}
use Rattle.sva_model.specs.Wire.{FlightWire}
use Rattle.sva_labels.specs.Finding.{holds_back}
use Rattle.sva_msg.specs.declared.messages.Message.{Message as Sent}
use Rattle.sva_msg.specs.declared.messages.Scope.{Scope}
use Rattle.sva_msg.specs.declared.messages.Scope.TheVariants as scope
use Rattle.sva_msg.specs.declared.messages.Code.{Code}
use Rattle.sva_msg.specs.declared.messages.Code.TheVariants.{Success, InvalidRequest, ResponseFailure}
use Rattle.sva_msg.specs.declared.messages.Kind.{Kind}
use Rattle.sva_msg.specs.declared.messages.Kind.TheVariants.{Start, Stop, Reset, Completion, Invalidate, Response, Request, Invalidated, PageRequest}
use Rattle.sva_msg.specs.declared.messages.Kind.TheVariants.{Marker, ResetDone}
use Rattle.sva_msg.specs.Bag.{InFlight, IsNumbered, MayDeliver, message_at, with_sent, without}

-- what an Invalidate Request names of its PASID (PCI Express Base 5.0, section 10.3.1): all pages, or a range by its code
abbrev pub scope_seen : Scope → MessageScope
scope_seen scope.All = Everything
scope_seen (scope.Code page size) = Coded (record { page = page; s = size })

-- the code of a Page Request Group Response (section 10.4.2)
abbrev pub code_seen : Code → MessageCode
code_seen Success = SuccessCode
code_seen InvalidRequest = InvalidCode
code_seen ResponseFailure = FailureCode

-- a message as it was sent, by its kind: the same labels and fields
abbrev pub kind_seen : Kind → Message
kind_seen (Start pasid) = StartMessage pasid
kind_seen (Stop pasid) = StopMessage pasid
kind_seen Reset = ResetMessage
kind_seen (Completion tag frame read write) = CompletionMessage tag frame read write
kind_seen (Invalidate itag pasid scope) = InvalidateMessage itag pasid (scope_seen scope)
kind_seen (Response pasid index code) = ResponseMessage pasid index (code_seen code)
kind_seen (Request tag pasid page) = RequestMessage tag pasid page
kind_seen (Invalidated vector count) = InvalidatedMessage vector count
kind_seen (PageRequest request) = PageRequestMessage request.pasid request.index request.page request.read request.write request.last
kind_seen (Marker pasid) = MarkerMessage pasid
kind_seen ResetDone = ResetDoneMessage

-- a message in flight, by its number and the endpoint on whose link it is
abbrev pub flight_seen : ℕ × Sent → FlightWire
flight_seen entry = record { number = entry.0; endpoint = entry.1.endpoint; message = kind_seen entry.1.kind }

-- all messages in flight, oldest first
abbrev pub flights_seen : InFlight → List FlightWire
flights_seen bag = map flight_seen bag.messages

-- the message of a number, if it is in flight
abbrev pub flight_at : (number : ℕ) → Option Sent → Option FlightWire
flight_at number None = None
flight_at number (Some sent) = Some (flight_seen (number, sent))

-- of a bag in which numbers rise
pub record FlightsAreSeen (bag : InFlight) : Type 0 where
  pub by_number : (number : ℕ) → find (λ flight. flight.number == number) (flights_seen bag) ≡ flight_at number (message_at bag number)
  pub may_deliver :
      (number : ℕ) (sent : Sent) → message_at bag number ≡ Some sent
      → (list_any (holds_back (flight_seen (number, sent))) (flights_seen bag) ≡ false) ↔ MayDeliver bag number
  pub one_sent :
      (sent : Sent) → flights_seen (with_sent bag sent 1)
      ≡ flights_seen bag ++ record { number = bag.next; endpoint = sent.endpoint; message = kind_seen sent.kind } ∷ []
  pub copies_sent :
      (sent : Sent) (copies : ℕ) → flights_seen (with_sent bag sent copies)
      ≡ flights_seen bag ++ tabulate copies (λ copy. record { number = bag.next + copy; endpoint = sent.endpoint; message = kind_seen sent.kind })
  pub delivered : (number : ℕ) → flights_seen (without bag number) ≡ filter (λ flight. not (flight.number == number)) (flights_seen bag)

-- in every bag in which numbers rise messages are found, permitted, sent and delivered as the definitions by labels have it
abbrev pub FlightLaws : Type 0
FlightLaws = (bag : InFlight) → IsNumbered bag → FlightsAreSeen bag
