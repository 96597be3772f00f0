-- What a move does to messages in flight: one is sent, or several copies, or one leaves, or one leaves and its answer
-- is sent. Done in both of two hosts where the same are in flight, it leaves the same in flight, and names go on.
use Rattle.std.proofs.Common.{◌≡◌, ℕ, ◌+◌, Bool, true, false}
use Rattle.std.specs.Prelude.{Option, Some, None, List, ◌++◌}
use Rattle.sva_model.specs.Message.{Message}
use Rattle.sva_model.specs.Message.Message.{StartMessage, StopMessage, ResetMessage, InvalidateMessage, ResponseMessage, RequestMessage}
use Rattle.sva_model.specs.Message.Message.{InvalidatedMessage, PageRequestMessage, MarkerMessage, ResetDoneMessage}
use Rattle.sva_model.specs.StateChanges.{scope_of, count_field}
use Rattle.sva_model.specs.Wire.{FlightWire}
use Rattle.sva_labels.specs.Moves.{Move}
use Rattle.sva_renumbering.specs.InFlight.{place_among}
use Rattle.sva_renumbering.proofs.Rising.{left, one_sent, copies_sent, rise_one, rise_copies}
use Rattle.sva_renumbering.proofs.Splits.{IsSplit}
use Rattle.sva_renumbering.proofs.Leaving.{Both, both_more, both_left, are_twins}
use Rattle.sva_renumbering.proofs.Naming.{AreNamed, named_more, named_left}

pub data Flying : Type 0 where
  Stays : Flying
  Sends : (endpoint : ℕ) (message : Message) → Flying
  SendsCopies : (count endpoint : ℕ) (message : Message) → Flying
  Leaves : (number : ℕ) → Flying
  Answers : (number endpoint : ℕ) (message : Message) → Flying

abbrev pub flying : Move → Flying
flying (Move.Bind e n b t) = Sends e (StartMessage t)
flying (Move.Stop e b t) = Sends e (StopMessage t)
flying (Move.Send e itag t extent) = Sends e (InvalidateMessage itag t (scope_of extent))
flying (Move.Reset e) = Sends e ResetMessage
flying (Move.Respond job t code) = Sends job.endpoint (ResponseMessage t job.index code)
flying (Move.Ask e t q tag) = Sends e (RequestMessage tag t q)
flying (Move.Group e t i q r x l) = Sends e (PageRequestMessage t i q r x l)
flying (Move.Request e t i q r x l) = Sends e (PageRequestMessage t i q r x l)
flying (Move.Finish e vector count) = SendsCopies count e (InvalidatedMessage vector (count_field count))
flying (Move.Quit e t) = Sends e (MarkerMessage t)
flying (Move.StartArrives e n t) = Leaves n
flying (Move.StopArrives e n t) = Leaves n
flying (Move.ResetArrives e n) = Answers n e ResetDoneMessage
flying (Move.Keep e n tag x) = Leaves n
flying (Move.Forget e n tag) = Leaves n
flying (Move.Take e n itag t extent) = Leaves n
flying (Move.Answered e n i code) = Leaves n
flying (Move.Complete e n answer) = Answers n e answer
flying (Move.Count e n vector count) = Leaves n
flying (Move.Arrive e n r) = Leaves n
flying (Move.Mark e n b) = Leaves n
flying (Move.Ignore n) = Leaves n
flying (Move.Reopen e n) = Leaves n
flying _ = Stays

-- the next number after it
abbrev pub next_by : Flying → (next : ℕ) → ℕ
next_by Stays n = n
next_by (Sends e m) n = n + 1
next_by (SendsCopies count e m) n = n + count
next_by (Leaves a) n = n
next_by (Answers a e m) n = n + 1

-- what is in flight after it
abbrev pub flown : Flying → (next : ℕ) → List FlightWire → List FlightWire
flown Stays n fs = fs
flown (Sends e m) n fs = fs ++ one_sent n e m
flown (SendsCopies count e m) n fs = fs ++ copies_sent n count e m
flown (Leaves a) n fs = left a fs
flown (Answers a e m) n fs = left a fs ++ one_sent n e m

-- does a message leave?
abbrev pub leaves : Flying → Bool
leaves (Leaves a) = true
leaves (Answers a e m) = true
leaves _ = false

-- it is done in both
pub record Flew (n : ℕ) (fs gs : List FlightWire) (y z : Flying) : Type 0 where
  pub both : Both (next_by y n) (flown y n fs) (flown z n gs)
  pub named : (a b : ℕ) → AreNamed n fs gs a b → AreNamed (next_by y n) (flown y n fs) (flown z n gs) a b

-- where no message leaves
pub flew_same : (n : ℕ) (fs gs : List FlightWire) (y : Flying) → Both n fs gs → leaves y ≡ false → Flew n fs gs y y
flew_same n fs gs Stays b h = record { both = b; named = λ c d named. named }
flew_same n fs gs (Sends e m) b h =
    record {
      both = both_more n (n + 1) fs gs (one_sent n e m) b (rise_one n e m);
      named = λ c d named. named_more n (n + 1) fs gs (one_sent n e m) c d b (rise_one n e m) named;
    }
flew_same n fs gs (SendsCopies count e m) b h =
    record {
      both = both_more n (n + count) fs gs (copies_sent n count e m) b (rise_copies n count e m);
      named = λ c d named. named_more n (n + count) fs gs (copies_sent n count e m) c d b (rise_copies n count e m) named;
    }
flew_same n fs gs (Leaves a) b h = absurd (cc (h))
flew_same n fs gs (Answers a e m) b h = absurd (cc (h))

-- where the message of one place leaves in both, and is answered in both or in neither
pub record Sent : Type 0 where
  pub endpoint : ℕ
  pub message : Message

abbrev pub leaving_by : (number : ℕ) → (answer : Option Sent) → Flying
leaving_by a None = Leaves a
leaving_by a (Some sent) = Answers a sent.endpoint sent.message

pub flew_left :
    (n : ℕ) (fs gs : List FlightWire) (a b : ℕ) (s : IsSplit fs a) (t : IsSplit gs b) (answer : Option Sent) → Both n fs gs
    → place_among fs a ≡ place_among gs b
    → Flew n fs gs (leaving_by a answer) (leaving_by b answer)
flew_left n fs gs a b s t None both p =
    record { both = both_left n fs gs a b s t both (are_twins fs gs a b s t p); named = λ c d named. named_left n fs gs a b c d s t both p named }
flew_left n fs gs a b s t (Some sent) both p =
    record {
      both = both_more n (n + 1) (left a fs) (left b gs) (one_sent n sent.endpoint sent.message) gone (rise_one n sent.endpoint sent.message);
      named =
          λ c d named.
          named_more n (n + 1) (left a fs) (left b gs) (one_sent n sent.endpoint sent.message) c d gone (rise_one n sent.endpoint sent.message)
          (named_left n fs gs a b c d s t both p named);
    }
  where
    gone : Both n (left a fs) (left b gs)
    gone = both_left n fs gs a b s t both (are_twins fs gs a b s t p)
