-- The calls of an endpoint, and what a list of them leaves.
use Rattle.std.specs.Prelude.{◌≡◌, ℕ, Bool, true, List, [], ◌∷◌, is_ok}
use Rattle.sva_msg.specs.declared.messages.Kind.{Kind}
use Rattle.sva_endpoint.specs.declared.permitted.Fault.{Fault}
use Rattle.sva_endpoint.specs.Tables.{Tables}
use Rattle.sva_endpoint.specs.Steps.{asking, after_ask, using, after_begin_use, ending, after_end_use, evicting, after_evict, faulting, after_fault}
use Rattle.sva_endpoint.specs.Steps.{finishing, after_finish, quitting, after_quit}
use Rattle.sva_endpoint.specs.Deliveries.{after_receive}

-- what happens to an endpoint: each of the seven steps that it takes by itself, and a message that comes
pub data Call : Type 0 where
  Ask : (pasid page : ℕ) → Call
  BeginUse : (pasid page : ℕ) (write : Bool) → Call
  EndUse : (slot : ℕ) → Call
  Evict : (pasid page : ℕ) → Call
  SendFault : (fault : Fault) → Call
  Finish : (vector count : ℕ) → Call
  Quit : (pasid : ℕ) → Call
  Receive : (kind : Kind) → Call

-- may the call be made? A message may come at any time
abbrev pub is_permitted : Tables → Call → Bool
is_permitted tables (Ask pasid page) = is_ok (asking tables pasid page)
is_permitted tables (BeginUse pasid page write) = is_ok (using tables pasid page write)
is_permitted tables (EndUse slot) = is_ok (ending tables slot)
is_permitted tables (Evict pasid page) = is_ok (evicting tables pasid page)
is_permitted tables (SendFault fault) = is_ok (faulting tables fault)
is_permitted tables (Finish vector count) = is_ok (finishing tables vector count)
is_permitted tables (Quit pasid) = is_ok (quitting tables pasid)
is_permitted tables (Receive kind) = true

-- what a call leaves of the endpoint's tables; of one that isn't permitted nothing is claimed
abbrev pub after : Tables → Call → Tables
after tables (Ask pasid page) = after_ask tables pasid page
after tables (BeginUse pasid page write) = after_begin_use tables pasid page
after tables (EndUse slot) = after_end_use tables slot
after tables (Evict pasid page) = after_evict tables pasid page
after tables (SendFault fault) = after_fault tables fault
after tables (Finish vector count) = after_finish tables vector
after tables (Quit pasid) = after_quit tables pasid
after tables (Receive kind) = after_receive tables kind

-- what a list of calls leaves of the endpoint's tables, one call after another
abbrev pub run : Tables → List Call → Tables
run tables [] = tables
run tables (call ∷ calls) = run (after tables call) calls

-- each call is permitted when its turn comes
abbrev pub ArePermitted : Tables → List Call → Type 0
ArePermitted tables [] = Unit {0}
ArePermitted tables (call ∷ calls) = (is_permitted tables call ≡ true) × ArePermitted (after tables call) calls
