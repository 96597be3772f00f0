-- What each act of the host leaves at an endpoint weighs less than what was there, with its price.
use Rattle.std.proofs.Common.{◌≡◌, ◌∙◌, ◌<◌, ◌≤◌, ℕ, ◌+◌, Bool, true, false, Option, Some, None, List, [], ◌∷◌, ◌++◌, map, refl, ap, arith}
use Rattle.std.proofs.lemmas.List.Filters.{sum_by-filter_both}
use Rattle.std.proofs.lemmas.List.Sums.{sum_by-append, sum_by-cons, sum_by_push}
use Rattle.std.specs.Prelude.{⊤, ◌==◌, not, if◌then◌else◌, filter, is_some, position, remove, slice_get, sum_by}
use Rattle.std.specs.List.{list_any}
use Rattle.sva_open.specs.declared.rows.Row.{Row}
use Rattle.sva_open.specs.declared.messages.Barrier.{Barrier}
use Rattle.sva_open.specs.declared.messages.Message.{Message}
use Rattle.sva_open.specs.declared.messages.Message.TheVariants as message
use Rattle.sva_open.specs.declared.descriptors.Arrived.{Arrived}
use Rattle.sva_open.specs.declared.descriptors.Descriptor.{Descriptor}
use Rattle.sva_open.specs.declared.descriptors.Filed.{Filed}
use Rattle.sva_open.specs.World.{Part, if_so, sent, with_row}
use Rattle.sva_open.specs.Host as host
use Rattle.sva_open_laws.specs.Weights.{arrived_weight, descriptor_weight, filed_weight, message_weight, part_weight}
use Rattle.sva_open_laws.specs.Weights.{received_weight, row_weight, sent_weight, state_weight}
use Rattle.sva_open_laws.proofs.Weighed.{left_in, less_out, out, put_in, put_most, there}

-- what an act leaves weighs less than so much, where it is permitted
abbrev pub IsBelow : (bound : ℕ) → Option Part → Type 0
IsBelow bound None = ⊤
IsBelow bound (Some next) = part_weight next < bound

pub where_so : (bound : ℕ) (b : Bool) (next : Part) → (b ≡ true → part_weight next < bound) → IsBelow bound (if_so b next)
where_so bound true next h = h refl
where_so bound false next h = tt

-- ---- one more message, and a row in the place of another

pub sends : (part : Part) (owner number : ℕ) (one : Message) → part_weight (sent part owner number one) ≡ part_weight part + message_weight one
sends part owner number one =
    let more = sum_by_push sent_weight part.flight (record { message = one; owner = owner; number = number }) in
    omega (arith, more)

pub with_state : (part : Part) (pasid : ℕ) (row next : Row) → slice_get part.rows pasid ≡ Some row
    → part_weight (with_row part pasid next) + state_weight row.state ≡ part_weight part + state_weight next.state
with_state part pasid row next h =
    let put = put_in row_weight part.rows pasid row next h in
    omega (arith, put)

-- one of the same state weighs the same
pub same_state : (part : Part) (pasid : ℕ) (row next : Row) → slice_get part.rows pasid ≡ Some row → next.state ≡ row.state
    → part_weight (with_row part pasid next) ≡ part_weight part
same_state part pasid row next h same =
    let put = with_state part pasid row next h in
    let its = ap state_weight same in
    omega (arith, put, its)

-- ---- owners and entries

owned_state : (row : Row) (space : ℕ) (o : Option ℕ) → (host.owned_for row space o).state ≡ row.state
owned_state row space None = refl
owned_state row space (Some own) = by_test (own == space)
  where
    by_test : (b : Bool) → (if b then row else host.with_next_owner row).state ≡ row.state
    by_test true = refl
    by_test false = refl

pub set_entry : (part : Part) (pasid space : ℕ) (o : Option Row) → slice_get part.rows pasid ≡ o
    → IsBelow (part_weight part + 1) (host.set_entry part pasid space o)
set_entry part pasid space None h = tt
set_entry part pasid space (Some row) h =
    let same = same_state part pasid row (host.entered row space) h (owned_state row space row.space) in
    omega (arith, same)

pub replace : (part : Part) (pasid space : ℕ) (o : Option Row) → slice_get part.rows pasid ≡ o
    → IsBelow (part_weight part + 1) (host.replace part pasid space o)
replace part pasid space None h = tt
replace part pasid space (Some row) h =
    let same = same_state part pasid row (host.leading_to row space) h refl in
    omega (arith, same)

pub clear_entry : (part : Part) (pasid : ℕ) (o : Option Row) → slice_get part.rows pasid ≡ o
    → IsBelow (part_weight part + 1) (host.clear_entry part pasid o)
clear_entry part pasid None h = tt
clear_entry part pasid (Some row) h =
    let same = same_state part pasid row (record row { entry = None }) h refl in
    omega (arith, same)

pub free_pasid : (part : Part) (pasid : ℕ) (o : Option Row) → slice_get part.rows pasid ≡ o
    → IsBelow (part_weight part + 1) (host.free_pasid part pasid o)
free_pasid part pasid None h = tt
free_pasid part pasid (Some row) h =
    let same = same_state part pasid row (host.with_next_owner row) h refl in
    omega (arith, same)

-- ---- messages to the endpoint

pub start : (part : Part) (pasid : ℕ) (o : Option Row) → IsBelow (part_weight part + 2) (host.start part pasid o)
start part pasid None = tt
start part pasid (Some row) =
    let more = sends part row.owner part.time (message.Start pasid) in
    omega (arith, more)

pub stop : (part : Part) (pasid : ℕ) (o : Option Row) → slice_get part.rows pasid ≡ o → IsBelow (part_weight part + 4) (host.stop part pasid o)
stop part pasid None h = tt
stop part pasid (Some row) h =
    let same = same_state part pasid row (record row { answer = None }) h refl in
    let more = sends (with_row part pasid (record row { answer = None })) row.owner part.time (message.Stop pasid) in
    omega (arith, same, more)

pub reset : (part : Part) → part_weight (host.reset part) < part_weight part + 3
reset part =
    let more = sends part 0 part.time message.Reset in
    omega (arith, more)

pub barrier : (part : Part) (its : Barrier) → part_weight (host.barrier part its) < part_weight part + 4
barrier part its =
    let more = sends part 0 part.time (message.Barrier its) in
    omega (arith, more)

-- ---- the unit

pub submit : (part : Part) (descriptors : List Descriptor)
    → IsBelow (part_weight part + (sum_by descriptor_weight descriptors + 1)) (host.submit part descriptors)
submit part descriptors =
    let more = sum_by-append descriptor_weight part.queue descriptors in
    where_so _ (host.may_submit part descriptors) (record part { queue = part.queue ++ descriptors }) (λ so. omega (arith, more))

pub close : (part : Part) → IsBelow (part_weight part + 1) (host.close part)
close part =
    let less = left_in received_weight host.is_drain_of_any part.received in
    where_so _ part.is_open
    (record part { is_open = false; received = filter host.is_drain_of_any part.received; arrived = []; filed = [] })
    (λ so. omega (arith, less))

pub reopen : (part : Part) → IsBelow (part_weight part + 1) (host.reopen part)
reopen part =
    where_so _ (not part.is_open) (record part { is_open = true; queue = []; issued = []; is_stalled = false; received = [] }) (λ so. omega arith)

pub skip : (part : Part) (o : Option ℕ) → IsBelow (part_weight part + 1) (host.skip part o)
skip part None = tt
skip part (Some place) =
    let less = less_out descriptor_weight part.queue place in
    omega (arith, less)

-- ---- what the host sees leaves all as it was

pub waits : (part : Part) (b : Bool) → IsBelow (part_weight part + 1) (if_so b part)
waits part b = where_so _ b part (λ so. omega arith)

pub await_stopped : (part : Part) (pasid : ℕ) (o : Option Row) → slice_get part.rows pasid ≡ o
    → IsBelow (part_weight part + 1) (host.await_stopped part pasid o)
await_stopped part pasid None h = tt
await_stopped part pasid (Some row) h =
    let same = same_state part pasid row (record row { answer = None }) h refl in
    where_so _ (is_some row.answer) (with_row part pasid (record row { answer = None })) (λ so. omega (arith, same))

-- ---- page requests

filed_most : (filed : List Filed) (one : Filed) (o : Option ℕ) → sum_by filed_weight (host.filed_at filed one o) ≤ sum_by filed_weight filed + 2
filed_most filed one None =
    let more = sum_by_push filed_weight filed one in
    omega (arith, more)
filed_most filed one (Some place) =
    let most = put_most filed_weight filed place one in
    omega (arith, most)

pub serve : (part : Part) (o : Option Arrived) → slice_get part.arrived 0 ≡ o → IsBelow (part_weight part + 0) (host.serve part o)
serve part None h = tt
serve part (Some one) h =
    let less = out arrived_weight part.arrived 0 one h in
    let most = filed_most part.filed (host.filing (host.space_of (slice_get part.rows one.request.pasid)) one)
    (position (host.is_joined one.request) part.filed) in
    omega (arith, less, most)

-- a response to a group that is filed takes that out
pub answers_one : (part : Part) (index : ℕ) (fails : Bool) (place : ℕ) (filed : Filed) → slice_get part.filed place ≡ Some filed
    → part_weight (host.responded part index fails place (Some filed)) < part_weight part
answers_one part index fails place filed h =
    let less = out filed_weight part.filed place filed h in
    let more = sends (record part { filed = remove part.filed place }) 0 filed.number (message.Response index fails true) in
    omega (arith, less, more)

responded : (part : Part) (index : ℕ) (fails : Bool) (place : ℕ) (o : Option Filed) → slice_get part.filed place ≡ o
    → part_weight (host.responded part index fails place o) < part_weight part + 2
responded part index fails place None h =
    let more = sends part 0 0 (message.Response index fails false) in
    omega (arith, more)
responded part index fails place (Some filed) h =
    let less = answers_one part index fails place filed h in
    omega (arith, less)

respond_at : (part : Part) (index : ℕ) (fails : Bool) (o : Option ℕ) → part_weight (host.respond_at part index fails o) < part_weight part + 2
respond_at part index fails None =
    let more = sends part 0 0 (message.Response index fails false) in
    omega (arith, more)
respond_at part index fails (Some place) = responded part index fails place (slice_get part.filed place) refl

pub respond : (part : Part) (pasid index : ℕ) (fails : Bool) → part_weight (host.respond part pasid index fails) < part_weight part + 2
respond part pasid index fails = respond_at part index fails (position (host.is_group pasid index) part.filed)

pub respond_filed : (part : Part) (pasid index : ℕ) (fails : Bool) → list_any (host.is_group pasid index) part.filed ≡ true
    → part_weight (host.respond part pasid index fails) < part_weight part
respond_filed part pasid index fails is =
    let its = there (host.is_group pasid index) part.filed is in
    let at : host.respond part pasid index fails ≡ host.responded part index fails its.0 (Some its.1) =
    ap (host.respond_at part index fails) its.2 ∙ ap (host.responded part index fails its.0) its.3 in
    let same = ap part_weight at in
    let less = answers_one part index fails its.0 its.1 its.3 in
    omega (arith, same, less)

-- all at once
answered : (fails : Bool) (filed : List Filed) → sum_by sent_weight (map (host.answer_to fails) filed) ≤ sum_by filed_weight filed
answered fails [] = omega arith
answered fails (one ∷ filed) =
    let rest = answered fails filed in
    let more = sum_by-cons sent_weight (host.answer_to fails one) (map (host.answer_to fails) filed) in
    let whole = sum_by-cons filed_weight one filed in
    omega (arith, rest, more, whole)

pub respond_all : (part : Part) (pasid : Option ℕ) (fails : Bool) → part_weight (host.respond_all part pasid fails) < part_weight part + 1
respond_all part pasid fails =
    let whole = filter (host.is_whole_under pasid) part.filed in
    let both = sum_by-filter_both (host.is_whole_under pasid) (host.isnt_whole_under pasid) (λ one. refl) filed_weight part.filed in
    let more = sum_by-append sent_weight part.flight (map (host.answer_to fails) whole) in
    let less = answered fails whole in
    omega (arith, both, more, less)

pub discard : (part : Part) (pasid : Option ℕ) → part_weight (host.discard part pasid) < part_weight part + 1
discard part pasid =
    let less = left_in filed_weight (host.isnt_partial_under pasid) part.filed in
    omega (arith, less)
