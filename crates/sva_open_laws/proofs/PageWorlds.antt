-- What an act of the world leaves, and what of a page.
use Rattle.std.proofs.Common.{◌≡◌, ◌∙◌, ℕ, zero, suc, Bool, true, false, Option, Some, None, option_map, List, [], ◌∷◌, ◌++◌, map}
use Rattle.std.proofs.Common.{refl, ap, sym, subst, arith}
use Rattle.std.proofs.lemmas.Bool.Decides.{nat_tests}
use Rattle.std.specs.Prelude.{⊤, ◌==◌, max, position, slice_get, slice_set, filter}
use Rattle.std.proofs.lemmas.List.{map-set}
use Rattle.std.proofs.lemmas.Option.{same_Some, slice_get-map}
use Rattle.sva_open.specs.declared.frames.Tenure.{Tenure}
use Rattle.sva_open.specs.declared.frames.Mapping.{Mapping}
use Rattle.sva_open.specs.declared.messages.Message.{Message}
use Rattle.sva_open.specs.declared.messages.Message.TheVariants as message
use Rattle.sva_open.specs.declared.settings.Settings.{Settings}
use Rattle.sva_open.specs.declared.acts.Act.{Act}
use Rattle.sva_open.specs.declared.acts.Act.TheVariants as act
use Rattle.sva_open.specs.declared.acts.LocalAct.{LocalAct}
use Rattle.sva_open.specs.declared.acts.LocalAct.TheVariants as local
use Rattle.sva_open.specs.World.{Open, Part, if_so, lowest_free}
use Rattle.sva_open.specs.Acts.{at_endpoint, done_at, free_frame, freeze, is_other_page, next_open, next_part, parts_after, set_page, with_parts, without_page}
use Rattle.sva_open.specs.Devices.{above_arrived, above_filed, above_message, above_received, above_sent, fault, fresh_number, highest}
use Rattle.sva_open.specs.Units as unit
use Rattle.sva_open_laws.specs.Pages.{its_act, its_local, its_local_at, its_message, its_part, its_sent, its_world, leads_at, next_by}
use Rattle.sva_open_laws.proofs.Filters.{filter_both, filter_inner, filter_left, filter_without}
use Rattle.sva_open.specs.Below.{about, matter_of}
use Rattle.sva_open.specs.Below.Matter.{OwnEndpoint}
use Rattle.sva_open_laws.proofs.PageBelow.{IsLedTo, IsQuiet, own_about, quietly, same_about, shared_led}
use Rattle.sva_open_laws.proofs.PageActs as its
use Rattle.sva_open_laws.proofs.PageActs.{IsLed, next_at}
use Rattle.sva_open_laws.proofs.PageBarriers as barriers
use Rattle.sva_open_laws.proofs.PagePlaces as place
use Rattle.sva_open_laws.proofs.PageTimes as times
use Rattle.sva_open_laws.proofs.PageLinks as link
use Rattle.sva_open_laws.proofs.PageLinks.{IsTaggedAt}

-- ---- what is asked of a moment

abbrev pub IsTaggedFor : Part → LocalAct → Type 0
IsTaggedFor part (local.Deliver place) = IsTaggedAt part (slice_get part.flight place)
IsTaggedFor part its = ⊤

abbrev pub IsTaggedIn : Option Part → LocalAct → Type 0
IsTaggedIn None its = ⊤
IsTaggedIn (Some part) its = IsTaggedFor part its

abbrev pub IsTaggedBefore : Open → Act → Type 0
IsTaggedBefore now (act.At endpoint its) = IsTaggedIn (slice_get now.parts endpoint) its
IsTaggedBefore now one = ⊤

-- ---- the number of a new group

highest_in : {X : Type 0} (at : X → ℕ) (f : X → X) → ((x : X) → at x ≡ at (f x)) → (xs : List X) → highest at xs ≡ highest at (map f xs)
highest_in at f h [] = refl
highest_in at f h (x ∷ xs) = λ i. max (h x i) (highest_in at f h xs i)

numbered : (page : ℕ) (index number : ℕ) (one : Message)
    → above_message index number one ≡ above_message index number (its_message page one)
numbered page index number (message.PageRequest request) = refl
numbered page index number (message.Start pasid) = refl
numbered page index number (message.Stop pasid) = refl
numbered page index number message.Reset = refl
numbered page index number (message.Completion tag own target) = refl
numbered page index number (message.Invalidate itag scope) = refl
numbered page index number (message.Response own fails filed) = refl
numbered page index number (message.Request tag pasid other) = refl
numbered page index number (message.Invalidated itag) = refl
numbered page index number (message.Marker pasid) = refl
numbered page index number (message.Status pasid) = refl
numbered page index number message.ResetDone = refl
numbered page index number (message.Barrier barrier) = refl
numbered page index number (message.Passed barrier) = refl

same_number : (page : ℕ) (part : Part) → fresh_number part ≡ fresh_number (its_part page part)
same_number page part =
    let index = lowest_free part.groups in
    λ i. max (highest_in (above_sent index) (its_sent page)
    (λ one. numbered page index one.number one.message) part.flight i)
    (max (highest (above_received index) part.received)
    (max (highest (above_arrived index) part.arrived) (highest (above_filed index) part.filed)))

-- ---- at an endpoint

pub act_at : (page : ℕ) (settings : Settings) (mappings : List Mapping) (part : Part) (own : LocalAct) → IsTaggedFor part own
    → IsLed page (next_part settings mappings part own) (next_at page settings mappings part (its_local page part own))
act_at page settings mappings part (local.SetEntry pasid space) h = its.set_entry page part pasid space (slice_get part.rows pasid)
act_at page settings mappings part (local.Replace pasid space) h = its.replace page part pasid space (slice_get part.rows pasid)
act_at page settings mappings part (local.ClearEntry pasid) h = its.clear_entry page part pasid (slice_get part.rows pasid)
act_at page settings mappings part (local.Start pasid) h = its.start page part pasid (slice_get part.rows pasid)
act_at page settings mappings part (local.Stop pasid) h = its.stop page part pasid (slice_get part.rows pasid)
act_at page settings mappings part (local.Barrier barrier) h = its.sends page part 0 part.time (message.Barrier barrier)
act_at page settings mappings part local.Reset h = its.reset page part
act_at page settings mappings part (local.Submit descriptors) h = its.submit page part descriptors.items
act_at page settings mappings part local.Close h = its.close page part
act_at page settings mappings part local.Reopen h = its.reopen page part
act_at page settings mappings part local.Skip h = its.skip page part (position unit.isnt_out part.queue)
act_at page settings mappings part local.Resume h = refl
act_at page settings mappings part (local.AwaitWait name) h = its.await_wait page part name
act_at page settings mappings part (local.AwaitStopped pasid) h = its.await_stopped page part pasid (slice_get part.rows pasid)
act_at page settings mappings part (local.AwaitPassed pasid thread) h = barriers.await_passed page part pasid thread
act_at page settings mappings part local.AwaitQueue h = its.await_queue page part
act_at page settings mappings part (local.AwaitQueueOf pasid) h = its.await_queue_of page part pasid
act_at page settings mappings part (local.AwaitGroups pasid) h = its.await_groups page part pasid
act_at page settings mappings part local.AwaitResets h = its.await_resets page part
act_at page settings mappings part (local.Turn control on) h = its.turned page part control on
act_at page settings mappings part local.AwaitIdle h = its.await_idle page part
act_at page settings mappings part local.AwaitGone h = link.await_gone page part
act_at page settings mappings part local.Serve h = its.serve page part (slice_get part.arrived 0)
act_at page settings mappings part (local.Respond pasid index fails) h = its.respond page part pasid index fails
act_at page settings mappings part (local.RespondAll pasid fails) h = its.respond_all page part pasid fails
act_at page settings mappings part (local.Discard pasid) h = refl
act_at page settings mappings part (local.FreePasid pasid) h = its.free_pasid page part pasid (slice_get part.rows pasid)
act_at page settings mappings part (local.Ask pasid other) h = place.ask page part pasid other (slice_get part.rows pasid)
act_at page settings mappings part (local.Use pasid other) h = place.use_of page settings mappings part pasid other (other == page) refl
act_at page settings mappings part (local.End at) h = place.end_use page settings mappings part at (slice_get part.works at) refl
act_at page settings mappings part (local.Evict pasid other) h = place.evict page settings mappings part pasid other
act_at page settings mappings part (local.Fault pasid other write last) h =
    subst (λ n. IsLed page (fault part pasid other write last (fresh_number part) (slice_get part.rows pasid))
    (fault (its_part page part) pasid other write last n (slice_get part.rows pasid))) (same_number page part)
    (its.fault page part pasid other write last (fresh_number part) (slice_get part.rows pasid))
act_at page settings mappings part (local.More index other write last) h = its.more page part index other write last (slice_get part.groups index)
act_at page settings mappings part (local.Finish at) h = place.finish page settings mappings part at (slice_get part.works at) refl
act_at page settings mappings part (local.Pass at) h = barriers.pass page settings mappings part at (slice_get part.works at) refl
act_at page settings mappings part (local.Quit pasid) h = its.quit page settings.stopped part pasid (slice_get part.rows pasid)
act_at page settings mappings part local.Leave h = its.leave page part
act_at page settings mappings part local.Pump h = place.pump page settings part
act_at page settings mappings part (local.PumpAt at) h = place.pump_at page settings part at
act_at page settings mappings part (local.Expire itag silent) h = times.expire page settings part itag silent
act_at page settings mappings part local.Write h = its.write page settings part (slice_get part.received 0)
act_at page settings mappings part (local.ForgetEntry at) h = place.forget_entry page part at (slice_get part.kept_entries at)
act_at page settings mappings part (local.Forget at) h = place.forget page settings mappings part at (slice_get part.kept at) refl
act_at page settings mappings part (local.Deliver at) h = link.deliver page settings mappings part at h

-- ---- in the world

with_mappings : (page : ℕ) (now : Open) (one other : List Mapping) → filter (leads_at page) one ≡ other
    → its_world page (record now { mappings = one }) ≡ record (its_world page now) { mappings = other }
with_mappings page now one other h = λ i. record (its_world page now) { mappings = h i }

put : (page : ℕ) (now : Open) (at : ℕ) (one other : Option Part) → IsLed page one other
    → IsLedTo page (option_map (with_parts now) (option_map (slice_set now.parts at) one))
    (option_map (with_parts (its_world page now)) (option_map (slice_set (map (its_part page) now.parts) at) other))
put page now at None other h = tt
put page now at (Some one) (Some other) h = λ i. record (its_world page now) {
  parts = (map-set (its_part page) now.parts at one ∙ ap (slice_set (map (its_part page) now.parts) at) h) i;
}
put page now at (Some one) None h = h

set_same : {A : Type 0} (xs : List A) (at : ℕ) (x : A) → slice_get xs at ≡ Some x → slice_set xs at x ≡ xs
set_same [] at x h = refl
set_same (y ∷ xs) zero x h = let same : y ≡ x = cc in λ i. sym same i ∷ xs
set_same (y ∷ xs) (suc at) x h = ap (λ l. y ∷ l) (set_same xs at x h)

found : (page : ℕ) (parts : List Part) (at : ℕ) (part : Part) → slice_get parts at ≡ Some part
    → slice_get (map (its_part page) parts) at ≡ Some (its_part page part)
found page parts at part h = slice_get-map (its_part page) parts at ∙ ap (option_map (its_part page)) h

-- what an act leaves of its own endpoint, where there is one
abbrev next_own : Open → (endpoint : ℕ) → Option LocalAct → Option Open
next_own now endpoint None = Some now
next_own now endpoint (Some own) = at_endpoint now endpoint own

at_own : (page : ℕ) (now : Open) (endpoint : ℕ) (part : Part) (one : Option Part) (own : Option LocalAct) → slice_get now.parts endpoint ≡ Some part
    → IsLed page one (next_at page now.settings now.mappings part own)
    → IsLedTo page (option_map (with_parts now) (option_map (slice_set now.parts endpoint) one)) (next_own (its_world page now) endpoint own)
at_own page now endpoint part one None h led =
    subst (λ (parts : List Part). IsLedTo page (option_map (with_parts now) (option_map (slice_set now.parts endpoint) one))
    (Some (with_parts (its_world page now) parts)))
    (set_same (map (its_part page) now.parts) endpoint (its_part page part) (found page now.parts endpoint part h))
    (put page now endpoint one (Some (its_part page part)) led)
at_own page now endpoint part one (Some own) h led =
    subst (λ (o : Option Part). IsLedTo page (option_map (with_parts now) (option_map (slice_set now.parts endpoint) one))
    (option_map (with_parts (its_world page now))
    (parts_after now.settings (filter (leads_at page) now.mappings) (map (its_part page) now.parts) endpoint own o)))
    (sym (found page now.parts endpoint part h))
    (put page now endpoint one (next_part now.settings (filter (leads_at page) now.mappings) (its_part page part) own) led)

at_by : (page : ℕ) (now : Open) (endpoint : ℕ) (own : LocalAct) (o : Option Part) → slice_get now.parts endpoint ≡ o → IsTaggedIn o own
    → IsLedTo page (option_map (with_parts now) (parts_after now.settings now.mappings now.parts endpoint own o))
    (next_own (its_world page now) endpoint (its_local_at page o own))
at_by page now endpoint own None h is = tt
at_by page now endpoint own (Some part) h is =
    at_own page now endpoint part _ (its_local page part own) h (act_at page now.settings now.mappings part own is)

-- ---- with what the others see of it

always_there : (page : ℕ) (own : LocalAct) → ((part : Part) → its_local page part own ≡ Some own) → (o : Option Part)
    → its_local_at page o own ≡ Some own
always_there page own h None = refl
always_there page own h (Some part) = h part

untagged_serve : (o : Option Part) → IsTaggedIn o local.Serve
untagged_serve None = tt
untagged_serve (Some part) = tt

untagged_write : (o : Option Part) → IsTaggedIn o local.Write
untagged_write None = tt
untagged_write (Some part) = tt

untagged_pump : (o : Option Part) → IsTaggedIn o local.Pump
untagged_pump None = tt
untagged_pump (Some part) = tt

untagged_pump_at : (place : ℕ) (o : Option Part) → IsTaggedIn o (local.PumpAt place)
untagged_pump_at place None = tt
untagged_pump_at place (Some part) = tt

-- an act that is there for each page, at the endpoint that it is about
done_led : (page : ℕ) (now : Open) (at : ℕ) (own : LocalAct) → ((o : Option Part) → its_local_at page o own ≡ Some own)
    → IsTaggedIn (slice_get now.parts at) own → IsLedTo page (done_at now at own) (done_at (its_world page now) at own)
done_led page now at own there h =
    shared_led page now.units at own now.parts _ _
    (subst (λ (it : Option LocalAct). IsLedTo page (at_endpoint now at own) (next_own (its_world page now) at it))
    (there (slice_get now.parts at)) (at_by page now at own (slice_get now.parts at) refl h))

next_led : (page : ℕ) (now : Open) (endpoint : ℕ) (own : LocalAct) → ((o : Option Part) → its_local_at page o own ≡ Some own)
    → IsTaggedIn (slice_get now.parts (about now.units endpoint own (slice_get now.parts endpoint))) own
    → IsLedTo page (next_open now (act.At endpoint own))
    (next_by (its_world page now) (option_map (act.At endpoint) (its_local_at page (slice_get now.parts endpoint) own)))
next_led page now endpoint own there h =
    subst (λ (it : Option LocalAct). IsLedTo page (next_open now (act.At endpoint own)) (next_by (its_world page now) (option_map (act.At endpoint) it)))
    (sym (there (slice_get now.parts endpoint)))
    (subst (λ (at : ℕ). IsLedTo page (next_open now (act.At endpoint own)) (done_at (its_world page now) at own))
    (same_about page now endpoint own)
    (done_led page now (about now.units endpoint own (slice_get now.parts endpoint)) own there h))

own_led : (page : ℕ) (now : Open) (endpoint : ℕ) (own : LocalAct) → matter_of own ≡ OwnEndpoint
    → ((o : Option Part) → its_local_at page o own ≡ Some own) → IsTaggedIn (slice_get now.parts endpoint) own
    → IsLedTo page (next_open now (act.At endpoint own))
    (next_by (its_world page now) (option_map (act.At endpoint) (its_local_at page (slice_get now.parts endpoint) own)))
own_led page now endpoint own is there h =
    next_led page now endpoint own there
    (subst (λ (at : ℕ). IsTaggedIn (slice_get now.parts at) own)
    (sym (own_about now.units endpoint own (slice_get now.parts endpoint) is)) h)

unit_led : (page : ℕ) (now : Open) (endpoint : ℕ) (own : LocalAct) → ((o : Option Part) → its_local_at page o own ≡ Some own)
    → ((o : Option Part) → IsTaggedIn o own)
    → IsLedTo page (next_open now (act.At endpoint own))
    (next_by (its_world page now) (option_map (act.At endpoint) (its_local_at page (slice_get now.parts endpoint) own)))
unit_led page now endpoint own there h = next_led page now endpoint own there (h _)

-- an act of one page alone, of which no other endpoint sees anything
abbrev AreQuiet : Option LocalAct → Type 0
AreQuiet o = (own : LocalAct) → o ≡ Some own → IsQuiet own

quiet_if : (b : Bool) (own : LocalAct) → IsQuiet own → AreQuiet (if_so b own)
quiet_if true own h other is = subst (λ (it : LocalAct). IsQuiet it) (same_Some _ _ is) h
quiet_if false own h other is = absurd (cc is)

use_quiet : (page : ℕ) (o : Option Part) (pasid other : ℕ) → AreQuiet (its_local_at page o (local.Use pasid other))
use_quiet page None pasid other = quiet_if true (local.Use pasid other) (record { matter = refl; apart = refl; waits = refl })
use_quiet page (Some part) pasid other = quiet_if (other == page) (local.Use pasid other) (record { matter = refl; apart = refl; waits = refl })

evict_quiet : (page : ℕ) (o : Option Part) (pasid other : ℕ) → AreQuiet (its_local_at page o (local.Evict pasid other))
evict_quiet page None pasid other = quiet_if true (local.Evict pasid other) (record { matter = refl; apart = refl; waits = refl })
evict_quiet page (Some part) pasid other = quiet_if (other == page) (local.Evict pasid other) (record { matter = refl; apart = refl; waits = refl })

end_quiet : (page : ℕ) (o : Option Part) (place : ℕ) → AreQuiet (its_local_at page o (local.End place))
end_quiet page None place = quiet_if true (local.End place) (record { matter = refl; apart = refl; waits = refl })
end_quiet page (Some part) place = quiet_if _ (local.End _) (record { matter = refl; apart = refl; waits = refl })

finish_quiet : (page : ℕ) (o : Option Part) (place : ℕ) → AreQuiet (its_local_at page o (local.Finish place))
finish_quiet page None place = quiet_if true (local.Finish place) (record { matter = refl; apart = refl; waits = refl })
finish_quiet page (Some part) place = quiet_if _ (local.Finish _) (record { matter = refl; apart = refl; waits = refl })

pass_quiet : (page : ℕ) (o : Option Part) (place : ℕ) → AreQuiet (its_local_at page o (local.Pass place))
pass_quiet page None place = quiet_if true (local.Pass place) (record { matter = refl; apart = refl; waits = refl })
pass_quiet page (Some part) place = quiet_if _ (local.Pass _) (record { matter = refl; apart = refl; waits = refl })

forget_quiet : (page : ℕ) (o : Option Part) (place : ℕ) → AreQuiet (its_local_at page o (local.Forget place))
forget_quiet page None place = quiet_if true (local.Forget place) (record { matter = refl; apart = refl; waits = refl })
forget_quiet page (Some part) place = quiet_if _ (local.Forget _) (record { matter = refl; apart = refl; waits = refl })

next_quiet : (now : Open) (endpoint : ℕ) (o : Option LocalAct) → AreQuiet o → next_by now (option_map (act.At endpoint) o) ≡ next_own now endpoint o
next_quiet now endpoint None h = refl
next_quiet now endpoint (Some own) h = quietly now endpoint own (h own refl)

quiet_led : (page : ℕ) (now : Open) (endpoint : ℕ) (own : LocalAct) → IsQuiet own → IsTaggedIn (slice_get now.parts endpoint) own
    → AreQuiet (its_local_at page (slice_get now.parts endpoint) own)
    → IsLedTo page (next_open now (act.At endpoint own))
    (next_by (its_world page now) (option_map (act.At endpoint) (its_local_at page (slice_get now.parts endpoint) own)))
quiet_led page now endpoint own is h quiet =
    subst (λ (o : Option Open). IsLedTo page (next_open now (act.At endpoint own)) o)
    (sym (next_quiet (its_world page now) endpoint (its_local_at page (slice_get now.parts endpoint) own) quiet))
    (subst (λ (o : Option Open). IsLedTo page o (next_own (its_world page now) endpoint (its_local_at page (slice_get now.parts endpoint) own)))
    (sym (quietly now endpoint own is))
    (at_by page now endpoint own (slice_get now.parts endpoint) refl h))

acts_led : (page : ℕ) (now : Open) (endpoint : ℕ) (own : LocalAct) → IsTaggedIn (slice_get now.parts endpoint) own
    → IsLedTo page (next_open now (act.At endpoint own))
    (next_by (its_world page now) (option_map (act.At endpoint) (its_local_at page (slice_get now.parts endpoint) own)))
acts_led page now endpoint (local.SetEntry pasid space) h = own_led page now endpoint _ refl (always_there page _ (λ part. refl)) h
acts_led page now endpoint (local.Replace pasid space) h = own_led page now endpoint _ refl (always_there page _ (λ part. refl)) h
acts_led page now endpoint (local.ClearEntry pasid) h = own_led page now endpoint _ refl (always_there page _ (λ part. refl)) h
acts_led page now endpoint (local.Start pasid) h = own_led page now endpoint _ refl (always_there page _ (λ part. refl)) h
acts_led page now endpoint (local.Stop pasid) h = own_led page now endpoint _ refl (always_there page _ (λ part. refl)) h
acts_led page now endpoint local.Reset h = own_led page now endpoint _ refl (always_there page _ (λ part. refl)) h
acts_led page now endpoint (local.Barrier barrier) h = own_led page now endpoint _ refl (always_there page _ (λ part. refl)) h
acts_led page now endpoint (local.Submit descriptors) h = own_led page now endpoint _ refl (always_there page _ (λ part. refl)) h
acts_led page now endpoint local.Close h = own_led page now endpoint _ refl (always_there page _ (λ part. refl)) h
acts_led page now endpoint local.Reopen h = own_led page now endpoint _ refl (always_there page _ (λ part. refl)) h
acts_led page now endpoint local.Skip h = own_led page now endpoint _ refl (always_there page _ (λ part. refl)) h
acts_led page now endpoint local.Resume h = own_led page now endpoint _ refl (always_there page _ (λ part. refl)) h
acts_led page now endpoint (local.AwaitWait name) h = own_led page now endpoint _ refl (always_there page _ (λ part. refl)) h
acts_led page now endpoint (local.AwaitStopped pasid) h = own_led page now endpoint _ refl (always_there page _ (λ part. refl)) h
acts_led page now endpoint (local.AwaitPassed pasid thread) h = own_led page now endpoint _ refl (always_there page _ (λ part. refl)) h
acts_led page now endpoint local.AwaitQueue h = own_led page now endpoint _ refl (always_there page _ (λ part. refl)) h
acts_led page now endpoint (local.AwaitQueueOf pasid) h = own_led page now endpoint _ refl (always_there page _ (λ part. refl)) h
acts_led page now endpoint (local.AwaitGroups pasid) h = own_led page now endpoint _ refl (always_there page _ (λ part. refl)) h
acts_led page now endpoint local.AwaitResets h = own_led page now endpoint _ refl (always_there page _ (λ part. refl)) h
acts_led page now endpoint (local.Turn control on) h = own_led page now endpoint _ refl (always_there page _ (λ part. refl)) h
acts_led page now endpoint local.AwaitIdle h = own_led page now endpoint _ refl (always_there page _ (λ part. refl)) h
acts_led page now endpoint local.AwaitGone h = own_led page now endpoint _ refl (always_there page _ (λ part. refl)) h
acts_led page now endpoint local.Serve h = unit_led page now endpoint _ (always_there page _ (λ part. refl)) (λ o. untagged_serve o)
acts_led page now endpoint (local.Respond pasid index fails) h = own_led page now endpoint _ refl (always_there page _ (λ part. refl)) h
acts_led page now endpoint (local.RespondAll pasid fails) h = own_led page now endpoint _ refl (always_there page _ (λ part. refl)) h
acts_led page now endpoint (local.Discard pasid) h = own_led page now endpoint _ refl (always_there page _ (λ part. refl)) h
acts_led page now endpoint (local.FreePasid pasid) h = own_led page now endpoint _ refl (always_there page _ (λ part. refl)) h
acts_led page now endpoint (local.Ask pasid other) h = own_led page now endpoint _ refl (always_there page _ (λ part. refl)) h
acts_led page now endpoint (local.Use pasid other) h =
    quiet_led page now endpoint _ (record { matter = refl; apart = refl; waits = refl }) h (use_quiet page (slice_get now.parts endpoint) pasid other)
acts_led page now endpoint (local.End place) h =
    quiet_led page now endpoint _ (record { matter = refl; apart = refl; waits = refl }) h (end_quiet page (slice_get now.parts endpoint) place)
acts_led page now endpoint (local.Evict pasid other) h =
    quiet_led page now endpoint _ (record { matter = refl; apart = refl; waits = refl }) h (evict_quiet page (slice_get now.parts endpoint) pasid other)
acts_led page now endpoint (local.Fault pasid other write last) h = own_led page now endpoint _ refl (always_there page _ (λ part. refl)) h
acts_led page now endpoint (local.More index other write last) h = own_led page now endpoint _ refl (always_there page _ (λ part. refl)) h
acts_led page now endpoint (local.Finish place) h =
    quiet_led page now endpoint _ (record { matter = refl; apart = refl; waits = refl }) h (finish_quiet page (slice_get now.parts endpoint) place)
acts_led page now endpoint (local.Pass place) h =
    quiet_led page now endpoint _ (record { matter = refl; apart = refl; waits = refl }) h (pass_quiet page (slice_get now.parts endpoint) place)
acts_led page now endpoint (local.Quit pasid) h = own_led page now endpoint _ refl (always_there page _ (λ part. refl)) h
acts_led page now endpoint local.Leave h = own_led page now endpoint _ refl (always_there page _ (λ part. refl)) h
acts_led page now endpoint local.Pump h = unit_led page now endpoint _ (always_there page _ (λ part. refl)) (λ o. untagged_pump o)
acts_led page now endpoint (local.PumpAt place) h =
    unit_led page now endpoint _ (always_there page _ (λ part. refl)) (λ o. untagged_pump_at place o)
acts_led page now endpoint (local.Expire itag silent) h = own_led page now endpoint _ refl (always_there page _ (λ part. refl)) h
acts_led page now endpoint local.Write h = unit_led page now endpoint _ (always_there page _ (λ part. refl)) (λ o. untagged_write o)
acts_led page now endpoint (local.ForgetEntry place) h = own_led page now endpoint _ refl (always_there page _ (λ part. refl)) h
acts_led page now endpoint (local.Forget place) h =
    quiet_led page now endpoint _ (record { matter = refl; apart = refl; waits = refl }) h (forget_quiet page (slice_get now.parts endpoint) place)
acts_led page now endpoint (local.Deliver place) h = own_led page now endpoint _ refl (always_there page _ (λ part. refl)) h

-- ---- in memory

page_left : (page space other : ℕ) (mapping : Mapping) → (other == page) ≡ false → leads_at page mapping ≡ true → is_other_page space other mapping ≡ true
page_left page space other mapping h k = grind (arith, nat_tests)

set_by : (page : ℕ) (now : Open) (space other frame : ℕ) (write : Bool) (b : Bool) (o : Option Tenure) → slice_get now.frames frame ≡ o → (other == page) ≡ b
    → IsLedTo page (set_page now space other frame write o) (next_by (its_world page now) (if_so b (act.SetPage space other frame write)))
set_by page now space other frame write b None h is = tt
set_by page now space other frame write true (Some tenure) h is =
    subst (λ (o : Option Tenure). IsLedTo page (set_page now space other frame write (Some tenure))
    (set_page (its_world page now) space other frame write o)) (sym h)
    (with_mappings page now _ _ (filter_left (leads_at page) (without_page space other now.mappings) _ is
    ∙ ap (λ (l : List Mapping). l ++ (record { space = space; page = other; target = record { frame = frame; tenure = tenure; write = write } }) ∷ [])
    (filter_both (leads_at page) (is_other_page space other) now.mappings)))
set_by page now space other frame write false (Some tenure) h is =
    with_mappings page now _ _ (filter_without (leads_at page) (without_page space other now.mappings) _ is
    ∙ filter_inner (leads_at page) (is_other_page space other) (λ mapping. page_left page space other mapping is) now.mappings)

clear_by : (page : ℕ) (now : Open) (space other : ℕ) (b : Bool) → (other == page) ≡ b
    → IsLedTo page (Some (record now { mappings = without_page space other now.mappings })) (next_by (its_world page now) (if_so b (act.ClearPage space other)))
clear_by page now space other true is =
    with_mappings page now _ _ (filter_both (leads_at page) (is_other_page space other) now.mappings)
clear_by page now space other false is =
    with_mappings page now _ _ (filter_inner (leads_at page) (is_other_page space other) (λ mapping. page_left page space other mapping is) now.mappings)

given : (page : ℕ) (now : Open) (frame : ℕ) (o : Option Tenure) → IsLedTo page (free_frame now frame o) (free_frame (its_world page now) frame o)
given page now frame None = tt
given page now frame (Some tenure) = refl

frozen : (page : ℕ) (now : Open) (frame : ℕ) (o : Option Tenure) → IsLedTo page (freeze now frame o) (freeze (its_world page now) frame o)
frozen page now frame None = tt
frozen page now frame (Some tenure) = refl

pub act_in : (page : ℕ) (now : Open) (one : Act) → IsTaggedBefore now one
    → IsLedTo page (next_open now one) (next_by (its_world page now) (its_act page now one))
act_in page now act.Mark h = refl
act_in page now (act.SetPage space other frame write) h = set_by page now space other frame write (other == page) (slice_get now.frames frame) refl refl
act_in page now (act.ClearPage space other) h = clear_by page now space other (other == page) refl
act_in page now (act.FreeFrame frame) h = given page now frame (slice_get now.frames frame)
act_in page now (act.Freeze frame) h = frozen page now frame (slice_get now.frames frame)
act_in page now (act.FreeSpace space) h = refl
act_in page now (act.FreeDomain space) h = refl
act_in page now (act.At endpoint own) h = acts_led page now endpoint own h
