-- Whatever an act leaves of a world weighs less than what was there, with its price.
use Rattle.std.proofs.Common.{◌≡◌, ◌∙◌, ◌⊎◌, inl, inr, ◌<◌, ◌≤◌, ℕ, ◌+◌, Bool, true, false, Option, Some, None, option_map, List, [], ◌∷◌, map}
use Rattle.std.proofs.Common.{refl, ap, sym, subst, arith}
use Rattle.std.proofs.lemmas.Option.{same_Some}
use Rattle.std.specs.Prelude.{⊤, ◌==◌, ◌&&◌, not, if◌then◌else◌, position, slice_get, slice_set}
use Rattle.std.specs.List.{list_any}
use Rattle.sva_open.specs.declared.frames.Tenure.{Tenure}
use Rattle.sva_open.specs.declared.frames.Mapping.{Mapping}
use Rattle.sva_open.specs.declared.descriptors.Descriptor.{Descriptor}
use Rattle.sva_open.specs.declared.settings.Settings.{Settings}
use Rattle.sva_open.specs.declared.acts.Act.{Act}
use Rattle.sva_open.specs.declared.acts.Act.TheVariants as act
use Rattle.sva_open.specs.declared.acts.LocalAct.{LocalAct}
use Rattle.sva_open.specs.declared.acts.LocalAct.TheVariants as local
use Rattle.sva_open.specs.World.{Open, Part}
use Rattle.sva_open.specs.Acts.{done_at, free_frame, freeze, next_open, next_part, parts_after, set_page, with_parts}
use Rattle.sva_open.specs.Below.{about, awaits_all, head_of, holds_up, is_of_unit, is_one, left_at, matter_of, shared, told, with_told}
use Rattle.sva_open.specs.Below.{left as left_of}
use Rattle.sva_open.specs.Below.Matter.{OwnEndpoint}
use Rattle.sva_open.specs.Devices as device
use Rattle.sva_open.specs.Units as unit
use Rattle.sva_open_laws.specs.Weights.{AnswersAreFree, AreNumbered, EachActIsPaid, act_price, answers, local_price}
use Rattle.sva_open_laws.specs.Weights.{own_weight, part_weight, unit_weight, world_weight}
use Rattle.sva_open_laws.proofs.Weighed.{put_in}
use Rattle.sva_open_laws.proofs.HostPaid as hosts
use Rattle.sva_open_laws.proofs.HostPaid.{IsBelow}
use Rattle.sva_open_laws.proofs.DevicesPaid as devices
use Rattle.sva_open_laws.proofs.LinksPaid as links
use Rattle.sva_open_laws.proofs.OneUnit.{alone, numbered_set, set_here}
use Rattle.sva_open_laws.proofs.OneUnitActs.{IsLeft, Of, left}
use Rattle.sva_open_laws.proofs.PageBelow.{own_about}
use Rattle.sva_open_laws.proofs.UnitsPaid.{quiet, told_numbered, told_own, told_units}

-- ---- at an endpoint

pub act_at : (settings : Settings) (mappings : List Mapping) (part : Part) (one : LocalAct)
    → IsBelow (part_weight part + local_price one) (next_part settings mappings part one)
act_at settings mappings part (local.SetEntry pasid space) = hosts.set_entry part pasid space (slice_get part.rows pasid) refl
act_at settings mappings part (local.Replace pasid space) = hosts.replace part pasid space (slice_get part.rows pasid) refl
act_at settings mappings part (local.ClearEntry pasid) = hosts.clear_entry part pasid (slice_get part.rows pasid) refl
act_at settings mappings part (local.Start pasid) = hosts.start part pasid (slice_get part.rows pasid)
act_at settings mappings part (local.Stop pasid) = hosts.stop part pasid (slice_get part.rows pasid) refl
act_at settings mappings part local.Reset = hosts.reset part
act_at settings mappings part (local.Barrier barrier) = hosts.barrier part barrier
act_at settings mappings part (local.Submit descriptors) = hosts.submit part descriptors.items
act_at settings mappings part local.Close = hosts.close part
act_at settings mappings part local.Reopen = hosts.reopen part
act_at settings mappings part local.Skip = hosts.skip part (position unit.isnt_out part.queue)
act_at settings mappings part local.Resume = omega arith
act_at settings mappings part (local.AwaitWait name) = hosts.waits part _
act_at settings mappings part (local.AwaitStopped pasid) = hosts.await_stopped part pasid (slice_get part.rows pasid) refl
act_at settings mappings part (local.AwaitPassed pasid thread) = hosts.waits part _
act_at settings mappings part local.AwaitQueue = hosts.waits part _
act_at settings mappings part (local.AwaitQueueOf pasid) = hosts.waits part _
act_at settings mappings part (local.AwaitGroups pasid) = hosts.waits part _
act_at settings mappings part local.AwaitResets = hosts.waits part _
act_at settings mappings part (local.Turn control on) = devices.turned part control on
act_at settings mappings part local.AwaitIdle = hosts.waits part _
act_at settings mappings part local.AwaitGone = hosts.waits part _
act_at settings mappings part local.Serve = hosts.serve part (slice_get part.arrived 0) refl
act_at settings mappings part (local.Respond pasid index fails) = hosts.respond part pasid index fails
act_at settings mappings part (local.RespondAll pasid fails) = hosts.respond_all part pasid fails
act_at settings mappings part (local.Discard pasid) = hosts.discard part pasid
act_at settings mappings part (local.FreePasid pasid) = hosts.free_pasid part pasid (slice_get part.rows pasid) refl
act_at settings mappings part (local.Ask pasid page) = devices.ask part pasid page (slice_get part.rows pasid)
act_at settings mappings part (local.Use pasid page) = devices.use_of part pasid page
act_at settings mappings part (local.End place) = devices.end_use part place (slice_get part.works place) refl
act_at settings mappings part (local.Evict pasid page) = devices.evict part pasid page
act_at settings mappings part (local.Fault pasid page write last) =
    devices.fault part pasid page write last (device.fresh_number part) (slice_get part.rows pasid)
act_at settings mappings part (local.More index page write last) = devices.more part index page write last (slice_get part.groups index) refl
act_at settings mappings part (local.Finish place) = devices.finish part place (slice_get part.works place) refl
act_at settings mappings part (local.Pass place) = devices.pass_barrier settings.stopped part place (slice_get part.works place) refl
act_at settings mappings part (local.Quit pasid) = devices.quit settings.stopped part pasid (slice_get part.rows pasid) refl
act_at settings mappings part local.Leave = devices.leave part
act_at settings mappings part local.Pump = devices.pump settings part
act_at settings mappings part (local.PumpAt place) = devices.pump_at settings part place
act_at settings mappings part (local.Expire itag silent) = devices.expire settings part itag silent
act_at settings mappings part local.Write = devices.write settings part (slice_get part.received 0) refl
act_at settings mappings part (local.ForgetEntry place) = devices.forget_entry part place (slice_get part.kept_entries place) refl
act_at settings mappings part (local.Forget place) = devices.forget part place (slice_get part.kept place) refl
act_at settings mappings part (local.Deliver place) = links.deliver settings mappings part place (slice_get part.flight place) refl

-- an answer to a group that is filed is free
pub answer_at : (settings : Settings) (mappings : List Mapping) (part : Part) (one : LocalAct) → answers part one ≡ true
    → IsBelow (part_weight part + 0) (next_part settings mappings part one)
answer_at settings mappings part (local.Respond pasid index fails) h =
    let less = hosts.respond_filed part pasid index fails h in
    omega (arith, less)
answer_at settings mappings part _ h = absurd (cc)

-- ---- in the world

-- what an act leaves weighs less than so much, where it is permitted; and each endpoint stays at its number
abbrev pub IsPaid : (now : Open) → (bound : ℕ) → Option Open → Type 0
IsPaid now bound None = ⊤
IsPaid now bound (Some next) = (world_weight next < bound) × (AreNumbered now.parts → AreNumbered next.parts)

-- an act at an endpoint, of which those below its unit are told
abbrev set_at : Open → (at : ℕ) → (after : Part) → Open
set_at now at after = with_parts now (slice_set now.parts at after)

abbrev told_by : (units : List ℕ) → Open → (at : ℕ) → LocalAct → (after : Part) → Open
told_by units now at own after =
    with_parts now (map (left_at units at own (head_of own (slice_get now.parts at)) after) (slice_set now.parts at after))

-- where no units are shared nobody is
none_told : (at : ℕ) (own : LocalAct) (head : Option Descriptor) (after : Part) (parts : List Part) → map (left_at [] at own head after) parts ≡ parts
none_told at own head after [] = refl
none_told at own head after (x ∷ xs) = λ i. by (x.endpoint == at) i ∷ none_told at own head after xs i
  where
    none : List ℕ
    none = []

    by : (b : Bool) → (if not b && is_one (slice_get none at) (slice_get none x.endpoint) then left_of own head after x else x) ≡ x
    by true = refl
    by false = refl

behind : (Such : Option Open → Type 0) → Such None → (units : List ℕ) (now : Open) (at : ℕ) (own : LocalAct) (part after : Part)
    → slice_get now.parts at ≡ Some part → (is_of_unit own ≡ false → Such (Some (set_at now at after)))
    → (is_of_unit own ≡ true → Such (Some (told_by units now at own after))) → Such (shared units at own now.parts (Some (set_at now at after)))
behind Such none [] now at own part after found quiet loud = by (is_of_unit own) refl
  where
    by : (b : Bool) → is_of_unit own ≡ b → Such (Some (set_at now at after))
    by true is =
        subst (λ (parts : List Part). Such (Some (with_parts now parts)))
        (none_told at own (head_of own (slice_get now.parts at)) after (slice_set now.parts at after)) (loud is)
    by false is = quiet is
behind Such none (unit ∷ units) now at own part after found quiet loud =
    by (awaits_all own && list_any (holds_up (unit ∷ units) at) now.parts) (is_of_unit own) refl
  where
    head : Option Descriptor
    head = head_of own (slice_get now.parts at)

    by : (b c : Bool) → is_of_unit own ≡ c
        → Such (if b then None
        else (if c then option_map (with_told (unit ∷ units) at own head) (Some (set_at now at after)) else Some (set_at now at after)))
    by true c is = none
    by false true is =
        subst (λ (o : Option Part). Such (Some (with_parts now (told (unit ∷ units) at own head o (slice_set now.parts at after)))))
        (sym (set_here now.parts at part after found)) (loud is)
    by false false is = quiet is

paid_by : (now : Open) (at price : ℕ) (own : LocalAct) (part : Part) (o : Option Part) → (is_of_unit own ≡ true → AreNumbered now.parts)
    → slice_get now.parts at ≡ Some part → Of (IsLeft own) part o → IsBelow (part_weight part + price) o
    → IsPaid now (world_weight now + price)
    (shared now.units at own now.parts (option_map (with_parts now) (option_map (slice_set now.parts at) o)))
paid_by now at price own part None numbered found its less = subst (IsPaid now (world_weight now + price)) (sym (alone now.units at own now.parts)) tt
paid_by now at price own part (Some after) numbered found its less =
    behind (IsPaid now (world_weight now + price)) tt now.units now at own part after found
    (λ is.
    let put = put_in own_weight now.parts at part after found in
    let seen : unit_weight after ≡ unit_weight part = ap unit_weight (its.1 is part) in
    let same = quiet now.units now.parts at part after found its.0 seen in
    (omega (arith, put, seen, same, less), λ h. numbered_set now.parts at part after h found its.0))
    (λ is.
    let head = head_of own (slice_get now.parts at) in
    let put = told_own now.units at own head after now.parts part (numbered is) found its.0 in
    let seen = told_units now.units at own head after now.parts part (numbered is) found its.0 in
    (omega (arith, put, seen, less), λ h. told_numbered now.units at own head after now.parts part h found its.0))

-- what is so of an act at an endpoint, if that is there, is so of it in the world
acts_at : (now : Open) (at price : ℕ) (own : LocalAct) → (is_of_unit own ≡ true → AreNumbered now.parts)
    → ((part : Part) → slice_get now.parts at ≡ Some part → IsBelow (part_weight part + price) (next_part now.settings now.mappings part own))
    → IsPaid now (world_weight now + price) (done_at now at own)
acts_at now at price own numbered less = by (slice_get now.parts at) refl
  where
    by : (o : Option Part) → slice_get now.parts at ≡ o
        → IsPaid now (world_weight now + price)
        (shared now.units at own now.parts (option_map (with_parts now) (parts_after now.settings now.mappings now.parts at own o)))
    by None there = subst (IsPaid now (world_weight now + price)) (sym (alone now.units at own now.parts)) tt
    by (Some part) there =
        paid_by now at price own part (next_part now.settings now.mappings part own) numbered there
        (left now.settings now.mappings part own) (less part there)

-- ---- about its own endpoint, or for nothing

own_or_free : (own : LocalAct) → (matter_of own ≡ OwnEndpoint) ⊎ (local_price own ≡ 0)
own_or_free local.Pump = inr refl
own_or_free (local.PumpAt place) = inr refl
own_or_free local.Serve = inr refl
own_or_free local.Write = inr refl
own_or_free own = inl refl

acts_own : (now : Open) (at price : ℕ) (own : LocalAct) → matter_of own ≡ OwnEndpoint → (is_of_unit own ≡ true → AreNumbered now.parts)
    → ((part : Part) → slice_get now.parts at ≡ Some part → IsBelow (part_weight part + price) (next_part now.settings now.mappings part own))
    → IsPaid now (world_weight now + price) (next_open now (act.At at own))
acts_own now at price own is numbered less =
    subst (λ n. IsPaid now (world_weight now + price) (done_at now n own)) (sym (own_about now.units at own (slice_get now.parts at) is))
    (acts_at now at price own numbered less)

-- what costs less is paid too
pub more_paid : (bound more : ℕ) (o : Option Part) → bound ≤ more → IsBelow bound o → IsBelow more o
more_paid bound more None low h = tt
more_paid bound more (Some next) low h = omega (arith, low, h)

pub acts_for : (now : Open) (at price : ℕ) (own : LocalAct) → AreNumbered now.parts
    → ((part : Part) → slice_get now.parts at ≡ Some part → IsBelow (part_weight part + price) (next_part now.settings now.mappings part own))
    → IsPaid now (world_weight now + price) (next_open now (act.At at own))
acts_for now at price own numbered less = elim (own_or_free own) [
  | inl is ↦ acts_own now at price own is (λ so. numbered) less
  | inr free ↦
      acts_at now (about now.units at own (slice_get now.parts at)) price own (λ so. numbered)
      (λ part there.
      more_paid (part_weight part + local_price own) (part_weight part + price) (next_part now.settings now.mappings part own)
      (omega (arith, free)) (act_at now.settings now.mappings part own))
]

-- ---- each act

sets_page : (now : Open) (space page frame : ℕ) (write : Bool) (o : Option Tenure)
    → IsPaid now (world_weight now + 1) (set_page now space page frame write o)
sets_page now space page frame write None = tt
sets_page now space page frame write (Some tenure) = (omega arith, λ h. h)

frees : (now : Open) (frame : ℕ) (o : Option Tenure) → IsPaid now (world_weight now + 1) (free_frame now frame o)
frees now frame None = tt
frees now frame (Some tenure) = (omega arith, λ h. h)

freezes : (now : Open) (frame : ℕ) (o : Option Tenure) → IsPaid now (world_weight now + 1) (freeze now frame o)
freezes now frame None = tt
freezes now frame (Some tenure) = (omega arith, λ h. h)

pub act_in : (now : Open) (one : Act) → AreNumbered now.parts → IsPaid now (world_weight now + act_price one) (next_open now one)
act_in now act.Mark h = (omega arith, λ h. h)
act_in now (act.SetPage space page frame write) h = sets_page now space page frame write (slice_get now.frames frame)
act_in now (act.ClearPage space page) h = (omega arith, λ h. h)
act_in now (act.FreeFrame frame) h = frees now frame (slice_get now.frames frame)
act_in now (act.Freeze frame) h = freezes now frame (slice_get now.frames frame)
act_in now (act.FreeSpace space) h = (omega arith, λ h. h)
act_in now (act.FreeDomain space) h = (omega arith, λ h. h)
act_in now (act.At at own) h = acts_for now at (local_price own) own h (λ part there. act_at now.settings now.mappings part own)

-- ---- the laws

pub each_act_is_paid : EachActIsPaid
each_act_is_paid now next one numbered h = (subst (IsPaid now (world_weight now + act_price one)) h (act_in now one numbered)).0

-- an answer is about its own endpoint, and isn't of the unit
answers_apart : (part : Part) (own : LocalAct) → answers part own ≡ true → (matter_of own ≡ OwnEndpoint) × (is_of_unit own ≡ false)
answers_apart part (local.Respond pasid index fails) h = (refl, refl)
answers_apart part _ h = absurd (cc)

pub answers_are_free : AnswersAreFree
answers_are_free now next at part own there is h =
    let apart = answers_apart part own is in
    let less = acts_own now at 0 own apart.0 (λ so. absurd (cc (sym apart.1 ∙ so)))
    (λ other same. answer_at now.settings now.mappings other own
    (subst (λ (it : Part). answers it own ≡ true) (same_Some part other (sym there ∙ same)) is)) in
    let its = (subst (IsPaid now (world_weight now + 0)) h less).0 in
    omega (arith, its)
