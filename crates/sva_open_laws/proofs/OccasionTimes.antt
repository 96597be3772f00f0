-- An invalidation that runs out of time: what that leaves of the whole, and without asks, and without faults.
use Rattle.std.proofs.Common.{◌≡◌, ◌∙◌, ℕ, zero, suc, Bool, true, false, Option, Some, None, refl, ap, ap₂, sym}
use Rattle.std.specs.Prelude.{⊤, ◌==◌, ◌&&◌, ◌||◌, if◌then◌else◌, is_none, is_some, length, not, slice_get}
use Rattle.std.specs.List.{list_any}
use Rattle.std.proofs.lemmas.Bool.{and_parts}
use Rattle.sva_open.specs.declared.scopes.Scope.{Scope}
use Rattle.sva_open.specs.declared.descriptors.Descriptor.{Descriptor}
use Rattle.sva_open.specs.declared.descriptors.Descriptor.TheVariants as descriptor
use Rattle.sva_open.specs.declared.settings.Settings.{Settings}
use Rattle.sva_open.specs.Units as unit
use Rattle.sva_open.specs.World.{Part, if_so}
use Rattle.sva_open_laws.specs.Occasions.{Chain, are_times_apart, is_sent_left, isnt_use, part_without}
use Rattle.sva_open_laws.specs.Occasions.Chain.{Asks, Faults}
use Rattle.sva_open_laws.proofs.Filters.{fewer, filter_both}
use Rattle.sva_open_laws.proofs.OccasionParts.{IsLed, where_so}
use Rattle.sva_open_laws.proofs.PageActs.{and_so, none_still}
use Rattle.sva_open_laws.proofs.PageBarriers.{or_none}
use Rattle.sva_open_laws.proofs.PageTimes.{none_open}

-- ---- whoever answers it

unanswered : (chain : Chain) (part : Part) (itag : ℕ) (silent : Bool) → unit.is_unanswered part itag silent ≡ true
    → unit.is_unanswered (part_without chain part) itag silent ≡ true
unanswered Asks part itag true = none_still _ _ (fewer (is_sent_left Asks) (unit.is_completion_of itag) part.flight)
unanswered Asks part itag false =
    none_still _ _ (or_none _ _ _ _ (fewer (is_sent_left Asks) (unit.is_sent_of itag) part.flight) (fewer isnt_use (unit.is_taken_of itag) part.works))
unanswered Faults part itag true = none_still _ _ (fewer (is_sent_left Faults) (unit.is_completion_of itag) part.flight)
unanswered Faults part itag false =
    none_still _ _ (or_none _ (list_any (unit.is_taken_of itag) part.works) _ _
    (fewer (is_sent_left Faults) (unit.is_sent_of itag) part.flight) (λ none. none))

-- ---- what the unit can take now

-- where no wait needs an empty page request queue
abbrev pub AreDrainsApart : Chain → Settings → Type 0
AreDrainsApart Asks settings = ⊤
AreDrainsApart Faults settings = settings.drain_empties ≡ false

same_pass : (chain : Chain) (settings : Settings) (part : Part) (drain fence : Bool) → AreDrainsApart chain settings
    → unit.may_pass settings part drain fence ≡ unit.may_pass settings (part_without chain part) drain fence
same_pass Asks settings part drain fence h = refl
same_pass Faults settings part drain fence h = ap (by (length part.arrived == 0)) h ∙ sym (ap (by true) h)
  where
    by : (is_empty empties : Bool) → Bool
    by is_empty empties =
        not (settings.refuses_drain && drain)
        && ((not (settings.all_fence || fence) || (length part.issued == 0)) && (not (empties && drain) || is_empty))

none_issued : (chain : Chain) (part : Part) (scope : Scope) (o : Option ℕ)
    → is_none (unit.issue part scope o) ≡ is_none (unit.issue (part_without chain part) scope o)
none_issued chain part scope None = refl
none_issued chain part scope (Some itag) = refl

none_if : (b c : Bool) (one other : Part) → b ≡ c → is_none (if_so b one) ≡ is_none (if_so c other)
none_if true true one other h = refl
none_if false false one other h = refl
none_if true false one other h = absurd (cc)
none_if false true one other h = absurd (cc)

some_if : (b c : Bool) (one other : Part) → b ≡ c → is_some (if_so b one) ≡ is_some (if_so c other)
some_if true true one other h = refl
some_if false false one other h = refl
some_if true false one other h = absurd (cc)
some_if false true one other h = absurd (cc)

none_at_head : (chain : Chain) (settings : Settings) (part : Part) (o : Option Descriptor) → AreDrainsApart chain settings
    → is_none (unit.pump_head settings part o) ≡ is_none (unit.pump_head settings (part_without chain part) o)
none_at_head chain settings part None h = refl
none_at_head Asks settings part (Some (descriptor.Device endpoint scope)) h = none_issued Asks part scope _
none_at_head Faults settings part (Some (descriptor.Device endpoint scope)) h = none_issued Faults part scope _
none_at_head chain settings part (Some (descriptor.Translations endpoint scope)) h = refl
none_at_head chain settings part (Some (descriptor.Entry endpoint pasid)) h = refl
none_at_head chain settings part (Some (descriptor.Wait name drain fence)) h = none_if _ _ _ _ (same_pass chain settings part drain fence h)
none_at_head chain settings part (Some (descriptor.Out itag)) h = refl

none_pumped : (chain : Chain) (settings : Settings) (part : Part) → AreDrainsApart chain settings
    → is_none (unit.pump settings part) ≡ is_none (unit.pump settings (part_without chain part))
none_pumped Asks settings part h =
    none_open (not settings.is_loose && unit.takes part) _ _ (none_at_head Asks settings part (slice_get part.queue 0) h)
none_pumped Faults settings part h =
    none_open (not settings.is_loose && unit.takes part) _ _ (none_at_head Faults settings part (slice_get part.queue 0) h)

some_issued : (chain : Chain) (part : Part) (place : ℕ) (scope : Scope) (o : Option ℕ)
    → is_some (unit.issue_at part place scope o) ≡ is_some (unit.issue_at (part_without chain part) place scope o)
some_issued chain part place scope None = refl
some_issued chain part place scope (Some itag) = refl

some_one : (chain : Chain) (settings : Settings) (part : Part) (place : ℕ) (one : Descriptor) → AreDrainsApart chain settings
    → is_some (unit.pump_one settings part place one) ≡ is_some (unit.pump_one settings (part_without chain part) place one)
some_one Asks settings part place (descriptor.Device endpoint scope) h = some_issued Asks part place scope _
some_one Faults settings part place (descriptor.Device endpoint scope) h = some_issued Faults part place scope _
some_one chain settings part place (descriptor.Translations endpoint scope) h = refl
some_one chain settings part place (descriptor.Entry endpoint pasid) h = refl
some_one Asks settings part place (descriptor.Wait name drain fence) h = some_if _ _ _ _ refl
some_one Faults settings part place (descriptor.Wait name drain fence) h =
    some_if _ _ _ _
    (ap (λ b. b && unit.covers_none (settings.all_fence || fence) part.queue place) (same_pass Faults settings part drain fence h))
some_one chain settings part place (descriptor.Out itag) h = refl

some_open : (b : Bool) (one other : Option Part) → is_some one ≡ is_some other
    → is_some (if b then one else None) ≡ is_some (if b then other else None)
some_open true one other h = h
some_open false one other h = refl

some_unless : (b : Bool) (one other : Option Part) → is_some one ≡ is_some other
    → is_some (if b then None else one) ≡ is_some (if b then None else other)
some_unless true one other h = refl
some_unless false one other h = h

some_there : (chain : Chain) (settings : Settings) (part : Part) (place : ℕ) (o : Option Descriptor) → AreDrainsApart chain settings
    → is_some (unit.pump_there settings part place o) ≡ is_some (unit.pump_there settings (part_without chain part) place o)
some_there chain settings part place None h = refl
some_there Asks settings part place (Some one) h = some_unless (unit.is_barred settings part.queue place one) _ _ (some_one Asks settings part place one h)
some_there Faults settings part place (Some one) h =
    some_unless (unit.is_barred settings part.queue place one) _ _ (some_one Faults settings part place one h)

some_at : (chain : Chain) (settings : Settings) (part : Part) (place : ℕ) → AreDrainsApart chain settings
    → is_some (unit.pump_at settings part place) ≡ is_some (unit.pump_at settings (part_without chain part) place)
some_at Asks settings part place h =
    some_open (settings.is_loose && unit.takes part) _ _ (some_there Asks settings part place (slice_get part.queue place) h)
some_at Faults settings part place h =
    some_open (settings.is_loose && unit.takes part) _ _ (some_there Faults settings part place (slice_get part.queue place) h)

any_taken : (chain : Chain) (settings : Settings) (part : Part) (many place : ℕ) → AreDrainsApart chain settings
    → unit.takes_any settings part many place ≡ unit.takes_any settings (part_without chain part) many place
unfolding unit.takes_any
any_taken chain settings part zero place h = refl
any_taken chain settings part (suc many) place h =
    ap₂ (λ (a b : Bool). if a then true else b) (some_at chain settings part place h) (any_taken chain settings part many (suc place) h)

none_taken : (chain : Chain) (settings : Settings) (part : Part) → AreDrainsApart chain settings
    → unit.takes_none settings part ≡ unit.takes_none settings (part_without chain part)
none_taken Asks settings part h =
    ap₂ (λ (a b : Bool). if settings.is_loose then not a else b) (any_taken Asks settings part (length part.queue) 0 h) (none_pumped Asks settings part h)
none_taken Faults settings part h =
    ap₂ (λ (a b : Bool). if settings.is_loose then not a else b) (any_taken Faults settings part (length part.queue) 0 h)
    (none_pumped Faults settings part h)

-- ---- the act

drains_by : (a b : Bool) → not (a && b) ≡ true → b ≡ true → a ≡ false
drains_by false b h k = refl
drains_by true true h k = absurd (cc)
drains_by true false h k = absurd (cc)

drains_apart : (chain : Chain) (settings : Settings) → are_times_apart chain settings ≡ true → unit.is_timed settings.timeouts ≡ true
    → AreDrainsApart chain settings
drains_apart Asks settings h k = tt
drains_apart Faults settings h k = drains_by settings.drain_empties (unit.is_timed settings.timeouts) h k

still : (a b c d : Bool) → a ≡ b → (c ≡ true → d ≡ true) → a && c ≡ true → b && d ≡ true
still true true c d h k both = k both
still false b c d h k both = absurd (cc)
still true false c d h k both = absurd (cc)

permitted : (chain : Chain) (settings : Settings) (part : Part) (itag : ℕ) (silent : Bool) → are_times_apart chain settings ≡ true
    → unit.may_expire settings part itag silent ≡ true → unit.may_expire settings (part_without chain part) itag silent ≡ true
permitted Asks settings part itag silent apart h =
    and_so (unit.is_timed settings.timeouts && unit.takes part) _ _
    (still _ _ _ _ (none_taken Asks settings part tt)
    (and_so (list_any (unit.is_sent_to part.endpoint itag) part.issued) _ _ (unanswered Asks part itag silent))) h
permitted Faults settings part itag silent apart h =
    let timed = (and_parts _ _ (and_parts (unit.is_timed settings.timeouts && unit.takes part) _ h).0).0 in
    and_so (unit.is_timed settings.timeouts && unit.takes part) _ _
    (still _ _ _ _ (none_taken Faults settings part (drains_apart Faults settings apart timed))
    (and_so (list_any (unit.is_sent_to part.endpoint itag) part.issued) _ _ (unanswered Faults part itag silent))) h

ran_out : (chain : Chain) (settings : Settings) (part : Part) (itag : ℕ)
    → part_without chain (unit.expired settings part itag) ≡ unit.expired settings (part_without chain part) itag
ran_out Asks settings part itag = λ i. record (part_without Asks (unit.expired settings part itag)) {
  works = filter_both isnt_use (unit.isnt_taken_of itag) part.works i;
  flight = filter_both (is_sent_left Asks) (unit.isnt_sent_of itag) part.flight i;
}
ran_out Faults settings part itag = λ i. record (part_without Faults (unit.expired settings part itag)) {
  flight = filter_both (is_sent_left Faults) (unit.isnt_sent_of itag) part.flight i;
}

pub expire : (chain : Chain) (settings : Settings) (part : Part) (itag : ℕ) (silent : Bool) → are_times_apart chain settings ≡ true
    → IsLed chain (unit.expire settings part itag silent) (unit.expire settings (part_without chain part) itag silent)
expire chain settings part itag silent apart =
    where_so chain _ _ _ _ (permitted chain settings part itag silent apart) (ran_out chain settings part itag)
