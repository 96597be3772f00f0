-- An invalidation that runs out of time: what that leaves of the whole, and of a page.
use Rattle.std.proofs.Common.{◌≡◌, ℕ, zero, suc, Bool, true, false, Option, Some, None, refl, ap, ap₂, sym}
use Rattle.std.specs.Prelude.{◌&&◌, ◌||◌, if◌then◌else◌, is_none, is_some, length, not, slice_get}
use Rattle.std.specs.List.{list_any}
use Rattle.sva_open.specs.declared.scopes.Scope.{Scope}
use Rattle.sva_open.specs.declared.messages.Message.{Message}
use Rattle.sva_open.specs.declared.messages.Message.TheVariants as message
use Rattle.sva_open.specs.declared.descriptors.Descriptor.{Descriptor}
use Rattle.sva_open.specs.declared.descriptors.Descriptor.TheVariants as descriptor
use Rattle.sva_open.specs.declared.settings.Settings.{Settings}
use Rattle.sva_open.specs.World.{Part, if_so}
use Rattle.sva_open.specs.Units as unit
use Rattle.sva_open_laws.specs.Pages.{is_work_at, its_message, its_part, its_sent}
use Rattle.sva_open_laws.proofs.PageLists.{any, kept}
use Rattle.sva_open_laws.proofs.Filters.{fewer, filter_both}
use Rattle.sva_open_laws.proofs.PageActs.{IsLed, also, and_so, where_so}

-- ---- of whom it is no page says

is_of_itag : (page itag : ℕ) (one : Message) → unit.is_of_itag itag one ≡ unit.is_of_itag itag (its_message page one)
is_of_itag page itag (message.Completion tag own target) = refl
is_of_itag page itag _ = refl

completes : (page itag : ℕ) (one : Message) → unit.completes itag one ≡ unit.completes itag (its_message page one)
completes page itag (message.Completion tag own target) = refl
completes page itag _ = refl

pub neither : (a b c d : Bool) → a ≡ c → (b ≡ false → d ≡ false) → not (a || b) ≡ true → not (c || d) ≡ true
neither false false c d h k quiet =
    let none : d ≡ false = k refl in
    let same : c ≡ false = sym h in
    (λ i. not (same i || none i))
neither true b c d h k quiet = absurd (cc)
neither false true c d h k quiet = absurd (cc)

-- who answers it of a page answers it of the whole
unanswered : (page : ℕ) (part : Part) (itag : ℕ) (silent : Bool) → unit.is_unanswered part itag silent ≡ true
    → unit.is_unanswered (its_part page part) itag silent ≡ true
unanswered page part itag true h =
    also _ _ (ap not (any (unit.is_completion_of itag) (unit.is_completion_of itag) (its_sent page) (λ one. completes page itag one.message) part.flight)) h
unanswered page part itag false h =
    neither _ _ _ _ (any (unit.is_sent_of itag) (unit.is_sent_of itag) (its_sent page) (λ one. is_of_itag page itag one.message) part.flight)
    (fewer (is_work_at page) (unit.is_taken_of itag) part.works) h

-- ---- what the unit can take now it can take of each page, and no more

none_issued : (page : ℕ) (part : Part) (scope : Scope) (o : Option ℕ)
    → is_none (unit.issue part scope o) ≡ is_none (unit.issue (its_part page part) scope o)
none_issued page part scope None = refl
none_issued page part scope (Some itag) = refl

none_if : (b : Bool) (one other : Part) → is_none (if_so b one) ≡ is_none (if_so b other)
none_if true one other = refl
none_if false one other = refl

none_at_head : (page : ℕ) (settings : Settings) (part : Part) (o : Option Descriptor)
    → is_none (unit.pump_head settings part o) ≡ is_none (unit.pump_head settings (its_part page part) o)
none_at_head page settings part None = refl
none_at_head page settings part (Some (descriptor.Device endpoint scope)) = none_issued page part scope _
none_at_head page settings part (Some (descriptor.Translations endpoint scope)) = refl
none_at_head page settings part (Some (descriptor.Entry endpoint pasid)) = refl
none_at_head page settings part (Some (descriptor.Wait name drain fence)) = none_if (unit.may_pass settings part drain fence) _ _
none_at_head page settings part (Some (descriptor.Out itag)) = refl

pub none_open : (b : Bool) (one other : Option Part) → is_none one ≡ is_none other
    → is_none (if b then one else None) ≡ is_none (if b then other else None)
none_open true one other h = h
none_open false one other h = refl

none_pumped : (page : ℕ) (settings : Settings) (part : Part) → is_none (unit.pump settings part) ≡ is_none (unit.pump settings (its_part page part))
none_pumped page settings part =
    none_open (not settings.is_loose && unit.takes part) _ _ (none_at_head page settings part (slice_get part.queue 0))

some_issued : (page : ℕ) (part : Part) (place : ℕ) (scope : Scope) (o : Option ℕ)
    → is_some (unit.issue_at part place scope o) ≡ is_some (unit.issue_at (its_part page part) place scope o)
some_issued page part place scope None = refl
some_issued page part place scope (Some itag) = refl

some_if : (b : Bool) (one other : Part) → is_some (if_so b one) ≡ is_some (if_so b other)
some_if true one other = refl
some_if false one other = refl

some_one : (page : ℕ) (settings : Settings) (part : Part) (place : ℕ) (one : Descriptor)
    → is_some (unit.pump_one settings part place one) ≡ is_some (unit.pump_one settings (its_part page part) place one)
some_one page settings part place (descriptor.Device endpoint scope) = some_issued page part place scope _
some_one page settings part place (descriptor.Translations endpoint scope) = refl
some_one page settings part place (descriptor.Entry endpoint pasid) = refl
some_one page settings part place (descriptor.Wait name drain fence) = some_if (unit.may_pass_at settings part place drain fence) _ _
some_one page settings part place (descriptor.Out itag) = refl

some_there : (page : ℕ) (settings : Settings) (part : Part) (place : ℕ) (o : Option Descriptor)
    → is_some (unit.pump_there settings part place o) ≡ is_some (unit.pump_there settings (its_part page part) place o)
some_there page settings part place None = refl
some_there page settings part place (Some one) = unless (unit.is_barred settings part.queue place one)
  where
    unless : (b : Bool) → is_some (if b then None else unit.pump_one settings part place one)
        ≡ is_some (if b then None else unit.pump_one settings (its_part page part) place one)
    unless true = refl
    unless false = some_one page settings part place one

some_at : (page : ℕ) (settings : Settings) (part : Part) (place : ℕ)
    → is_some (unit.pump_at settings part place) ≡ is_some (unit.pump_at settings (its_part page part) place)
some_at page settings part place = by_test (settings.is_loose && unit.takes part)
  where
    by_test : (b : Bool) → is_some (if b then unit.pump_there settings part place (slice_get part.queue place) else None)
        ≡ is_some (if b then unit.pump_there settings (its_part page part) place (slice_get part.queue place) else None)
    by_test true = some_there page settings part place (slice_get part.queue place)
    by_test false = refl

any_taken : (page : ℕ) (settings : Settings) (part : Part) (many place : ℕ)
    → unit.takes_any settings part many place ≡ unit.takes_any settings (its_part page part) many place
unfolding unit.takes_any
any_taken page settings part zero place = refl
any_taken page settings part (suc many) place =
    ap₂ (λ (a b : Bool). if a then true else b) (some_at page settings part place) (any_taken page settings part many (suc place))

none_taken : (page : ℕ) (settings : Settings) (part : Part) → unit.takes_none settings part ≡ unit.takes_none settings (its_part page part)
none_taken page settings part =
    ap₂ (λ (a b : Bool). if settings.is_loose then not a else b) (any_taken page settings part (length part.queue) 0) (none_pumped page settings part)

-- ---- the act

permitted : (page : ℕ) (settings : Settings) (part : Part) (itag : ℕ) (silent : Bool) → unit.may_expire settings part itag silent ≡ true
    → unit.may_expire settings (its_part page part) itag silent ≡ true
permitted page settings part itag silent =
    let busy = list_any (unit.is_sent_to part.endpoint itag) part.issued in
    and_so (unit.is_timed settings.timeouts && unit.takes part) _ _
    (λ h. and_so (unit.takes_none settings (its_part page part)) _ _
    (and_so busy _ _ (unanswered page part itag silent))
    (also _ _ (ap (λ b. b && (busy && unit.is_unanswered part itag silent)) (none_taken page settings part)) h))

ran_out : (page : ℕ) (settings : Settings) (part : Part) (itag : ℕ)
    → its_part page (unit.expired settings part itag) ≡ unit.expired settings (its_part page part) itag
ran_out page settings part itag = λ i. record (its_part page (unit.expired settings part itag)) {
  works = filter_both (is_work_at page) (unit.isnt_taken_of itag) part.works i;
  flight = kept (unit.isnt_sent_of itag) (its_sent page) (λ one. ap not (is_of_itag page itag one.message)) part.flight i;
}

pub expire : (page : ℕ) (settings : Settings) (part : Part) (itag : ℕ) (silent : Bool)
    → IsLed page (unit.expire settings part itag silent) (unit.expire settings (its_part page part) itag silent)
expire page settings part itag silent = where_so page _ _ _ _ (permitted page settings part itag silent) (ran_out page settings part itag)
