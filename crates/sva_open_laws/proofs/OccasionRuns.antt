-- What acts one after another lead to, of the whole, and without asks, and without faults.
use Rattle.std.proofs.Common.{arith, ◌≡◌, ◌∙◌, ◌≤◌, ℕ, suc, Bool, true, false, Option, Some, None, option_map, List, [], ◌∷◌, map, length}
use Rattle.std.proofs.Common.{refl, ap, sym, subst}
use Rattle.std.specs.Prelude.{⊤, ◌&&◌, if◌then◌else◌, slice_get}
use Rattle.std.specs.List.{cons_option, list_all, list_any}
use Rattle.std.proofs.lemmas.Bool.{and_from}
use Rattle.std.proofs.lemmas.Option.{same_Some}
use Rattle.sva_open.specs.declared.frames.Tenure.{Tenure}
use Rattle.sva_open.specs.declared.acts.Act.{Act}
use Rattle.sva_open.specs.declared.acts.Act.TheVariants as act
use Rattle.sva_open.specs.declared.acts.LocalAct.{LocalAct}
use Rattle.sva_open.specs.declared.settings.Conduct.{Conduct}
use Rattle.sva_open.specs.declared.settings.Settings.{Settings}
use Rattle.sva_open.specs.Acts.{at_endpoint, free_frame, freeze, next_open, parts_after, set_page, with_parts}
use Rattle.sva_open.specs.Below.{about, awaits_all, head_of, holds_up, is_of_unit, shared, with_told}
use Rattle.sva_open.specs.Checks.{is_safe}
use Rattle.sva_open.specs.World.{Open, Part, if_so, opened, part_opened, parts_opened}
use Rattle.sva_open_laws.specs.Pages.{IsSafeAlong, after, next_by}
use Rattle.sva_open_laws.specs.Occasions.{AreAlwaysSafeApart, AreFirstSafeApart, AreFoundApart, AreLeftOut, AreRunsApart, AreRunsSafeApart, Chain}
use Rattle.sva_open_laws.specs.Occasions.{IsAlwaysSafeApart, IsApart, IsFoundApart, IsOccasionLaw, act_without, acts_without, are_times_apart}
use Rattle.sva_open_laws.specs.Occasions.{is_act_apart, is_local_apart, is_sent_left, isnt_use, local_at, local_without, part_without, without}
use Rattle.sva_open_laws.specs.Occasions.Chain.{Asks, Faults}
use Rattle.sva_open_laws.proofs.Filters.{filter_inner}
use Rattle.sva_open_laws.proofs.OccasionBelow.{IsLedTo}
use Rattle.sva_open_laws.proofs.OccasionKinds.{Kind, kind_of}
use Rattle.sva_open_laws.proofs.OccasionKinds.Kind.{kept, none, moved}
use Rattle.sva_open_laws.proofs.OccasionSafety.{safe_whole}
use Rattle.sva_open_laws.proofs.OccasionWorlds.{act_in}
use Rattle.sva_open_laws.proofs.OneUnit.{always, next_sees}
use Rattle.sva_open_laws.proofs.PageRuns.{first_safe}

-- ---- what is left out

twice : (chain : Chain) (part : Part) → part_without chain (part_without chain part) ≡ part_without chain part
twice Asks part = λ i. record (part_without Asks part) {
  works = filter_inner isnt_use isnt_use (λ work h. h) part.works i;
  flight = filter_inner (is_sent_left Asks) (is_sent_left Asks) (λ one h. h) part.flight i;
}
twice Faults part = λ i. record (part_without Faults part) {
  flight = filter_inner (is_sent_left Faults) (is_sent_left Faults) (λ one h. h) part.flight i;
}

all_twice : (chain : Chain) (parts : List Part) → map (part_without chain) (map (part_without chain) parts) ≡ map (part_without chain) parts
all_twice chain [] = refl
all_twice chain (part ∷ parts) = λ i. twice chain part i ∷ all_twice chain parts i

first_part : (chain : Chain) (pasids endpoint : ℕ) (conduct : Conduct)
    → part_without chain (part_opened pasids endpoint conduct) ≡ part_opened pasids endpoint conduct
first_part Asks pasids endpoint conduct = refl
first_part Faults pasids endpoint conduct = refl

first_parts : (chain : Chain) (pasids endpoint : ℕ) (conducts : List Conduct)
    → map (part_without chain) (parts_opened pasids endpoint conducts) ≡ parts_opened pasids endpoint conducts
unfolding parts_opened
first_parts chain pasids endpoint [] = refl
first_parts chain pasids endpoint (conduct ∷ conducts) =
    λ i. first_part chain pasids endpoint conduct i ∷ first_parts chain pasids (suc endpoint) conducts i

first : (chain : Chain) (settings : Settings) (conducts : List Conduct) (units : List ℕ) (pasids frames : ℕ)
    → without chain (opened settings conducts units pasids frames) ≡ opened settings conducts units pasids frames
first chain settings conducts units pasids frames =
    λ i. record (opened settings conducts units pasids frames) { parts = first_parts chain pasids 0 conducts i }

pub left_out : AreLeftOut
left_out = (λ chain now. λ i. record (without chain now) { parts = all_twice chain now.parts i }, first)

-- ---- one act

led : (chain : Chain) (next : Open) (o : Option Open) → IsLedTo chain (Some next) o → o ≡ Some (without chain next)
led chain next (Some other) h = ap Some (sym h)
led chain next None h = absurd h

pub occasion_law : IsOccasionLaw
occasion_law chain now next one apart h =
    led chain next (next_by (without chain now) (act_without chain now one))
    (subst (λ (o : Option Open). IsLedTo chain o (next_by (without chain now) (act_without chain now one))) h (act_in chain now one apart))

-- ---- what is asked of a moment is so of the next

abbrev Keeps : Settings → Option Open → Type 0
Keeps settings None = ⊤
Keeps settings (Some next) = next.settings ≡ settings

told_keeps : (settings : Settings) (units : List ℕ) (at : ℕ) (own : LocalAct) (before : List Part) (o : Option Open) → Keeps settings o
    → Keeps settings (option_map (with_told units at own (head_of own (slice_get before at))) o)
told_keeps settings units at own before None h = tt
told_keeps settings units at own before (Some next) h = h

either_keeps : (settings : Settings) (b c : Bool) (told next : Option Open) → Keeps settings told → Keeps settings next
    → Keeps settings (if b then None else (if c then told else next))
either_keeps settings true c told next h k = tt
either_keeps settings false true told next h k = h
either_keeps settings false false told next h k = k

shared_keeps : (settings : Settings) (units : List ℕ) (at : ℕ) (own : LocalAct) (before : List Part) (o : Option Open) → Keeps settings o
    → Keeps settings (shared units at own before o)
shared_keeps settings [] at own before o h = h
shared_keeps settings (unit ∷ units) at own before o h =
    either_keeps settings (awaits_all own && list_any (holds_up (unit ∷ units) at) before) (is_of_unit own) _ _
    (told_keeps settings (unit ∷ units) at own before o h) h

part_keeps : (now : Open) (o : Option (List Part)) → Keeps now.settings (option_map (with_parts now) o)
part_keeps now None = tt
part_keeps now (Some parts) = refl

set_keeps : (now : Open) (space page frame : ℕ) (write : Bool) (o : Option Tenure) → Keeps now.settings (set_page now space page frame write o)
set_keeps now space page frame write None = tt
set_keeps now space page frame write (Some tenure) = refl

given_keeps : (now : Open) (frame : ℕ) (o : Option Tenure) → Keeps now.settings (free_frame now frame o)
given_keeps now frame None = tt
given_keeps now frame (Some tenure) = refl

frozen_keeps : (now : Open) (frame : ℕ) (o : Option Tenure) → Keeps now.settings (freeze now frame o)
frozen_keeps now frame None = tt
frozen_keeps now frame (Some tenure) = refl

keeps : (now : Open) (one : Act) → Keeps now.settings (next_open now one)
keeps now act.Mark = refl
keeps now (act.SetPage space page frame write) = set_keeps now space page frame write (slice_get now.frames frame)
keeps now (act.ClearPage space page) = refl
keeps now (act.FreeFrame frame) = given_keeps now frame (slice_get now.frames frame)
keeps now (act.Freeze frame) = frozen_keeps now frame (slice_get now.frames frame)
keeps now (act.FreeSpace space) = refl
keeps now (act.FreeDomain space) = refl
keeps now (act.At endpoint own) =
    let at = about now.units endpoint own (slice_get now.parts endpoint) in
    shared_keeps now.settings now.units at own now.parts (at_endpoint now at own)
    (part_keeps now (parts_after now.settings now.mappings now.parts at own (slice_get now.parts at)))

next_apart : (chain : Chain) (now next : Open) (one : Act) → IsApart chain now → next_open now one ≡ Some next → IsApart chain next
next_apart chain now next one apart h =
    let same : next.settings ≡ now.settings = subst (Keeps now.settings) h (keeps now one) in
    record {
      units = next_sees now next one apart.units h;
      times = ap (are_times_apart chain) same ∙ apart.times;
    }

-- ---- no act without the chain is of the chain

abbrev IsFree : Chain → Option Act → Type 0
IsFree chain None = ⊤
IsFree chain (Some one) = is_act_apart chain one ≡ true

if_free : (chain : Chain) (endpoint : ℕ) (own : LocalAct) (b : Bool) → is_local_apart chain own ≡ true
    → IsFree chain (option_map (act.At endpoint) (if_so b own))
if_free chain endpoint own true h = h
if_free chain endpoint own false h = tt

free_by : (chain : Chain) (endpoint : ℕ) (part : Part) (own : LocalAct) → Kind chain own
    → IsFree chain (option_map (act.At endpoint) (local_without chain part own))
free_by chain endpoint part own (kept same alike free) =
    subst (λ (o : Option LocalAct). IsFree chain (option_map (act.At endpoint) o)) (sym (same part)) free
free_by chain endpoint part own (none same silent) =
    subst (λ (o : Option LocalAct). IsFree chain (option_map (act.At endpoint) o)) (sym (same part)) tt
free_by chain endpoint part own (moved keeps other same silent matter its_matter its_told free) =
    subst (λ (o : Option LocalAct). IsFree chain (option_map (act.At endpoint) o)) (sym (same part))
    (if_free chain endpoint (other part) (keeps part) (free part))

free_at : (chain : Chain) (endpoint : ℕ) (own : LocalAct) (o : Option Part) → IsFree chain (option_map (act.At endpoint) (local_at chain o own))
free_at chain endpoint own None = tt
free_at chain endpoint own (Some part) = free_by chain endpoint part own (kind_of chain own)

free : (chain : Chain) (now : Open) (one : Act) → IsFree chain (act_without chain now one)
free chain now act.Mark = refl
free chain now (act.SetPage space page frame write) = refl
free chain now (act.ClearPage space page) = refl
free chain now (act.FreeFrame frame) = refl
free chain now (act.Freeze frame) = refl
free chain now (act.FreeSpace space) = refl
free chain now (act.FreeDomain space) = refl
free chain now (act.At endpoint own) = free_at chain endpoint own (slice_get now.parts endpoint)

all_free : (chain : Chain) (o : Option Act) (acts : List Act) → IsFree chain o → list_all (is_act_apart chain) acts ≡ true
    → list_all (is_act_apart chain) (cons_option o acts) ≡ true
all_free chain None acts h rest = rest
all_free chain (Some one) acts h rest = and_from (is_act_apart chain one) (list_all (is_act_apart chain) acts) h rest

acts_free : (chain : Chain) (o : Option Open) (acts : List Act) → list_all (is_act_apart chain) (acts_without chain o acts) ≡ true
acts_free chain None acts = refl
acts_free chain (Some now) [] = refl
acts_free chain (Some now) (one ∷ acts) =
    all_free chain (act_without chain now one) (acts_without chain (next_open now one) acts) (free chain now one)
    (acts_free chain (next_open now one) acts)

-- ---- nor are there more of them

shorter : (o : Option Act) (acts others : List Act) → length acts ≤ length others → length (cons_option o acts) ≤ suc (length others)
shorter None acts others h = omega arith
shorter (Some one) acts others h = omega arith

acts_shorter : (chain : Chain) (o : Option Open) (acts : List Act) → length (acts_without chain o acts) ≤ length acts
acts_shorter chain None acts = omega arith
acts_shorter chain (Some now) [] = omega arith
acts_shorter chain (Some now) (one ∷ acts) =
    shorter (act_without chain now one) (acts_without chain (next_open now one) acts) acts (acts_shorter chain (next_open now one) acts)

-- ---- acts one after another

step : (chain : Chain) (now next last : Open) (acts : List Act) (own : Option Act) → next_by (without chain now) own ≡ Some (without chain next)
    → after (Some (without chain next)) acts ≡ Some (without chain last)
    → after (Some (without chain now)) (cons_option own acts) ≡ Some (without chain last)
step chain now next last acts None h rest = ap (λ (o : Option Open). after o acts) h ∙ rest
step chain now next last acts (Some one) h rest = ap (λ (o : Option Open). after o acts) h ∙ rest

go_on : (chain : Chain) (now last : Open) (one : Act) (acts : List Act) (o : Option Open) → IsApart chain now → next_open now one ≡ o
    → ((next : Open) → o ≡ Some next → after (Some (without chain next)) (acts_without chain o acts) ≡ Some (without chain last))
    → after o acts ≡ Some last
    → after (Some (without chain now)) (cons_option (act_without chain now one) (acts_without chain o acts)) ≡ Some (without chain last)
go_on chain now last one acts None apart h rest k = absurd (cc)
go_on chain now last one acts (Some next) apart h rest k =
    step chain now next last (acts_without chain (Some next) acts) (act_without chain now one) (occasion_law chain now next one apart h) (rest next refl)

runs : (chain : Chain) (acts : List Act) (o : Option Open) (last : Open) → ((now : Open) → o ≡ Some now → IsApart chain now)
    → after o acts ≡ Some last → after (option_map (without chain) o) (acts_without chain o acts) ≡ Some (without chain last)
runs chain acts None last apart h = absurd (cc)
runs chain [] (Some now) last apart h = ap (option_map (without chain)) h
runs chain (one ∷ acts) (Some now) last apart h =
    go_on chain now last one acts (next_open now one) (apart now refl) refl
    (λ next is. ap (λ (o : Option Open). after (option_map (without chain) o) (acts_without chain (next_open now one) acts)) (sym is)
    ∙ runs chain acts (next_open now one) last (λ other same. next_apart chain now other one (apart now refl) same) h) h

pub runs_apart : AreRunsApart
runs_apart chain now last acts apart h = (
  runs chain acts (Some now) last (λ other is. subst (IsApart chain) (same_Some _ _ is) apart) h,
  acts_free chain (Some now) acts,
  acts_shorter chain (Some now) acts,
)

-- ---- what is safe along a list of acts

rest_safe : (chain : Chain) (now next : Open) (own : Option Act) (acts : List Act) → next_by (without chain now) own ≡ Some (without chain next)
    → IsSafeAlong (Some (without chain now)) (cons_option own acts) → IsSafeAlong (Some (without chain next)) acts
rest_safe chain now next None acts led h = subst (λ (o : Option Open). IsSafeAlong o acts) led h
rest_safe chain now next (Some one) acts led h = subst (λ (o : Option Open). IsSafeAlong o acts) led h.1

along : (acts : List Act) (o : Option Open) → ((now : Open) → o ≡ Some now → (chain : Chain) → IsApart chain now)
    → ((now : Open) → o ≡ Some now → (chain : Chain) → IsSafeAlong (Some (without chain now)) (acts_without chain o acts)) → IsSafeAlong o acts
along acts None apart h = tt
along [] (Some now) apart h = safe_whole now (h now refl)
along (one ∷ acts) (Some now) apart h = (
  safe_whole now (λ chain. first_safe (without chain now) (acts_without chain (Some now) (one ∷ acts)) (h now refl chain)),
  along acts (next_open now one) (λ next is chain. next_apart chain now next one (apart now refl chain) is)
      (λ next is chain. rest_safe chain now next (act_without chain now one) (acts_without chain (next_open now one) acts)
      (occasion_law chain now next one (apart now refl chain) is) (h now refl chain)),
)

pub runs_safe_apart : AreRunsSafeApart
runs_safe_apart now acts apart h =
    along acts (Some now) (λ next is chain. subst (IsApart chain) (same_Some _ _ is) (apart chain))
    (λ next is chain. subst (λ (w : Open). IsSafeAlong (Some (without chain w)) (acts_without chain (Some now) acts)) (same_Some _ _ is) (h chain))

-- ---- always

pub always_safe_apart : AreAlwaysSafeApart
always_safe_apart now apart h = λ acts next is.
    safe_whole next (λ chain.
    let run = runs_apart chain now next acts (apart chain) is in
    h chain (acts_without chain (Some now) acts) (without chain next) run.1 run.0)

all_apart : (settings : Settings) → are_times_apart Faults settings ≡ true → (chain : Chain) → are_times_apart chain settings ≡ true
all_apart settings h Asks = refl
all_apart settings h Faults = h

opened_apart : (settings : Settings) (conducts : List Conduct) (units : List ℕ) (pasids frames : ℕ) → are_times_apart Faults settings ≡ true
    → (chain : Chain) → IsApart chain (opened settings conducts units pasids frames)
opened_apart settings conducts units pasids frames h chain = record {
  units = always settings conducts units pasids frames [] (opened settings conducts units pasids frames) refl;
  times = all_apart settings h chain;
}

pub first_safe_apart : AreFirstSafeApart
first_safe_apart settings conducts units pasids frames apart = (
  λ h chain. λ acts next free is. h acts next is,
  λ h. always_safe_apart (opened settings conducts units pasids frames) (opened_apart settings conducts units pasids frames apart)
      (λ chain. subst (IsAlwaysSafeApart chain) (sym (first chain settings conducts units pasids frames)) (h chain)),
)

-- ---- what isn't safe

found_in : (chain : Chain) (now next : Open) (acts : List Act) → IsApart chain now → without chain now ≡ now → after (Some now) acts ≡ Some next
    → is_safe (without chain next) ≡ false → IsFoundApart now acts
found_in chain now next acts apart same h unsafe =
    let run = runs_apart chain now next acts apart h in
    record {
      chain = chain;
      others = acts_without chain (Some now) acts;
      next = without chain next;
      apart = run.1;
      there = ap (λ (w : Open). after (Some w) (acts_without chain (Some now) acts)) (sym same) ∙ run.0;
      unsafe = unsafe;
      short = run.2;
    }

found_by : (now next : Open) (acts : List Act) → ((chain : Chain) → IsApart chain now) → ((chain : Chain) → without chain now ≡ now)
    → after (Some now) acts ≡ Some next → is_safe next ≡ false
    → (a b : Bool) → is_safe (without Asks next) ≡ a → is_safe (without Faults next) ≡ b → IsFoundApart now acts
found_by now next acts apart same h unsafe false b is are = found_in Asks now next acts (apart Asks) (same Asks) h is
found_by now next acts apart same h unsafe true false is are = found_in Faults now next acts (apart Faults) (same Faults) h are
found_by now next acts apart same h unsafe true true is are =
    let safe : is_safe next ≡ true = safe_whole next both in absurd (cc)
  where
    both : (chain : Chain) → is_safe (without chain next) ≡ true
    both Asks = is
    both Faults = are

pub found_apart : AreFoundApart
found_apart settings conducts units pasids frames acts next apart h unsafe =
    found_by (opened settings conducts units pasids frames) next acts (opened_apart settings conducts units pasids frames apart)
    (λ chain. first chain settings conducts units pasids frames) h unsafe _ _ refl refl
