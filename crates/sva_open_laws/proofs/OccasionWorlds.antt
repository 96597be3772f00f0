-- What an act of the world leaves, and what without asks, and without faults.
use Rattle.std.proofs.Common.{◌≡◌, ◌∙◌, ℕ, zero, suc, Bool, true, false, Option, Some, None, option_map, List, [], ◌∷◌, map}
use Rattle.std.proofs.Common.{refl, ap, sym, subst, arith}
use Rattle.std.proofs.lemmas.Bool.{and_parts}
use Rattle.std.proofs.lemmas.Bool.Decides.{nat_tests}
use Rattle.std.proofs.lemmas.List.{map-set}
use Rattle.std.proofs.lemmas.Option.{slice_get-map}
use Rattle.std.specs.Prelude.{◌==◌, ◌&&◌, ◌≢◌, if◌then◌else◌, not, slice_get, slice_set}
use Rattle.std.specs.List.{list_any}
use Rattle.sva_open.specs.declared.frames.Tenure.{Tenure}
use Rattle.sva_open.specs.declared.acts.Act.{Act}
use Rattle.sva_open.specs.declared.acts.Act.TheVariants as act
use Rattle.sva_open.specs.declared.acts.LocalAct.{LocalAct}
use Rattle.sva_open.specs.declared.descriptors.Descriptor.{Descriptor}
use Rattle.sva_open.specs.Acts.{at_endpoint, done_at, free_frame, freeze, next_open, next_part, parts_after, set_page, with_parts}
use Rattle.sva_open.specs.Below.{about, awaits_all, head_of, holds_up, is_beside, is_of_unit, is_one, left, left_at, seen, shared}
use Rattle.sva_open.specs.Below.{struck, taken_by, told, unfiled}
use Rattle.sva_open.specs.World.{Open, Part, if_so}
use Rattle.sva_open_laws.specs.OneUnit.{SeeOneUnit}
use Rattle.sva_open_laws.specs.Pages.{next_by}
use Rattle.sva_open_laws.specs.Occasions.{Chain, IsApart, act_without, local_at, local_without, part_without, without}
use Rattle.sva_open_laws.proofs.OccasionActs.{act_at}
use Rattle.sva_open_laws.proofs.OccasionBelow.{IsLedTo, IsToldAs, same_about, same_name, seen_of, shared_led}
use Rattle.sva_open_laws.proofs.OccasionKinds.{IsSilent, Kind, kind_of}
use Rattle.sva_open_laws.proofs.OccasionKinds.Kind.{kept, none, moved}
use Rattle.sva_open_laws.proofs.OccasionParts.{IsLed, next_at}
use Rattle.sva_open_laws.proofs.OneUnit.{Place, alone, numbered_set, place_of, set_here}
use Rattle.sva_open_laws.proofs.OneUnit.Place.{here, elsewhere}
use Rattle.sva_open_laws.proofs.PageBelow.{not_both, own_about}

-- ---- an act that is there

put : (chain : Chain) (now : Open) (at : ℕ) (one other : Option Part) → IsLed chain one other
    → IsLedTo chain (option_map (with_parts now) (option_map (slice_set now.parts at) one))
    (option_map (with_parts (without chain now)) (option_map (slice_set (map (part_without chain) now.parts) at) other))
put chain now at None other h = tt
put chain now at (Some one) None h = h
put chain now at (Some one) (Some other) h = λ i. record (without chain now) {
  parts = (map-set (part_without chain) now.parts at one ∙ ap (slice_set (map (part_without chain) now.parts) at) h) i;
}

-- the one act at an endpoint leads to what the other does without the chain
abbrev IsThere : Chain → Open → (at : ℕ) → (own other : LocalAct) → Type 0
IsThere chain now at own other = (part : Part) → slice_get now.parts at ≡ Some part
    → IsLed chain (next_part now.settings now.mappings part own) (next_part now.settings now.mappings (part_without chain part) other)

at_by : (chain : Chain) (now : Open) (at : ℕ) (own other : LocalAct) (o : Option Part) → slice_get now.parts at ≡ o → IsThere chain now at own other
    → IsLedTo chain (option_map (with_parts now) (parts_after now.settings now.mappings now.parts at own o))
    (option_map (with_parts (without chain now))
    (parts_after now.settings now.mappings (map (part_without chain) now.parts) at other (option_map (part_without chain) o)))
at_by chain now at own other None is h = tt
at_by chain now at own other (Some part) is h = put chain now at _ _ (h part is)

at_led : (chain : Chain) (now : Open) (at : ℕ) (own other : LocalAct) → IsThere chain now at own other
    → IsLedTo chain (at_endpoint now at own) (at_endpoint (without chain now) at other)
at_led chain now at own other h =
    subst
    (λ (o : Option Part). IsLedTo chain (at_endpoint now at own)
    (option_map (with_parts (without chain now)) (parts_after now.settings now.mappings (map (part_without chain) now.parts) at other o)))
    (sym (slice_get-map (part_without chain) now.parts at))
    (at_by chain now at own other (slice_get now.parts at) refl h)

done_led : (chain : Chain) (now : Open) (at : ℕ) (own other : LocalAct) → IsToldAs own other → IsThere chain now at own other
    → IsLedTo chain (done_at now at own) (done_at (without chain now) at other)
done_led chain now at own other same h =
    subst (λ (o : Option Open). IsLedTo chain (done_at now at own) o)
    (same now.units at (map (part_without chain) now.parts) (at_endpoint (without chain now) at other))
    (shared_led chain now.units at own now.parts _ _ (at_led chain now at own other h))

-- ---- an act that is none

map_same : (f g : Part → Part) (parts : List Part) → ((at : ℕ) (part : Part) → slice_get parts at ≡ Some part → f (g part) ≡ f part)
    → map f (map g parts) ≡ map f parts
map_same f g [] h = refl
map_same f g (part ∷ parts) h = λ i. h 0 part refl i ∷ map_same f g parts (λ at its is. h (suc at) its is) i

set_same : (f : Part → Part) (parts : List Part) (at : ℕ) (part after : Part) → slice_get parts at ≡ Some part → f after ≡ f part
    → map f (slice_set parts at after) ≡ map f parts
set_same f [] at part after found h = refl
set_same f (x ∷ xs) zero part after found h =
    let same : x ≡ part = cc in
    λ i. (h ∙ ap f (sym same)) i ∷ map f xs
set_same f (x ∷ xs) (suc at) part after found h = ap (λ l. f x ∷ l) (set_same f xs at part after found h)

named : (chain : Chain) (part after : Part) → part_without chain after ≡ part_without chain part → after.endpoint ≡ part.endpoint
named chain part after h = sym (same_name chain after) ∙ ap (λ (it : Part). it.endpoint) h ∙ same_name chain part

seen_as : (own : LocalAct) (head : Option Descriptor) (after other : Part) → IsSilent own → left own head after other ≡ seen after other
seen_as own head after other h =
    ap (λ (b : Bool). unfiled b (struck (taken_by own head) (seen after other))) h.closes
    ∙ ap (λ (taken : Option Descriptor). struck taken (seen after other)) (h.takes head)

-- what another endpoint sees it has seen before, but for the chain
seen_before : (chain : Chain) (own : LocalAct) (head : Option Descriptor) (part after other : Part) → IsSilent own
    → part_without chain after ≡ part_without chain part → seen part other ≡ other
    → part_without chain (left own head after other) ≡ part_without chain other
seen_before chain own head part after other silent h same =
    ap (part_without chain) (seen_as own head after other silent)
    ∙ seen_of chain after other
    ∙ ap (λ (by : Part). seen by (part_without chain other)) h
    ∙ sym (seen_of chain part other)
    ∙ ap (part_without chain) same

apart : (a b : ℕ) → not (a == b) ≡ true → a ≢ b
apart a b h same = grind (arith, nat_tests)

still_at : (chain : Chain) (now : Open) (at : ℕ) (own : LocalAct) (head : Option Descriptor) (part after : Part) → SeeOneUnit now → IsSilent own
    → slice_get now.parts at ≡ Some part → part_without chain after ≡ part_without chain part
    → (place : ℕ) (its : Part) → slice_get (slice_set now.parts at after) place ≡ Some its
    → part_without chain (left_at now.units at own head after its) ≡ part_without chain its
still_at chain now at own head part after one silent found h place its is = by (is_beside now.units at its.endpoint) refl
  where
    at_place : its.endpoint ≡ place
    at_place = numbered_set now.parts at part after one.numbered found (named chain part after h) place its is

    beside : is_beside now.units at its.endpoint ≡ true → Place now.parts at after place its
        → part_without chain (left own head after its) ≡ part_without chain its
    beside below (here same k) = absurd (apart its.endpoint at (and_parts _ _ below).0 (at_place ∙ same))
    beside below (elsewhere k there) =
        seen_before chain own head part after its silent h
        (one.same at place part its found there
        (ap (λ (n : ℕ). is_one (slice_get now.units at) (slice_get now.units n)) (sym at_place) ∙ (and_parts (not (its.endpoint == at)) _ below).1))

    by : (b : Bool) → is_beside now.units at its.endpoint ≡ b
        → part_without chain (if b then left own head after its else its) ≡ part_without chain its
    by false below = refl
    by true below = beside below (place_of now.parts at place part after its found is)

told_still : (chain : Chain) (now : Open) (at : ℕ) (own : LocalAct) (head : Option Descriptor) (part after : Part) → SeeOneUnit now → IsSilent own
    → slice_get now.parts at ≡ Some part → part_without chain after ≡ part_without chain part
    → map (part_without chain) (told now.units at own head (slice_get (slice_set now.parts at after) at) (slice_set now.parts at after))
    ≡ map (part_without chain) now.parts
told_still chain now at own head part after one silent found h =
    ap (λ (o : Option Part). map (part_without chain) (told now.units at own head o (slice_set now.parts at after)))
    (set_here now.parts at part after found)
    ∙ map_same (part_without chain) (left_at now.units at own head after) (slice_set now.parts at after)
    (still_at chain now at own head part after one silent found h)
    ∙ set_same (part_without chain) now.parts at part after found h

with_still : (chain : Chain) (now : Open) (parts : List Part) → map (part_without chain) parts ≡ map (part_without chain) now.parts
    → without chain (with_parts now parts) ≡ without chain now
with_still chain now parts h = λ i. record (without chain now) { parts = h i }

either : (chain : Chain) (now : Open) (b c : Bool) (next told_next : Open) → b ≡ false → without chain next ≡ without chain now
    → without chain told_next ≡ without chain now
    → IsLedTo chain (if b then None else (if c then Some told_next else Some next)) (Some (without chain now))
either chain now false true next told_next is h k = k
either chain now false false next told_next is h k = h
either chain now true c next told_next is h k = absurd (cc is)

shared_still : (chain : Chain) (now : Open) (units : List ℕ) (at : ℕ) (own : LocalAct) (part after : Part) → now.units ≡ units → SeeOneUnit now
    → IsSilent own → slice_get now.parts at ≡ Some part → part_without chain after ≡ part_without chain part
    → IsLedTo chain (shared units at own now.parts (Some (with_parts now (slice_set now.parts at after)))) (Some (without chain now))
shared_still chain now [] at own part after same one silent found h =
    with_still chain now (slice_set now.parts at after) (set_same (part_without chain) now.parts at part after found h)
shared_still chain now (unit ∷ units) at own part after same one silent found h =
    let all = unit ∷ units in
    let head = head_of own (slice_get now.parts at) in
    let parts = slice_set now.parts at after in
    either chain now (awaits_all own && list_any (holds_up all at) now.parts) (is_of_unit own) (with_parts now parts) _
    (not_both _ _ silent.waits)
    (with_still chain now parts (set_same (part_without chain) now.parts at part after found h))
    (with_still chain now (told all at own head (slice_get parts at) parts)
    (subst (λ (of : List ℕ). map (part_without chain) (told of at own head (slice_get parts at) parts) ≡ map (part_without chain) now.parts) same
    (told_still chain now at own head part after one silent found h)))

-- the act of an endpoint that leaves the same without the chain
abbrev IsNone : Chain → Open → (at : ℕ) → (own : LocalAct) → Type 0
IsNone chain now at own = (part : Part) → slice_get now.parts at ≡ Some part
    → IsLed chain (next_part now.settings now.mappings part own) (Some (part_without chain part))

none_after : (chain : Chain) (now : Open) (at : ℕ) (own : LocalAct) (part : Part) (o : Option Part) → SeeOneUnit now → IsSilent own
    → slice_get now.parts at ≡ Some part → IsLed chain o (Some (part_without chain part))
    → IsLedTo chain (shared now.units at own now.parts (option_map (with_parts now) (option_map (slice_set now.parts at) o))) (Some (without chain now))
none_after chain now at own part None one silent found h =
    subst (λ (o : Option Open). IsLedTo chain o (Some (without chain now))) (sym (alone now.units at own now.parts)) tt
none_after chain now at own part (Some after) one silent found h = shared_still chain now now.units at own part after refl one silent found h

none_by : (chain : Chain) (now : Open) (at : ℕ) (own : LocalAct) (o : Option Part) → slice_get now.parts at ≡ o → SeeOneUnit now → IsSilent own
    → IsNone chain now at own
    → IsLedTo chain (shared now.units at own now.parts (option_map (with_parts now) (parts_after now.settings now.mappings now.parts at own o)))
    (Some (without chain now))
none_by chain now at own None found one silent h =
    subst (λ (o : Option Open). IsLedTo chain o (Some (without chain now))) (sym (alone now.units at own now.parts)) tt
none_by chain now at own (Some part) found one silent h = none_after chain now at own part _ one silent found (h part found)

none_led : (chain : Chain) (now : Open) (at : ℕ) (own : LocalAct) → SeeOneUnit now → IsSilent own → IsNone chain now at own
    → IsLedTo chain (done_at now at own) (Some (without chain now))
none_led chain now at own one silent h = none_by chain now at own (slice_get now.parts at) refl one silent h

-- ---- each act at an endpoint

-- what it is without the chain
abbrev IsWithout : Chain → Open → (endpoint : ℕ) → (own : LocalAct) → Option LocalAct → Type 0
IsWithout chain now endpoint own other =
    IsLedTo chain (next_open now (act.At endpoint own)) (next_by (without chain now) (option_map (act.At endpoint) other))

law : (chain : Chain) (now : Open) (own : LocalAct) (part : Part) (other : Option LocalAct) → IsApart chain now → local_without chain part own ≡ other
    → IsLed chain (next_part now.settings now.mappings part own) (next_at chain now.settings now.mappings part other)
law chain now own part other h is =
    subst (λ (o : Option LocalAct). IsLed chain (next_part now.settings now.mappings part own) (next_at chain now.settings now.mappings part o)) is
    (act_at chain now.settings now.mappings part own h.times)

moved_led : (chain : Chain) (now : Open) (endpoint : ℕ) (own other : LocalAct) (part : Part) (b : Bool) → IsApart chain now
    → slice_get now.parts endpoint ≡ Some part → local_without chain part own ≡ if_so b other → IsSilent own → IsToldAs own other
    → IsLedTo chain (done_at now endpoint own) (if b then done_at (without chain now) endpoint other else Some (without chain now))
moved_led chain now endpoint own other part true h found is silent same =
    done_led chain now endpoint own other same (λ its k. law chain now own its (Some other) h
    (ap (λ (it : Part). local_without chain it own) (sym (found_one part its found k)) ∙ is))
  where
    found_one : (x y : Part) → slice_get now.parts endpoint ≡ Some x → slice_get now.parts endpoint ≡ Some y → x ≡ y
    found_one x y a b = cc
moved_led chain now endpoint own other part false h found is silent same =
    none_led chain now endpoint own h.units silent (λ its k. law chain now own its None h
    (ap (λ (it : Part). local_without chain it own) (sym (found_one part its found k)) ∙ is))
  where
    found_one : (x y : Part) → slice_get now.parts endpoint ≡ Some x → slice_get now.parts endpoint ≡ Some y → x ≡ y
    found_one x y a b = cc

moved_next : (chain : Chain) (now : Open) (endpoint : ℕ) (own other : LocalAct) (b : Bool)
    → about now.units endpoint own (slice_get now.parts endpoint) ≡ endpoint
    → about now.units endpoint other (slice_get (map (part_without chain) now.parts) endpoint) ≡ endpoint
    → IsLedTo chain (done_at now endpoint own) (if b then done_at (without chain now) endpoint other else Some (without chain now))
    → IsWithout chain now endpoint own (if_so b other)
moved_next chain now endpoint own other true is_own are_own h =
    subst (λ (at : ℕ). IsLedTo chain (done_at now at own) (next_open (without chain now) (act.At endpoint other))) (sym is_own)
    (subst (λ (at : ℕ). IsLedTo chain (done_at now endpoint own) (done_at (without chain now) at other)) (sym are_own) h)
moved_next chain now endpoint own other false is_own are_own h =
    subst (λ (at : ℕ). IsLedTo chain (done_at now at own) (Some (without chain now))) (sym is_own) h

by_kind : (chain : Chain) (now : Open) (endpoint : ℕ) (own : LocalAct) (part : Part) → IsApart chain now → slice_get now.parts endpoint ≡ Some part
    → Kind chain own → IsWithout chain now endpoint own (local_without chain part own)
by_kind chain now endpoint own part h found (kept same alike free) =
    subst (λ (it : Option LocalAct). IsWithout chain now endpoint own it) (sym (same part))
    (subst (λ (at : ℕ). IsLedTo chain (next_open now (act.At endpoint own)) (done_at (without chain now) at own))
    (same_about chain now endpoint own alike)
    (done_led chain now (about now.units endpoint own (slice_get now.parts endpoint)) own own (λ units at parts next. refl)
    (λ its k. law chain now own its (Some own) h (same its))))
by_kind chain now endpoint own part h found (none same silent) =
    subst (λ (it : Option LocalAct). IsWithout chain now endpoint own it) (sym (same part))
    (none_led chain now (about now.units endpoint own (slice_get now.parts endpoint)) own h.units silent (λ its k. law chain now own its None h (same its)))
by_kind chain now endpoint own part h found (moved keeps other same silent matter its_matter its_told free) =
    subst (λ (it : Option LocalAct). IsWithout chain now endpoint own it) (sym (same part))
    (moved_next chain now endpoint own (other part) (keeps part)
    (own_about now.units endpoint own (slice_get now.parts endpoint) matter)
    (own_about now.units endpoint (other part) (slice_get (map (part_without chain) now.parts) endpoint) (its_matter part))
    (moved_led chain now endpoint own (other part) part (keeps part) h found (same part) silent (its_told part)))

-- at an endpoint that isn't there nothing is permitted
about_none : (units : List ℕ) (endpoint : ℕ) (own : LocalAct) → about units endpoint own None ≡ endpoint
about_none [] endpoint own = refl
about_none (unit ∷ units) endpoint own = refl

nobody : (now : Open) (endpoint : ℕ) (own : LocalAct) → slice_get now.parts endpoint ≡ None → next_open now (act.At endpoint own) ≡ None
nobody now endpoint own h =
    ap (λ (at : ℕ). done_at now at own) (ap (about now.units endpoint own) h ∙ about_none now.units endpoint own)
    ∙ ap (λ (o : Option Part). shared now.units endpoint own now.parts
    (option_map (with_parts now) (parts_after now.settings now.mappings now.parts endpoint own o))) h
    ∙ alone now.units endpoint own now.parts

acts_led : (chain : Chain) (now : Open) (endpoint : ℕ) (own : LocalAct) (o : Option Part) → IsApart chain now → slice_get now.parts endpoint ≡ o
    → IsWithout chain now endpoint own (local_at chain o own)
acts_led chain now endpoint own None h found =
    subst (λ (o : Option Open). IsLedTo chain o (Some (without chain now))) (sym (nobody now endpoint own found)) tt
acts_led chain now endpoint own (Some part) h found = by_kind chain now endpoint own part h found (kind_of chain own)

-- ---- in memory

set : (chain : Chain) (now : Open) (space page frame : ℕ) (write : Bool) (o : Option Tenure)
    → IsLedTo chain (set_page now space page frame write o) (set_page (without chain now) space page frame write o)
set chain now space page frame write None = tt
set chain now space page frame write (Some tenure) = refl

given : (chain : Chain) (now : Open) (frame : ℕ) (o : Option Tenure) → IsLedTo chain (free_frame now frame o) (free_frame (without chain now) frame o)
given chain now frame None = tt
given chain now frame (Some tenure) = refl

frozen : (chain : Chain) (now : Open) (frame : ℕ) (o : Option Tenure) → IsLedTo chain (freeze now frame o) (freeze (without chain now) frame o)
frozen chain now frame None = tt
frozen chain now frame (Some tenure) = refl

pub act_in : (chain : Chain) (now : Open) (one : Act) → IsApart chain now
    → IsLedTo chain (next_open now one) (next_by (without chain now) (act_without chain now one))
act_in chain now act.Mark h = refl
act_in chain now (act.SetPage space page frame write) h = set chain now space page frame write (slice_get now.frames frame)
act_in chain now (act.ClearPage space page) h = refl
act_in chain now (act.FreeFrame frame) h = given chain now frame (slice_get now.frames frame)
act_in chain now (act.Freeze frame) h = frozen chain now frame (slice_get now.frames frame)
act_in chain now (act.FreeSpace space) h = refl
act_in chain now (act.FreeDomain space) h = refl
act_in chain now (act.At endpoint own) h = acts_led chain now endpoint own (slice_get now.parts endpoint) h refl
