-- Endpoints below one unit see one unit, whatever acts come.
use Rattle.std.proofs.Common.{◌≡◌, ◌∙◌, ℕ, zero, suc, Bool, true, false, Option, Some, None, option_map, List, [], ◌∷◌, map, refl, ap, sym, subst, arith}
use Rattle.std.proofs.lemmas.Bool.Decides.{nat_tests}
use Rattle.std.proofs.lemmas.Option.{same_Some, slice_get-map}
use Rattle.std.specs.Prelude.{⊤, ◌+◌, ◌==◌, ◌&&◌, ◌≢◌, if◌then◌else◌, not, slice_get, slice_set}
use Rattle.std.specs.List.{list_any}
use Rattle.sva_open.specs.declared.acts.Act.{Act}
use Rattle.sva_open.specs.declared.acts.Act.TheVariants as act
use Rattle.sva_open.specs.declared.acts.LocalAct.{LocalAct}
use Rattle.sva_open.specs.declared.descriptors.Descriptor.{Descriptor}
use Rattle.sva_open.specs.declared.descriptors.Descriptor.TheVariants as descriptor
use Rattle.sva_open.specs.declared.frames.Tenure.{Tenure}
use Rattle.sva_open.specs.declared.settings.Conduct.{Conduct}
use Rattle.sva_open.specs.Acts.{done_at, free_frame, freeze, next_open, next_part, parts_after, set_page, with_parts}
use Rattle.sva_open.specs.Below.{about, awaits_all, closes, head_of, holds_up, is_beside, is_of_unit, is_one, left, left_at, seen, shared, struck}
use Rattle.sva_open.specs.Below.{taken_by, told, unfiled, with_told}
use Rattle.sva_open.specs.World.{Open, Part, opened, part_opened, parts_opened}
use Rattle.sva_open_laws.specs.OneUnit.{AlwaysSeeOneUnit, SeeOneUnit}
use Rattle.sva_open_laws.specs.Pages.{after}
use Rattle.sva_open_laws.specs.Weights.{AreNumbered}
use Rattle.sva_open_laws.proofs.OneUnitActs as acts
use Rattle.sva_open_laws.proofs.OneUnitActs.{IsLeft, Of}

-- ---- lists

pub set_here : (parts : List Part) (at : ℕ) (part new : Part) → slice_get parts at ≡ Some part → slice_get (slice_set parts at new) at ≡ Some new
set_here [] at part new h = absurd (cc)
set_here (x ∷ xs) zero part new h = refl
set_here (x ∷ xs) (suc at) part new h = set_here xs at part new h

set_elsewhere : (parts : List Part) (at other : ℕ) (new : Part) → other ≢ at → slice_get (slice_set parts at new) other ≡ slice_get parts other
set_elsewhere [] at other new h = refl
set_elsewhere (x ∷ xs) zero zero new h = absurd (h refl)
set_elsewhere (x ∷ xs) zero (suc other) new h = refl
set_elsewhere (x ∷ xs) (suc at) zero new h = refl
set_elsewhere (x ∷ xs) (suc at) (suc other) new h = set_elsewhere xs at other new (λ same. h (ap suc same))

-- ---- which stand below one unit

pub same_unit : (a b : Option ℕ) → is_one a b ≡ true → a ≡ b
same_unit None b h = absurd (cc)
same_unit (Some unit) None h = absurd (cc)
same_unit (Some unit) (Some other) h = ap Some (equal unit other h)
  where
    equal : (a b : ℕ) → (a == b) ≡ true → a ≡ b
    equal a b h = grind (arith, nat_tests)

-- ---- what is left of the unit's fields

seen_struck : (by : Part) (head : Option Descriptor) (part : Part) → seen by (struck head part) ≡ struck head (seen by part)
seen_struck by None part = refl
seen_struck by (Some (descriptor.Device endpoint scope)) part = refl
seen_struck by (Some (descriptor.Translations (Some endpoint) scope)) part = refl
seen_struck by (Some (descriptor.Translations None scope)) part = refl
seen_struck by (Some (descriptor.Entry (Some endpoint) pasid)) part = refl
seen_struck by (Some (descriptor.Entry None pasid)) part = refl
seen_struck by (Some (descriptor.Wait name drain fence)) part = refl
seen_struck by (Some (descriptor.Out itag)) part = refl

seen_unfiled : (by : Part) (b : Bool) (part : Part) → seen by (unfiled b part) ≡ unfiled b (seen by part)
seen_unfiled by true part = refl
seen_unfiled by false part = refl

by_struck : (head : Option Descriptor) (by part : Part) → seen (struck head by) part ≡ seen by part
by_struck None by part = refl
by_struck (Some (descriptor.Device endpoint scope)) by part = refl
by_struck (Some (descriptor.Translations (Some endpoint) scope)) by part = refl
by_struck (Some (descriptor.Translations None scope)) by part = refl
by_struck (Some (descriptor.Entry (Some endpoint) pasid)) by part = refl
by_struck (Some (descriptor.Entry None pasid)) by part = refl
by_struck (Some (descriptor.Wait name drain fence)) by part = refl
by_struck (Some (descriptor.Out itag)) by part = refl

by_unfiled : (b : Bool) (by part : Part) → seen (unfiled b by) part ≡ seen by part
by_unfiled true by part = refl
by_unfiled false by part = refl

-- what is left of another endpoint sees what the act's own one does
left_sees : (own : LocalAct) (head : Option Descriptor) (by part : Part) → seen by (left own head by part) ≡ left own head by part
left_sees own head by part =
    seen_unfiled by (closes own) _ ∙ ap (unfiled (closes own)) (seen_struck by (taken_by own head) (seen by part))

by_left : (own : LocalAct) (head : Option Descriptor) (by part other : Part) → seen (left own head by part) other ≡ seen by other
by_left own head by part other = by_unfiled (closes own) _ other ∙ by_struck (taken_by own head) (seen by part) other

pub left_named : (own : LocalAct) (head : Option Descriptor) (by part : Part) → (left own head by part).endpoint ≡ part.endpoint
left_named own head by part = unfiled_named (closes own) _ ∙ struck_named (taken_by own head) (seen by part)
  where
    struck_named : (head : Option Descriptor) (part : Part) → (struck head part).endpoint ≡ part.endpoint
    struck_named None part = refl
    struck_named (Some (descriptor.Device endpoint scope)) part = refl
    struck_named (Some (descriptor.Translations (Some endpoint) scope)) part = refl
    struck_named (Some (descriptor.Translations None scope)) part = refl
    struck_named (Some (descriptor.Entry (Some endpoint) pasid)) part = refl
    struck_named (Some (descriptor.Entry None pasid)) part = refl
    struck_named (Some (descriptor.Wait name drain fence)) part = refl
    struck_named (Some (descriptor.Out itag)) part = refl

    unfiled_named : (b : Bool) (part : Part) → (unfiled b part).endpoint ≡ part.endpoint
    unfiled_named true part = refl
    unfiled_named false part = refl

-- ---- the endpoints

record Sees (units : List ℕ) (parts : List Part) : Type 0 where
  numbered : AreNumbered parts
  same : (one other : ℕ) (its their : Part) → slice_get parts one ≡ Some its → slice_get parts other ≡ Some their
      → is_one (slice_get units one) (slice_get units other) ≡ true → seen its their ≡ their

-- a place is the one where something was done, or not, and what stands there then
pub data Place (parts : List Part) (at : ℕ) (after : Part) (place : ℕ) (its : Part) : Type 0 where
  here : place ≡ at → its ≡ after → Place parts at after place its
  elsewhere : place ≢ at → slice_get parts place ≡ Some its → Place parts at after place its

pub place_of : (parts : List Part) (at place : ℕ) (part after its : Part) → slice_get parts at ≡ Some part
    → slice_get (slice_set parts at after) place ≡ Some its → Place parts at after place its
place_of parts at place part after its found h = by (place == at) refl
  where
    is : (a b : ℕ) → (a == b) ≡ true → a ≡ b
    is a b k = grind (arith, nat_tests)

    isnt : (a b : ℕ) → (a == b) ≡ false → a ≢ b
    isnt a b k same = grind (arith, nat_tests)

    by : (b : Bool) → (place == at) ≡ b → Place parts at after place its
    by true k =
        let same : place ≡ at = is place at k in
        here same
        (same_Some _ _ (sym h ∙ ap (slice_get (slice_set parts at after)) same ∙ set_here parts at part after found))
    by false k = elsewhere (isnt place at k) (sym (set_elsewhere parts at place after (isnt place at k)) ∙ h)

pub numbered_set : (parts : List Part) (at : ℕ) (part after : Part) → AreNumbered parts → slice_get parts at ≡ Some part
    → after.endpoint ≡ part.endpoint → AreNumbered (slice_set parts at after)
numbered_set parts at part after h found named endpoint its k = by (place_of parts at endpoint part after its found k)
  where
    by : Place parts at after endpoint its → its.endpoint ≡ endpoint
    by (here same is) = ap (λ (it : Part). it.endpoint) is ∙ named ∙ h at part found ∙ sym same
    by (elsewhere apart is) = h endpoint its is

-- an act that isn't of the unit
quiet : (units : List ℕ) (parts : List Part) (at : ℕ) (part after : Part) → Sees units parts → slice_get parts at ≡ Some part
    → after.endpoint ≡ part.endpoint → ((other : Part) → seen after other ≡ seen part other) → Sees units (slice_set parts at after)
quiet units parts at part after h found named still = record {
  numbered = numbered_set parts at part after h.numbered found named;
  same = λ one other its their a b k.
      by one other its their (place_of parts at one part after its found a) (place_of parts at other part after their found b) k;
}
  where
    by : (one other : ℕ) (its their : Part) → Place parts at after one its → Place parts at after other their
        → is_one (slice_get units one) (slice_get units other) ≡ true → seen its their ≡ their
    by one other its their (here p is) (here q it) k = ap (λ (x : Part). seen x their) (is ∙ sym it)
    by one other its their (here p is) (elsewhere q it) k =
        ap (λ (x : Part). seen x their) is
        ∙ still their
        ∙ h.same at other part their found it (ap (λ (x : ℕ). is_one (slice_get units x) (slice_get units other)) (sym p) ∙ k)
    by one other its their (elsewhere p is) (here q it) k =
        let met : seen its part ≡ part =
        h.same one at its part is found (ap (λ (x : ℕ). is_one (slice_get units one) (slice_get units x)) (sym q) ∙ k) in
        ap (seen its) it ∙ ap (λ (x : Part). seen x after) met ∙ sym (still after) ∙ sym it
    by one other its their (elsewhere p is) (elsewhere q it) k = h.same one other its their is it k

-- an act of the unit, which the others see
data Told (units : List ℕ) (at place : ℕ) (own : LocalAct) (head : Option Descriptor) (after its : Part) (left_of : Part) : Type 0 where
  below : is_beside units at place ≡ true → left_of ≡ left own head after its → Told units at place own head after its left_of
  beside : is_beside units at place ≡ false → left_of ≡ its → Told units at place own head after its left_of

told_as : (units : List ℕ) (at place : ℕ) (own : LocalAct) (head : Option Descriptor) (after its : Part) → its.endpoint ≡ place
    → Told units at place own head after its (left_at units at own head after its)
told_as units at place own head after its numbered =
    subst (λ (x : ℕ). Told units at place own head after its (if is_beside units at x then left own head after its else its)) (sym numbered)
    (by (is_beside units at place) refl)
  where
    by : (b : Bool) → is_beside units at place ≡ b → Told units at place own head after its (if b then left own head after its else its)
    by true k = below k refl
    by false k = beside k refl

not_apart : (a b : Bool) → not a && b ≡ false → b ≡ true → a ≡ true
not_apart true b h k = refl
not_apart false true h k = absurd (cc h)
not_apart false false h k = absurd (cc k)

-- below the unit of an endpoint, and not beside it: it is that endpoint
itself : (units : List ℕ) (at place : ℕ) → is_beside units at place ≡ false → slice_get units at ≡ slice_get units place
    → is_one (slice_get units place) (slice_get units place) ≡ true → place ≡ at
itself units at place h k there =
    equal place at (not_apart (place == at) _ h (ap (λ (x : Option ℕ). is_one x (slice_get units place)) k ∙ there))
  where
    equal : (a b : ℕ) → (a == b) ≡ true → a ≡ b
    equal a b h = grind (arith, nat_tests)

beside_one : (units : List ℕ) (at place : ℕ) → is_beside units at place ≡ true → slice_get units at ≡ slice_get units place
beside_one units at place h = same_unit (slice_get units at) (slice_get units place) (second (not (place == at)) _ h)
  where
    second : (a b : Bool) → a && b ≡ true → b ≡ true
    second true b h = h
    second false b h = absurd (cc h)

-- one that is in a unit is in its own
pub in_own : (a b : Option ℕ) → is_one a b ≡ true → (is_one a a ≡ true) × (is_one b b ≡ true)
in_own a b h =
    let same : a ≡ b = same_unit a b h in
    (ap (is_one a) same ∙ h, ap (λ (x : Option ℕ). is_one x b) (sym same) ∙ h)

loud : (units : List ℕ) (parts : List Part) (at : ℕ) (own : LocalAct) (head : Option Descriptor) (part after : Part) → Sees units parts
    → slice_get parts at ≡ Some part → after.endpoint ≡ part.endpoint
    → Sees units (map (left_at units at own head after) (slice_set parts at after))
loud units parts at own head part after h found named = record {
  numbered = λ endpoint its k.
      let x = was endpoint its k in
      ap (λ (it : Part). it.endpoint) (sym x.2) ∙ left_at_named (is_beside units at x.0.endpoint) x.0 ∙ number endpoint x.0 x.1;
  same = λ one other its their a b k.
      let x = was one its a in
      let y = was other their b in
      subst (λ (z : Part). seen its z ≡ z) y.2
      (subst (λ (z : Part). seen z (left_at units at own head after y.0) ≡ left_at units at own head after y.0) x.2
      (by one other x.0 y.0 _ _ (place_of parts at one part after x.0 found x.1) (place_of parts at other part after y.0 found y.1)
      (told_as units at one own head after x.0 (number one x.0 x.1)) (told_as units at other own head after y.0 (number other y.0 y.1)) k));
}
  where
    number : AreNumbered (slice_set parts at after)
    number = numbered_set parts at part after h.numbered found named

    left_at_named : (b : Bool) (its : Part) → (if b then left own head after its else its).endpoint ≡ its.endpoint
    left_at_named true its = left_named own head after its
    left_at_named false its = refl

    was : (place : ℕ) (its : Part) → slice_get (map (left_at units at own head after) (slice_set parts at after)) place ≡ Some its
        → (x : Part) × (slice_get (slice_set parts at after) place ≡ Some x) × (left_at units at own head after x ≡ its)
    was place its k = pick (slice_get (slice_set parts at after) place) refl
        (sym (slice_get-map (left_at units at own head after) (slice_set parts at after) place) ∙ k)
      where
        pick : (o : Option Part) → slice_get (slice_set parts at after) place ≡ o → option_map (left_at units at own head after) o ≡ Some its
            → (x : Part) × (slice_get (slice_set parts at after) place ≡ Some x) × (left_at units at own head after x ≡ its)
        pick None is k = absurd (cc k)
        pick (Some x) is k = (x, is, same_Some _ _ k)

    own_part : (place : ℕ) (its : Part) → Place parts at after place its → place ≡ at → its ≡ after
    own_part place its (here a b) is = b
    own_part place its (elsewhere a b) is = absurd (a is)

    by : (one other : ℕ) (its their its_left their_left : Part) → Place parts at after one its → Place parts at after other their
        → Told units at one own head after its its_left → Told units at other own head after their their_left
        → is_one (slice_get units one) (slice_get units other) ≡ true → seen its_left their_left ≡ their_left
    by one other its their its_left their_left p q (below s is) (below t it) k =
        ap (λ (x : Part). seen x their_left) is ∙ by_left own head after its their_left
        ∙ ap (seen after) it ∙ left_sees own head after their ∙ sym it
    by one other its their its_left their_left p q (below s is) (beside t it) k =
        let unit : slice_get units at ≡ slice_get units other =
        beside_one units at one s ∙ same_unit (slice_get units one) (slice_get units other) k in
        let is_at : other ≡ at = itself units at other t unit (in_own (slice_get units one) (slice_get units other) k).1 in
        let last : their_left ≡ after = it ∙ own_part other their q is_at in
        ap (λ (x : Part). seen x their_left) is ∙ by_left own head after its their_left ∙ ap (λ (x : Part). seen x their_left) (sym last)
    by one other its their its_left their_left p q (beside s is) (below t it) k =
        let unit : slice_get units at ≡ slice_get units one =
        beside_one units at other t ∙ sym (same_unit (slice_get units one) (slice_get units other) k) in
        let is_at : one ≡ at = itself units at one s unit (in_own (slice_get units one) (slice_get units other) k).0 in
        let first : its_left ≡ after = is ∙ own_part one its p is_at in
        ap (λ (x : Part). seen x their_left) first ∙ ap (seen after) it ∙ left_sees own head after their ∙ sym it
    by one other its their its_left their_left p q (beside s is) (beside t it) k =
        ap (λ (x : Part). seen x their_left) is ∙ ap (seen its) it ∙ both p q ∙ sym it
      where
        one_unit : slice_get units one ≡ slice_get units other
        one_unit = same_unit (slice_get units one) (slice_get units other) k

        both : Place parts at after one its → Place parts at after other their → seen its their ≡ their
        both (here a b) (here c d) = ap (λ (x : Part). seen x their) (b ∙ sym d)
        both (here a b) (elsewhere c d) =
            absurd (c (itself units at other t (ap (slice_get units) (sym a) ∙ one_unit)
            (in_own (slice_get units one) (slice_get units other) k).1))
        both (elsewhere a b) (here c d) =
            absurd (a (itself units at one s (ap (slice_get units) (sym c) ∙ sym one_unit)
            (in_own (slice_get units one) (slice_get units other) k).0))
        both (elsewhere a b) (elsewhere c d) = h.same one other its their b d k

-- ---- the world

abbrev Good : (units : List ℕ) → Option Open → Type 0
Good units None = ⊤
Good units (Some next) = (next.units ≡ units) × Sees units next.parts

pub alone : (units : List ℕ) (at : ℕ) (own : LocalAct) (parts : List Part) → shared units at own parts None ≡ None
alone [] at own parts = refl
alone (unit ∷ units) at own parts = either (awaits_all own && list_any (holds_up (unit ∷ units) at) parts) (is_of_unit own)
  where
    either : (b c : Bool)
        → (if b then None else (if c then option_map (with_told (unit ∷ units) at own (head_of own (slice_get parts at))) None else None)) ≡ None
    either true c = refl
    either false true = refl
    either false false = refl

behind : (units : List ℕ) (at : ℕ) (own : LocalAct) (now : Open) (part after : Part) → now.units ≡ units → Sees units now.parts
    → slice_get now.parts at ≡ Some part → IsLeft own part after
    → Good units (shared units at own now.parts (Some (with_parts now (slice_set now.parts at after))))
behind [] at own now part after is h found left_by =
    (is, record { numbered = numbered_set now.parts at part after h.numbered found left_by.0; same = λ one other its their a b k. absurd (cc k) })
behind (unit ∷ units) at own now part after is h found left_by =
    either (awaits_all own && list_any (holds_up (unit ∷ units) at) now.parts) (is_of_unit own) refl
  where
    head : Option Descriptor
    head = head_of own (slice_get now.parts at)

    next : Open
    next = with_parts now (slice_set now.parts at after)

    told_next : Good (unit ∷ units) (Some (with_told (unit ∷ units) at own head next))
    told_next =
        subst (λ (o : Option Part). Good (unit ∷ units) (Some (record next { parts = told (unit ∷ units) at own head o next.parts })))
        (sym (set_here now.parts at part after found)) (is, loud (unit ∷ units) now.parts at own head part after h found left_by.0)

    either : (b c : Bool) → is_of_unit own ≡ c
        → Good (unit ∷ units) (if b then None else (if c then option_map (with_told (unit ∷ units) at own head) (Some next) else Some next))
    either true c same = tt
    either false true same = told_next
    either false false same = (is, quiet (unit ∷ units) now.parts at part after h found left_by.0 (left_by.1 same))

by_next : (units : List ℕ) (at : ℕ) (own : LocalAct) (now : Open) (part : Part) → now.units ≡ units → Sees units now.parts
    → slice_get now.parts at ≡ Some part → (o : Option Part) → Of (IsLeft own) part o
    → Good units (shared units at own now.parts (option_map (with_parts now) (option_map (slice_set now.parts at) o)))
by_next units at own now part is h found None left_by = subst (Good units) (sym (alone units at own now.parts)) tt
by_next units at own now part is h found (Some after) left_by = behind units at own now part after is h found left_by

by_part : (units : List ℕ) (at : ℕ) (own : LocalAct) (now : Open) → now.units ≡ units → Sees units now.parts
    → (o : Option Part) → slice_get now.parts at ≡ o
    → Good units (shared units at own now.parts (option_map (with_parts now) (parts_after now.settings now.mappings now.parts at own o)))
by_part units at own now is h None found = subst (Good units) (sym (alone units at own now.parts)) tt
by_part units at own now is h (Some part) found =
    by_next units at own now part is h found (next_part now.settings now.mappings part own) (acts.left now.settings now.mappings part own)

at_own : (now : Open) (at : ℕ) (own : LocalAct) → Sees now.units now.parts → Good now.units (done_at now at own)
at_own now at own h = by_part now.units at own now refl h (slice_get now.parts at) refl

page : (now : Open) (space number frame : ℕ) (write : Bool) (o : Option Tenure) → Sees now.units now.parts
    → Good now.units (set_page now space number frame write o)
page now space number frame write None h = tt
page now space number frame write (Some tenure) h = (refl, h)

given : (now : Open) (frame : ℕ) (o : Option Tenure) → Sees now.units now.parts → Good now.units (free_frame now frame o)
given now frame None h = tt
given now frame (Some tenure) h = (refl, h)

frozen : (now : Open) (frame : ℕ) (o : Option Tenure) → Sees now.units now.parts → Good now.units (freeze now frame o)
frozen now frame None h = tt
frozen now frame (Some tenure) h = (refl, h)

step : (now : Open) (its : Act) → Sees now.units now.parts → Good now.units (next_open now its)
step now act.Mark h = (refl, h)
step now (act.SetPage space number frame write) h = page now space number frame write (slice_get now.frames frame) h
step now (act.ClearPage space number) h = (refl, h)
step now (act.FreeFrame frame) h = given now frame (slice_get now.frames frame) h
step now (act.Freeze frame) h = frozen now frame (slice_get now.frames frame) h
step now (act.FreeSpace space) h = (refl, h)
step now (act.FreeDomain space) h = (refl, h)
step now (act.At endpoint own) h = at_own now (about now.units endpoint own (slice_get now.parts endpoint)) own h

pub next_sees : (now next : Open) (its : Act) → SeeOneUnit now → next_open now its ≡ Some next → SeeOneUnit next
next_sees now next its h is =
    let good = subst (Good now.units) is (step now its (record { numbered = h.numbered; same = h.same })) in
    let sees = subst (λ (units : List ℕ). Sees units next.parts) (sym good.0) good.1 in
    record { numbered = sees.numbered; same = sees.same }

-- ---- lists of acts

each : (acts : List Act) (o : Option Open) (now : Open) → ((next : Open) → o ≡ Some next → Sees next.units next.parts) → after o acts ≡ Some now
    → Sees now.units now.parts
each acts None now h k = absurd (cc k)
each [] (Some next) now h k = h now k
each (its ∷ acts) (Some next) now h k = each acts (next_open next its) now (λ last is. led (h next refl) last is) k
  where
    led : Sees next.units next.parts → (last : Open) → next_open next its ≡ Some last → Sees last.units last.parts
    led sees last is =
        let good = subst (Good next.units) is (step next its sees) in
        subst (λ (units : List ℕ). Sees units last.parts) (sym good.0) good.1

-- ---- at first

pub opened_numbered : (pasids from : ℕ) (conducts : List Conduct) (place : ℕ) (part : Part)
    → slice_get (parts_opened pasids from conducts) place ≡ Some part → part.endpoint ≡ from + place
unfolding parts_opened
opened_numbered pasids from [] place part h = absurd (cc)
opened_numbered pasids from (conduct ∷ conducts) zero part h = ap (λ (it : Part). it.endpoint) (sym (same_Some _ _ h)) ∙ omega (arith)
opened_numbered pasids from (conduct ∷ conducts) (suc place) part h = opened_numbered pasids (suc from) conducts place part h ∙ omega (arith)

opened_alike : (pasids from : ℕ) (conducts : List Conduct) (place : ℕ) (part : Part)
    → slice_get (parts_opened pasids from conducts) place ≡ Some part
    → (pasid endpoint : ℕ) (conduct : Conduct) → seen (part_opened pasid endpoint conduct) part ≡ part
unfolding parts_opened
opened_alike pasids from [] place part h pasid endpoint conduct = absurd (cc)
opened_alike pasids from (first ∷ conducts) zero part h pasid endpoint conduct =
    let same = same_Some _ _ h in ap (seen (part_opened pasid endpoint conduct)) (sym same) ∙ same
opened_alike pasids from (first ∷ conducts) (suc place) part h pasid endpoint conduct =
    opened_alike pasids (suc from) conducts place part h pasid endpoint conduct

opened_seen : (pasids from : ℕ) (conducts : List Conduct) (place : ℕ) (part : Part)
    → slice_get (parts_opened pasids from conducts) place ≡ Some part → (other : Part)
    → ((pasid endpoint : ℕ) (conduct : Conduct) → seen (part_opened pasid endpoint conduct) other ≡ other) → seen part other ≡ other
unfolding parts_opened
opened_seen pasids from [] place part h other k = absurd (cc)
opened_seen pasids from (conduct ∷ conducts) zero part h other k =
    ap (λ (it : Part). seen it other) (sym (same_Some _ _ h)) ∙ k pasids from conduct
opened_seen pasids from (conduct ∷ conducts) (suc place) part h other k = opened_seen pasids (suc from) conducts place part h other k

from_none : (n : ℕ) → 0 + n ≡ n
from_none n = omega (arith)

at_first : (units : List ℕ) (pasids : ℕ) (conducts : List Conduct) → Sees units (parts_opened pasids 0 conducts)
at_first units pasids conducts = record {
  numbered = λ endpoint part h. opened_numbered pasids 0 conducts endpoint part h ∙ from_none endpoint;
  same = λ one other its their a b k. opened_seen pasids 0 conducts one its a their (opened_alike pasids 0 conducts other their b);
}

pub always : AlwaysSeeOneUnit
always settings conducts units pasids frames list now h =
    let sees = each list (Some (opened settings conducts units pasids frames)) now
    (λ next is. subst (λ (it : Open). Sees it.units it.parts) (same_Some _ _ is) (at_first units pasids conducts)) h in
    record { numbered = sees.numbered; same = sees.same }
