-- What endpoints below one unit see of it, and what of a page.
use Rattle.std.proofs.Common.{◌≡◌, ◌∙◌, ℕ, Bool, true, false, Option, Some, None, option_map, List, [], ◌∷◌, map, refl, ap, sym, subst}
use Rattle.std.specs.Prelude.{⊤, ◌&&◌, ◌||◌, if◌then◌else◌, slice_get}
use Rattle.std.specs.List.{list_any}
use Rattle.std.proofs.lemmas.Option.{slice_get-map}
use Rattle.sva_open.specs.declared.acts.Act.TheVariants as act
use Rattle.sva_open.specs.declared.acts.LocalAct.{LocalAct}
use Rattle.sva_open.specs.declared.descriptors.Descriptor.{Descriptor}
use Rattle.sva_open.specs.declared.descriptors.Descriptor.TheVariants as descriptor
use Rattle.sva_open.specs.World.{Open, Part, is_left}
use Rattle.sva_open.specs.Acts.{at_endpoint, done_at, next_open}
use Rattle.sva_open.specs.Below.{Matter, about, about_part, awaits_all, closes, head_of, holds_up, is_beside, is_of_unit, left, left_at, matter_of}
use Rattle.sva_open.specs.Below.{seen, shared, struck, taken_by, told, unfiled, with_told}
use Rattle.sva_open.specs.Below.Matter.{OwnEndpoint, Standing, Oldest, OldestReceived}
use Rattle.sva_open_laws.specs.Pages.{is_at, its_part, its_world}
use Rattle.sva_open_laws.proofs.Filters.{filter_both}

-- where the one is permitted, so is the other, and it leads to what the page has of what the one leaves
abbrev pub IsLedTo : (page : ℕ) → (one other : Option Open) → Type 0
IsLedTo page None other = ⊤
IsLedTo page (Some one) None = ⊥
IsLedTo page (Some one) (Some other) = its_world page one ≡ other

-- ---- at which endpoint an act is

same_matter : (page endpoint : ℕ) (matter : Matter) (part : Part) → about_part endpoint matter part ≡ about_part endpoint matter (its_part page part)
same_matter page endpoint OwnEndpoint part = refl
same_matter page endpoint (Standing place) part = refl
same_matter page endpoint Oldest part = refl
same_matter page endpoint OldestReceived part = refl

same_of : (page : ℕ) (units : List ℕ) (endpoint : ℕ) (own : LocalAct) (o : Option Part)
    → about units endpoint own o ≡ about units endpoint own (option_map (its_part page) o)
same_of page [] endpoint own o = refl
same_of page (unit ∷ units) endpoint own None = refl
same_of page (unit ∷ units) endpoint own (Some part) = same_matter page endpoint (matter_of own) part

pub same_about : (page : ℕ) (now : Open) (endpoint : ℕ) (own : LocalAct)
    → about now.units endpoint own (slice_get now.parts endpoint) ≡ about now.units endpoint own (slice_get (map (its_part page) now.parts) endpoint)
same_about page now endpoint own =
    same_of page now.units endpoint own (slice_get now.parts endpoint)
    ∙ ap (about now.units endpoint own) (sym (slice_get-map (its_part page) now.parts endpoint))

own_part : (endpoint : ℕ) (matter : Matter) (part : Part) → matter ≡ OwnEndpoint → about_part endpoint matter part ≡ endpoint
own_part endpoint matter part h = ap (λ (it : Matter). about_part endpoint it part) h

pub own_about : (units : List ℕ) (endpoint : ℕ) (own : LocalAct) (o : Option Part) → matter_of own ≡ OwnEndpoint → about units endpoint own o ≡ endpoint
own_about [] endpoint own o h = refl
own_about (unit ∷ units) endpoint own None h = refl
own_about (unit ∷ units) endpoint own (Some part) h = own_part endpoint (matter_of own) part h

-- ---- an act of which no other endpoint sees anything

pub record IsQuiet (own : LocalAct) : Type 0 where
  pub matter : matter_of own ≡ OwnEndpoint
  pub apart : is_of_unit own ≡ false
  pub waits : awaits_all own ≡ false

chosen : (b c : Bool) (out told next : Option Open) → b ≡ false → c ≡ false → (if b then out else (if c then told else next)) ≡ next
chosen false false out told next h k = refl
chosen true c out told next h k = absurd (cc h)
chosen false true out told next h k = absurd (cc k)

pub not_both : (a b : Bool) → a ≡ false → a && b ≡ false
not_both false b h = refl
not_both true b h = absurd (cc h)

unshared : (units : List ℕ) (endpoint : ℕ) (own : LocalAct) (parts : List Part) (next : Option Open) → IsQuiet own
    → shared units endpoint own parts next ≡ next
unshared [] endpoint own parts next h = refl
unshared (unit ∷ units) endpoint own parts next h =
    chosen _ _ None _ next (not_both (awaits_all own) (list_any (holds_up (unit ∷ units) endpoint) parts) h.waits) h.apart

pub quietly : (now : Open) (endpoint : ℕ) (own : LocalAct) → IsQuiet own → next_open now (act.At endpoint own) ≡ at_endpoint now endpoint own
quietly now endpoint own h =
    ap (λ (at : ℕ). done_at now at own) (own_about now.units endpoint own (slice_get now.parts endpoint) h.matter)
    ∙ unshared now.units endpoint own now.parts (at_endpoint now endpoint own) h

-- ---- what is left of another endpoint

struck_of : (page : ℕ) (head : Option Descriptor) (part : Part) → its_part page (struck head part) ≡ struck head (its_part page part)
struck_of page None part = refl
struck_of page (Some (descriptor.Device endpoint scope)) part = refl
struck_of page (Some (descriptor.Translations (Some endpoint) scope)) part = refl
struck_of page (Some (descriptor.Translations None scope)) part =
    λ i. record (its_part page part) { kept = filter_both (is_at page) (is_left scope) part.kept i }
struck_of page (Some (descriptor.Entry (Some endpoint) pasid)) part = refl
struck_of page (Some (descriptor.Entry None pasid)) part = refl
struck_of page (Some (descriptor.Wait name drain fence)) part = refl
struck_of page (Some (descriptor.Out itag)) part = refl

unfiled_of : (page : ℕ) (b : Bool) (part : Part) → its_part page (unfiled b part) ≡ unfiled b (its_part page part)
unfiled_of page true part = refl
unfiled_of page false part = refl

left_of : (page : ℕ) (own : LocalAct) (head : Option Descriptor) (by other : Part)
    → its_part page (left own head by other) ≡ left own head (its_part page by) (its_part page other)
left_of page own head by other =
    unfiled_of page (closes own) (struck (taken_by own head) (seen by other))
    ∙ ap (unfiled (closes own)) (struck_of page (taken_by own head) (seen by other))

left_if : (page : ℕ) (b : Bool) (own : LocalAct) (head : Option Descriptor) (by other : Part)
    → its_part page (if b then left own head by other else other)
    ≡ (if b then left own head (its_part page by) (its_part page other) else its_part page other)
left_if page true own head by other = left_of page own head by other
left_if page false own head by other = refl

all_left : (page : ℕ) (units : List ℕ) (endpoint : ℕ) (own : LocalAct) (head : Option Descriptor) (by : Part) (parts : List Part)
    → map (its_part page) (map (left_at units endpoint own head by) parts)
    ≡ map (left_at units endpoint own head (its_part page by)) (map (its_part page) parts)
all_left page units endpoint own head by [] = refl
all_left page units endpoint own head by (part ∷ parts) =
    λ i. left_if page (is_beside units endpoint part.endpoint) own head by part i ∷ all_left page units endpoint own head by parts i

-- ---- what is left of all

told_at : (page : ℕ) (units : List ℕ) (endpoint : ℕ) (own : LocalAct) (head : Option Descriptor) (parts : List Part) (o : Option Part)
    → map (its_part page) (told units endpoint own head o parts)
    ≡ told units endpoint own head (option_map (its_part page) o) (map (its_part page) parts)
told_at page units endpoint own head parts None = refl
told_at page units endpoint own head parts (Some by) = all_left page units endpoint own head by parts

told_led : (page : ℕ) (units : List ℕ) (endpoint : ℕ) (own : LocalAct) (head : Option Descriptor) (x y : Option Open) → IsLedTo page x y
    → IsLedTo page (option_map (with_told units endpoint own head) x) (option_map (with_told units endpoint own head) y)
told_led page units endpoint own head None y h = tt
told_led page units endpoint own head (Some one) None h = h
told_led page units endpoint own head (Some one) (Some other) h =
    (λ i. record (its_world page one) {
      parts = (told_at page units endpoint own head one.parts (slice_get one.parts endpoint)
          ∙ ap (λ (o : Option Part). told units endpoint own head o (map (its_part page) one.parts))
          (sym (slice_get-map (its_part page) one.parts endpoint))) i;
    })
    ∙ ap (with_told units endpoint own head) h

heads : (page : ℕ) (own : LocalAct) (o : Option Part) → head_of own o ≡ head_of own (option_map (its_part page) o)
heads page own None = refl
heads page own (Some part) = refl

any_of : (page : ℕ) (units : List ℕ) (endpoint : ℕ) (parts : List Part)
    → list_any (holds_up units endpoint) parts ≡ list_any (holds_up units endpoint) (map (its_part page) parts)
any_of page units endpoint [] = refl
any_of page units endpoint (part ∷ parts) = λ i. holds_up units endpoint part || any_of page units endpoint parts i

led_if : (page : ℕ) (b c : Bool) (x y : Option Open) → b ≡ c → IsLedTo page x y → IsLedTo page (if b then None else x) (if c then None else y)
led_if page true c x y same h = tt
led_if page false false x y same h = h
led_if page false true x y same h = absurd (cc same)

led_or : (page : ℕ) (b : Bool) (x y told_x told_y : Option Open) → IsLedTo page x y → IsLedTo page told_x told_y
    → IsLedTo page (if b then told_x else x) (if b then told_y else y)
led_or page true x y told_x told_y h k = k
led_or page false x y told_x told_y h k = h

pub shared_led : (page : ℕ) (units : List ℕ) (endpoint : ℕ) (own : LocalAct) (parts : List Part) (x y : Option Open) → IsLedTo page x y
    → IsLedTo page (shared units endpoint own parts x) (shared units endpoint own (map (its_part page) parts) y)
shared_led page [] endpoint own parts x y h = h
shared_led page (unit ∷ units) endpoint own parts x y h =
    led_if page _ _ _ _ (ap (λ b. awaits_all own && b) (any_of page (unit ∷ units) endpoint parts))
    (led_or page (is_of_unit own) _ _ _ _ h
    (subst
    (λ (head : Option Descriptor). IsLedTo page
    (option_map (with_told (unit ∷ units) endpoint own (head_of own (slice_get parts endpoint))) x)
    (option_map (with_told (unit ∷ units) endpoint own head) y))
    (heads page own (slice_get parts endpoint) ∙ ap (head_of own) (sym (slice_get-map (its_part page) parts endpoint)))
    (told_led page (unit ∷ units) endpoint own (head_of own (slice_get parts endpoint)) x y h)))
