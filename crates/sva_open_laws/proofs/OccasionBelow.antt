-- What endpoints below one unit see of it, and what without asks, and without faults.
use Rattle.std.proofs.Common.{◌≡◌, ◌∙◌, ℕ, Bool, true, false, Option, Some, None, option_map, List, [], ◌∷◌, map, refl, ap, sym, subst}
use Rattle.std.specs.Prelude.{⊤, if◌then◌else◌, slice_get}
use Rattle.std.specs.List.{list_any}
use Rattle.std.proofs.lemmas.Option.{slice_get-map}
use Rattle.sva_open.specs.declared.acts.LocalAct.{LocalAct}
use Rattle.sva_open.specs.declared.acts.LocalAct.TheVariants as local
use Rattle.sva_open.specs.declared.descriptors.Descriptor.{Descriptor}
use Rattle.sva_open.specs.declared.descriptors.Descriptor.TheVariants as descriptor
use Rattle.sva_open.specs.World.{Open, Part}
use Rattle.sva_open.specs.Host.{is_whole_under}
use Rattle.sva_open.specs.Below.{Matter, about, about_part, awaits_all, closes, head_of, holds_up, is_beside, is_of_unit, left, left_at, matter_of, place_of}
use Rattle.sva_open.specs.Below.{seen, shared, struck, taken_by, told, unfiled, with_told}
use Rattle.sva_open.specs.Below.Matter.{OwnEndpoint, Standing, Oldest, OldestReceived}
use Rattle.sva_open_laws.specs.Occasions.{Chain, part_without, without}
use Rattle.sva_open_laws.specs.Occasions.Chain.{Asks, Faults}
use Rattle.sva_open_laws.proofs.PageBarriers.{and_none, or_none}

-- where the one is permitted, so is the other, and it leads to what the one leaves without the chain
abbrev pub IsLedTo : Chain → (one other : Option Open) → Type 0
IsLedTo chain None other = ⊤
IsLedTo chain (Some one) None = ⊥
IsLedTo chain (Some one) (Some other) = without chain one ≡ other

-- ---- what stays

pub same_name : (chain : Chain) (part : Part) → (part_without chain part).endpoint ≡ part.endpoint
same_name Asks part = refl
same_name Faults part = refl

same_queue : (chain : Chain) (part : Part) → (part_without chain part).queue ≡ part.queue
same_queue Asks part = refl
same_queue Faults part = refl

-- ---- at which endpoint an act is

-- without faults there is no oldest page request
abbrev pub IsAlike : Chain → Matter → Type 0
IsAlike Asks matter = ⊤
IsAlike Faults OwnEndpoint = ⊤
IsAlike Faults (Standing place) = ⊤
IsAlike Faults Oldest = ⊥
IsAlike Faults OldestReceived = ⊥

same_matter : (chain : Chain) (endpoint : ℕ) (matter : Matter) (part : Part) → IsAlike chain matter
    → about_part endpoint matter part ≡ about_part endpoint matter (part_without chain part)
same_matter Asks endpoint OwnEndpoint part h = refl
same_matter Asks endpoint (Standing place) part h = refl
same_matter Asks endpoint Oldest part h = refl
same_matter Asks endpoint OldestReceived part h = refl
same_matter Faults endpoint OwnEndpoint part h = refl
same_matter Faults endpoint (Standing place) part h = refl
same_matter Faults endpoint Oldest part h = absurd h
same_matter Faults endpoint OldestReceived part h = absurd h

same_of : (chain : Chain) (units : List ℕ) (endpoint : ℕ) (own : LocalAct) (o : Option Part) → IsAlike chain (matter_of own)
    → about units endpoint own o ≡ about units endpoint own (option_map (part_without chain) o)
same_of chain [] endpoint own o h = refl
same_of chain (unit ∷ units) endpoint own None h = refl
same_of chain (unit ∷ units) endpoint own (Some part) h = same_matter chain endpoint (matter_of own) part h

pub same_about : (chain : Chain) (now : Open) (endpoint : ℕ) (own : LocalAct) → IsAlike chain (matter_of own)
    → about now.units endpoint own (slice_get now.parts endpoint)
    ≡ about now.units endpoint own (slice_get (map (part_without chain) now.parts) endpoint)
same_about chain now endpoint own h =
    same_of chain now.units endpoint own (slice_get now.parts endpoint) h
    ∙ ap (about now.units endpoint own) (sym (slice_get-map (part_without chain) now.parts endpoint))

-- ---- what is left of another endpoint

pub seen_of : (chain : Chain) (by other : Part) → part_without chain (seen by other) ≡ seen (part_without chain by) (part_without chain other)
seen_of Asks by other = refl
seen_of Faults by other = refl

struck_of : (chain : Chain) (head : Option Descriptor) (part : Part) → part_without chain (struck head part) ≡ struck head (part_without chain part)
struck_of chain None part = refl
struck_of chain (Some (descriptor.Device endpoint scope)) part = refl
struck_of chain (Some (descriptor.Translations (Some endpoint) scope)) part = refl
struck_of Asks (Some (descriptor.Translations None scope)) part = refl
struck_of Faults (Some (descriptor.Translations None scope)) part = refl
struck_of chain (Some (descriptor.Entry (Some endpoint) pasid)) part = refl
struck_of Asks (Some (descriptor.Entry None pasid)) part = refl
struck_of Faults (Some (descriptor.Entry None pasid)) part = refl
struck_of chain (Some (descriptor.Wait name drain fence)) part = refl
struck_of chain (Some (descriptor.Out itag)) part = refl

unfiled_of : (chain : Chain) (b : Bool) (part : Part) → part_without chain (unfiled b part) ≡ unfiled b (part_without chain part)
unfiled_of Asks true part = refl
unfiled_of Faults true part = refl
unfiled_of chain false part = refl

left_of : (chain : Chain) (own : LocalAct) (head : Option Descriptor) (by other : Part)
    → part_without chain (left own head by other) ≡ left own head (part_without chain by) (part_without chain other)
left_of chain own head by other =
    unfiled_of chain (closes own) (struck (taken_by own head) (seen by other))
    ∙ ap (unfiled (closes own)) (struck_of chain (taken_by own head) (seen by other)
    ∙ ap (struck (taken_by own head)) (seen_of chain by other))

left_if : (chain : Chain) (b : Bool) (own : LocalAct) (head : Option Descriptor) (by other : Part)
    → part_without chain (if b then left own head by other else other)
    ≡ (if b then left own head (part_without chain by) (part_without chain other) else part_without chain other)
left_if chain true own head by other = left_of chain own head by other
left_if chain false own head by other = refl

left_there : (chain : Chain) (units : List ℕ) (endpoint : ℕ) (own : LocalAct) (head : Option Descriptor) (by other : Part)
    → part_without chain (left_at units endpoint own head by other)
    ≡ left_at units endpoint own head (part_without chain by) (part_without chain other)
left_there chain units endpoint own head by other =
    left_if chain (is_beside units endpoint other.endpoint) own head by other
    ∙ ap (λ (name : ℕ). if is_beside units endpoint name then left own head (part_without chain by) (part_without chain other)
    else part_without chain other) (sym (same_name chain other))

all_left : (chain : Chain) (units : List ℕ) (endpoint : ℕ) (own : LocalAct) (head : Option Descriptor) (by : Part) (parts : List Part)
    → map (part_without chain) (map (left_at units endpoint own head by) parts)
    ≡ map (left_at units endpoint own head (part_without chain by)) (map (part_without chain) parts)
all_left chain units endpoint own head by [] = refl
all_left chain units endpoint own head by (part ∷ parts) =
    λ i. left_there chain units endpoint own head by part i ∷ all_left chain units endpoint own head by parts i

-- ---- what is left of all

told_at : (chain : Chain) (units : List ℕ) (endpoint : ℕ) (own : LocalAct) (head : Option Descriptor) (parts : List Part) (o : Option Part)
    → map (part_without chain) (told units endpoint own head o parts)
    ≡ told units endpoint own head (option_map (part_without chain) o) (map (part_without chain) parts)
told_at chain units endpoint own head parts None = refl
told_at chain units endpoint own head parts (Some by) = all_left chain units endpoint own head by parts

told_led : (chain : Chain) (units : List ℕ) (endpoint : ℕ) (own : LocalAct) (head : Option Descriptor) (x y : Option Open) → IsLedTo chain x y
    → IsLedTo chain (option_map (with_told units endpoint own head) x) (option_map (with_told units endpoint own head) y)
told_led chain units endpoint own head None y h = tt
told_led chain units endpoint own head (Some one) None h = h
told_led chain units endpoint own head (Some one) (Some other) h =
    (λ i. record (without chain one) {
      parts = (told_at chain units endpoint own head one.parts (slice_get one.parts endpoint)
          ∙ ap (λ (o : Option Part). told units endpoint own head o (map (part_without chain) one.parts))
          (sym (slice_get-map (part_without chain) one.parts endpoint))) i;
    })
    ∙ ap (with_told units endpoint own head) h

heads : (chain : Chain) (own : LocalAct) (o : Option Part) → head_of own o ≡ head_of own (option_map (part_without chain) o)
heads chain own None = refl
heads chain own (Some part) = ap (λ (queue : List Descriptor). slice_get queue (place_of own)) (sym (same_queue chain part))

held_up : (chain : Chain) (units : List ℕ) (endpoint : ℕ) (part : Part) → holds_up units endpoint part ≡ false
    → holds_up units endpoint (part_without chain part) ≡ false
held_up Asks units endpoint part h = h
held_up Faults units endpoint part h =
    and_none (is_beside units endpoint part.endpoint) (list_any (is_whole_under None) part.filed) _ (λ none. refl) h

none_held_up : (chain : Chain) (units : List ℕ) (endpoint : ℕ) (parts : List Part) → list_any (holds_up units endpoint) parts ≡ false
    → list_any (holds_up units endpoint) (map (part_without chain) parts) ≡ false
none_held_up chain units endpoint [] h = refl
none_held_up chain units endpoint (part ∷ parts) h =
    or_none (holds_up units endpoint part) (list_any (holds_up units endpoint) parts) _ _ (held_up chain units endpoint part)
    (none_held_up chain units endpoint parts) h

led_if : (chain : Chain) (b c : Bool) (x y : Option Open) → (b ≡ false → c ≡ false) → IsLedTo chain x y
    → IsLedTo chain (if b then None else x) (if c then None else y)
led_if chain true c x y still h = tt
led_if chain false false x y still h = h
led_if chain false true x y still h = let never : true ≡ false = still refl in absurd (cc)

led_or : (chain : Chain) (b : Bool) (x y told_x told_y : Option Open) → IsLedTo chain x y → IsLedTo chain told_x told_y
    → IsLedTo chain (if b then told_x else x) (if b then told_y else y)
led_or chain true x y told_x told_y h k = k
led_or chain false x y told_x told_y h k = h

pub shared_led : (chain : Chain) (units : List ℕ) (endpoint : ℕ) (own : LocalAct) (parts : List Part) (x y : Option Open) → IsLedTo chain x y
    → IsLedTo chain (shared units endpoint own parts x) (shared units endpoint own (map (part_without chain) parts) y)
shared_led chain [] endpoint own parts x y h = h
shared_led chain (unit ∷ units) endpoint own parts x y h =
    led_if chain _ _ _ _ (and_none (awaits_all own) _ _ (none_held_up chain (unit ∷ units) endpoint parts))
    (led_or chain (is_of_unit own) _ _ _ _ h
    (subst
    (λ (head : Option Descriptor). IsLedTo chain
    (option_map (with_told (unit ∷ units) endpoint own (head_of own (slice_get parts endpoint))) x)
    (option_map (with_told (unit ∷ units) endpoint own head) y))
    (heads chain own (slice_get parts endpoint) ∙ ap (head_of own) (sym (slice_get-map (part_without chain) parts endpoint)))
    (told_led chain (unit ∷ units) endpoint own (head_of own (slice_get parts endpoint)) x y h)))

-- ---- an act that names another place

-- what the others see of the one they see of the other
abbrev pub IsToldAs : (own other : LocalAct) → Type 0
IsToldAs own other = (units : List ℕ) (endpoint : ℕ) (parts : List Part) (next : Option Open)
    → shared units endpoint own parts next ≡ shared units endpoint other parts next

pub finish_told : (one other : ℕ) → IsToldAs (local.Finish one) (local.Finish other)
finish_told one other [] endpoint parts next = refl
finish_told one other (unit ∷ units) endpoint parts next = refl

pub pass_told : (one other : ℕ) → IsToldAs (local.Pass one) (local.Pass other)
pass_told one other [] endpoint parts next = refl
pass_told one other (unit ∷ units) endpoint parts next = refl

deliver_parts : (one other : ℕ) (units : List ℕ) (endpoint : ℕ) (head : Option Descriptor) (o : Option Part) (parts : List Part)
    → told units endpoint (local.Deliver one) head o parts ≡ told units endpoint (local.Deliver other) head o parts
deliver_parts one other units endpoint head None parts = refl
deliver_parts one other units endpoint head (Some by) parts = refl

deliver_heads : (one other : ℕ) (o : Option Part) → head_of (local.Deliver one) o ≡ head_of (local.Deliver other) o
deliver_heads one other None = refl
deliver_heads one other (Some part) = refl

deliver_next : (one other : ℕ) (units : List ℕ) (endpoint : ℕ) (parts : List Part) (next : Option Open)
    → option_map (with_told units endpoint (local.Deliver one) (head_of (local.Deliver one) (slice_get parts endpoint))) next
    ≡ option_map (with_told units endpoint (local.Deliver other) (head_of (local.Deliver other) (slice_get parts endpoint))) next
deliver_next one other units endpoint parts None = refl
deliver_next one other units endpoint parts (Some next) = λ i. Some (record next {
  parts = (deliver_parts one other units endpoint (head_of (local.Deliver one) (slice_get parts endpoint)) (slice_get next.parts endpoint) next.parts
      ∙ ap (λ (head : Option Descriptor). told units endpoint (local.Deliver other) head (slice_get next.parts endpoint) next.parts)
      (deliver_heads one other (slice_get parts endpoint))) i;
})

pub deliver_told : (one other : ℕ) → IsToldAs (local.Deliver one) (local.Deliver other)
deliver_told one other [] endpoint parts next = refl
deliver_told one other (unit ∷ units) endpoint parts next = deliver_next one other (unit ∷ units) endpoint parts next
