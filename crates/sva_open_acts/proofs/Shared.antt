-- A step of one endpoint, and what the others see of it.
use Rattle.std.proofs.Common.{inl, inr, ◌≡◌, ◌∙◌, ℕ, Bool, true, false, Option, Some, None, option_map, refl, sym, subst}
use Rattle.std.specs.Prelude.{◌&&◌, ◌⊎◌, if◌then◌else◌, slice_get}
use Rattle.std.specs.List.{list_any}
use Rattle.sva_search.specs.Rules.{IsStep}
use Rattle.sva_open.specs.declared.acts.LocalAct.{LocalAct}
use Rattle.sva_open.specs.World.{Open}
use Rattle.sva_open.specs.Acts.{at_endpoint}
use Rattle.sva_open.specs.Below.{awaits_all, head_of, holds_up, is_of_unit, shared_by, told, with_told}

chosen : (b c : Bool) (told next : Option Open) → b ≡ false → (if b then None else (if c then told else next)) ≡ (if c then told else next)
chosen false c told next h = refl
chosen true c told next h = absurd (cc h)

quiet_by : (next told_next : Option Open) (now mid : Open) (done c : Bool) → (told_next ≡ None → next ≡ None) → (next ≡ None → told_next ≡ None)
    → (c ≡ false) ⊎ (done ≡ false) → IsStep next done now mid → IsStep (if c then told_next else next) done now mid
quiet_by next told_next now mid done false none some is h = h
quiet_by next told_next now mid done true none some (inl is) h = absurd (cc is)
quiet_by None told_next now mid done true none some (inr is) h = subst (λ (o : Option Open). IsStep o done now mid) (sym (some refl)) h
quiet_by (Some state) told_next now mid done true none some (inr is) h = absurd (cc (sym is ∙ h.0))

mapped_none : (f : Open → Open) (o : Option Open) → (option_map f o ≡ None → o ≡ None)
mapped_none f None h = refl
mapped_none f (Some now) h = absurd (cc h)

none_mapped : (f : Open → Open) (o : Option Open) → (o ≡ None → option_map f o ≡ None)
none_mapped f None h = refl
none_mapped f (Some now) h = absurd (cc h)

-- one that isn't of the unit, or isn't permitted, leaves the others as they are
pub quiet_step : (endpoint : ℕ) (its : LocalAct) (now mid : Open) (done : Bool)
    → awaits_all its && list_any (holds_up now.units endpoint) now.parts ≡ false → (is_of_unit its ≡ false) ⊎ (done ≡ false)
    → IsStep (at_endpoint now endpoint its) done now mid
    → IsStep (shared_by now.units endpoint its now.parts (at_endpoint now endpoint its)) done now mid
quiet_step endpoint its now mid done free quiet h =
    let tells = with_told now.units endpoint its (head_of its (slice_get now.parts endpoint)) in
    let next = at_endpoint now endpoint its in
    subst (λ (o : Option Open). IsStep o done now mid)
    (sym (chosen (awaits_all its && list_any (holds_up now.units endpoint) now.parts) (is_of_unit its) (option_map tells next) next free))
    (quiet_by next (option_map tells next) now mid done (is_of_unit its)
    (mapped_none tells (at_endpoint now endpoint its)) (none_mapped tells (at_endpoint now endpoint its)) quiet h)
