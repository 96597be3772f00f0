-- A step of one endpoint is one of all, and of the world.
use Rattle.std.proofs.Common.{◌≡◌, ◌<◌, ◌≤◌, ℕ, Bool, false, List, Option, Some, None, option_map, length, get_or, refl, ap, sym, subst, ◌∙◌}
use Rattle.std.proofs.lemmas.List.{set-get_or}
use Rattle.std.proofs.lemmas.Option.{slice_get_past, slice_get_read}
use Rattle.std.specs.Prelude.{slice_get, slice_set}
use Rattle.sva_search.specs.Rules.{IsStep}
use Rattle.sva_open.specs.declared.frames.Mapping.{Mapping}
use Rattle.sva_open.specs.declared.settings.Settings.{Settings}
use Rattle.sva_open.specs.declared.acts.LocalAct.{LocalAct}
use Rattle.sva_open.specs.World.{Open, Part}
use Rattle.sva_open.specs.Acts.{at_endpoint, next_part, parts_after, with_parts}

mapped : {S T : Type 0} (f : S → T) (next : Option S) (done : Bool) (old new : S) (before after : T) → IsStep next done old new
    → f old ≡ before → f new ≡ after → IsStep (option_map f next) done before after
mapped f (Some state) done old new before after h was is = (h.0, sym is ∙ ap f h.1)
mapped f None done old new before after h was is = (h.0, sym is ∙ ap f h.1 ∙ was)

pub acted : (settings : Settings) (mappings : List Mapping) (parts : List Part) (endpoint : ℕ) (its : LocalAct) (part new : Part) (done : Bool)
    → endpoint < length parts → part ≡ get_or parts endpoint part → IsStep (next_part settings mappings part its) done part new
    → IsStep (parts_after settings mappings parts endpoint its (slice_get parts endpoint)) done parts (slice_set parts endpoint new)
acted settings mappings parts endpoint its part new done low is h =
    subst (λ (found : Option Part). IsStep (parts_after settings mappings parts endpoint its found) done parts (slice_set parts endpoint new))
    (sym (slice_get_read parts (length parts) endpoint part refl low is))
    (mapped (slice_set parts endpoint) (next_part settings mappings part its) done part new parts (slice_set parts endpoint new) h
    (ap (slice_set parts endpoint) is ∙ set-get_or parts endpoint part) refl)

pub past : (settings : Settings) (mappings : List Mapping) (parts : List Part) (endpoint : ℕ) (its : LocalAct) → length parts ≤ endpoint
    → IsStep (parts_after settings mappings parts endpoint its (slice_get parts endpoint)) false parts parts
past settings mappings parts endpoint its high =
    subst (λ (found : Option Part). IsStep (parts_after settings mappings parts endpoint its found) false parts parts)
    (sym (slice_get_past parts endpoint high)) (refl, refl)

pub at_done : (now : Open) (endpoint : ℕ) (its : LocalAct) (done : Bool) (new : List Part)
    → IsStep (parts_after now.settings now.mappings now.parts endpoint its (slice_get now.parts endpoint)) done now.parts new
    → IsStep (at_endpoint now endpoint its) done now (with_parts now new)
at_done now endpoint its done new h =
    mapped (with_parts now) (parts_after now.settings now.mappings now.parts endpoint its (slice_get now.parts endpoint)) done now.parts new now
    (with_parts now new) h refl refl
