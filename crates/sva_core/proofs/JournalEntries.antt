-- A journal with an entry more: it is legal where the entry has the answer of the definitions, and leads to the next world.
use Rattle.std.proofs.Common.{◌≡◌, ◌≢◌, ℕ, zero, suc, ◌≤◌, Option, None, List, [], ◌∷◌, ◌++◌, length, refl, sym, ap, subst, ◌∙◌, arith}
use Rattle.std.specs.Prelude.{Err, Some, map, option_map}
use Rattle.sva_step.specs.declared.limits.Config.{Config}
use Rattle.sva_step.specs.declared.refusals.Refusal.TheVariants as refusal
use Rattle.sva_step.specs.declared.steps.Step.{Step}
use Rattle.sva_model.specs.State.PasidRule.{PerSpace}
use Rattle.sva_model.specs.State.{World, blank, opened}
use Rattle.sva_model.specs.Words.{select, tabulate}
use Rattle.sva_model.specs.Claims.{Fits}
use Rattle.sva_model.specs.Steps.{Reply, reply, replies, next, world_after}
use Rattle.sva_model.specs.Wire.{Wire, EndpointWire, UseWire, use_wire, part_wire, wire}
use Rattle.sva_model.specs.Journal.{IsLegal as IsLegalJournal, steps_of}
use Rattle.sva_refinement.specs.Tallies.{IsTallied, unreleased, taken_in, slots_in, slots_taken}
use Rattle.sva_refinement.proofs.TalliedWorlds.{always_tallied}
use Rattle.sva_laws.proofs.Journals.{more_legal}
use Rattle.sva_laws.proofs.Lookback.{after_one}
use Rattle.sva_core.specs.Reached.{FollowsAt, Follows}
use Rattle.sva_core.specs.declared.journal.Entry.{Entry}
use Rattle.sva_core.specs.Journal.{History, IsLegal, as_defined, entry_of, world_of, answer_of, with_entry, empty_of, bindings_of, uses_of, CountsFollow}

defined_more : (es : List Entry) (e : Entry) → map as_defined (es ++ e ∷ []) ≡ map as_defined es ++ as_defined e ∷ []
defined_more [] e = refl
defined_more (d ∷ es) e = ap (λ xs. as_defined d ∷ xs) (defined_more es e)

steps_more : (es : List Entry) (e : Entry) → steps_of (map as_defined (es ++ e ∷ [])) ≡ steps_of (map as_defined es) ++ e.step ∷ []
steps_more [] e = refl
steps_more (d ∷ es) e = ap (λ xs. d.step ∷ xs) (steps_more es e)

pub legal_more : (h : History) (e : Entry) → IsLegal h → e.answer ≡ answer_of h e.step → IsLegal (with_entry h e)
legal_more h e legal is = subst (IsLegalJournal PerSpace h.config) (sym (defined_more h.entries e)) ((more_legal PerSpace h.config
    (map as_defined h.entries) (as_defined e) legal).1 is)

pub world_more : (h : History) (e : Entry) → world_of (with_entry h e) ≡ next (world_of h) e.step
world_more h e = ap (world_after PerSpace h.config) (steps_more h.entries e) ∙ after_one PerSpace h.config (steps_of (map as_defined h.entries)) e.step

pub legal_empty : (config : Config) → Fits config → IsLegal (empty_of config)
unfolding replies
legal_empty config fits = record { fits = fits; answers = refl }

-- what a step does at a world, where memory lacks and where it doesn't
pub taken : (w : World) (s : Step) (r : Reply) (after : Wire) → r ≢ Err refusal.OutOfMemory → FollowsAt w s r after
    → (r ≡ reply w s) × (after ≡ wire (next w s))
taken w s (Err refusal.OutOfMemory) after has at = absurd (has refl)
taken w s r after has at = at

not_taken : (w : World) (s : Step) (r : Reply) (after : Wire) → r ≡ Err refusal.OutOfMemory → FollowsAt w s r after → after ≡ wire w
not_taken w s r after is at = (subst (λ (q : Reply). FollowsAt w s q after) is at).1

-- a journaled world takes a step
pub took : (h : History) (s : Step) (r : Reply) (before after : Wire) → IsLegal h → before ≡ wire (world_of h) → Follows before s r after
    → r ≢ Err refusal.OutOfMemory → (r ≡ answer_of h s) × (after ≡ wire (next (world_of h) s))
took h s r before after legal is follows has = taken (world_of h) s r after has (follows h.config (steps_of (map as_defined h.entries)) legal.fits is)

pub stayed : (h : History) (s : Step) (r : Reply) (before after : Wire) → IsLegal h → before ≡ wire (world_of h) → Follows before s r after
    → r ≡ Err refusal.OutOfMemory → after ≡ wire (world_of h)
stayed h s r before after legal is follows lacks = not_taken (world_of h) s r after lacks (follows h.config (steps_of
    (map as_defined h.entries)) legal.fits is)

pub leads_more : (h : History) (port : ℕ) (s : Step) (r : Reply) (after : Wire) → after ≡ wire (next (world_of h) s)
    → after ≡ wire (world_of (with_entry h (entry_of port s r)))
leads_more h port s r after is = is ∙ sym (ap wire (world_more h (entry_of port s r)))

pub performed : (h : History) (port : ℕ) (s : Step) (r : Reply) (before after : Wire) (reserved noted : List Entry)
    → IsLegal h → before ≡ wire (world_of h) → Follows before s r after → r ≢ Err refusal.OutOfMemory
    → reserved ≡ h.entries → noted ≡ reserved ++ entry_of port s r ∷ []
    → IsLegal (record { config = h.config; entries = noted }) × (after ≡ wire (world_of (record { config = h.config; entries = noted })))
performed h port s r before after reserved noted legal is follows has same pushed =
    let all : noted ≡ h.entries ++ entry_of port s r ∷ [] = pushed ∙ ap (λ (es : List Entry). es ++ entry_of port s r ∷ []) same in
    let step : (r ≡ answer_of h s) × (after ≡ wire (next (world_of h) s)) = took h s r before after legal is follows has in
    subst (λ (es : List Entry). IsLegal (record { config = h.config; entries = es }) × (after ≡ wire (world_of
    (record { config = h.config; entries = es })))) (sym all)
    (legal_more h (entry_of port s r) legal step.0, leads_more h port s r after step.1)

pub length_with : (es : List Entry) (e : Entry) → length (es ++ e ∷ []) ≡ suc (length es)
length_with [] e = refl
length_with (d ∷ es) e = ap suc (length_with es e)

-- an opened world has no binding, and no slot is taken

taken_more : (slots : List (Option UseWire)) → taken_in (slots ++ None ∷ []) ≡ taken_in slots
taken_more [] = refl
taken_more (None ∷ slots) = taken_more slots
taken_more (Some u ∷ slots) = ap suc (taken_more slots)

none_taken : (n : ℕ) (f : ℕ → UseWire) → taken_in (tabulate n (λ t. option_map f None)) ≡ 0
unfolding tabulate
none_taken zero f = refl
none_taken (suc n) f = taken_more (tabulate n (λ t. option_map f None)) ∙ none_taken n f

slots_more : (parts : List EndpointWire) (p : EndpointWire) → taken_in p.device.slots ≡ 0 → slots_in (parts ++ p ∷ []) ≡ slots_in parts
slots_more [] p none = omega (arith, none)
slots_more (q ∷ parts) p none =
    let rest = slots_more parts p none in
    omega (arith, rest)

none_taken_by : (n : ℕ) (f : ℕ → EndpointWire) → ((e : ℕ) → taken_in (f e).device.slots ≡ 0) → slots_in (tabulate n f) ≡ 0
unfolding tabulate
none_taken_by zero f none = refl
none_taken_by (suc n) f none = slots_more (tabulate n f) (f n) (none n) ∙ none_taken_by n f none

no_slots : (config : Config) → slots_taken (wire (opened PerSpace config)) ≡ 0
no_slots config =
    none_taken_by config.endpoints (λ e. part_wire config.first (opened PerSpace config).mappings blank)
    (λ e. none_taken 16 (use_wire (opened PerSpace config).mappings blank))

no_bindings : (config : Config) → unreleased (wire (opened PerSpace config)) ≡ 0
unfolding select
no_bindings config = refl

-- so of a new journal
pub none_bound : (config : Config) → bindings_of (empty_of config) ≡ 0
none_bound config = no_bindings config

pub none_used : (config : Config) → uses_of (empty_of config) ≡ 0
none_used config = no_slots config

pub begun : (config : Config) (entries : List Entry) (seen : Wire) → Fits config → entries ≡ [] → seen ≡ wire (opened PerSpace config)
    → IsLegal (record { config = config; entries = entries }) × (seen ≡ wire (world_of (record { config = config; entries = entries })))
    × (0 ≡ unreleased seen) × (0 ≤ length entries) × (0 ≡ slots_taken seen) × (0 ≤ length entries)
begun config entries seen fits none is =
    let led : IsLegal (record { config = config; entries = entries }) × (seen ≡ wire (world_of (record { config = config; entries = entries }))) =
    subst (λ (es : List Entry). IsLegal (record { config = config; entries = es }) × (seen ≡ wire (world_of
    (record { config = config; entries = es })))) (sym none)
    (legal_empty config fits, is) in (
      led.0,
      led.1,
      sym (ap unreleased is ∙ no_bindings config),
      omega arith,
      sym (ap slots_taken is ∙ no_slots config),
      omega arith,
    )

-- a step that is answered changes how many bindings are unreleased, and how many slots are taken, as its answer says
pub tallied : (h : History) (s : Step) (r : Reply) (before after : Wire) → IsLegal h → before ≡ wire (world_of h) → Follows before s r after
    → r ≢ Err refusal.OutOfMemory → IsTallied before after r
tallied h s r before after legal is follows has =
    let step : (r ≡ answer_of h s) × (after ≡ wire (next (world_of h) s)) = took h s r before after legal is follows has in
    subst (λ (x : Wire). IsTallied x after r) (sym is)
    (subst (λ (x : Wire). IsTallied (wire (world_of h)) x r) (sym step.1)
    (subst (λ (q : Reply). IsTallied (wire (world_of h)) (wire (next (world_of h) s)) q) (sym step.0)
    (always_tallied PerSpace h.config (steps_of (map as_defined h.entries)) s)))

-- so both numbers of the journal's world do
pub follow : (h : History) (port : ℕ) (s : Step) (r : Reply) (noted : List Entry) → r ≡ answer_of h s → noted ≡ h.entries ++ entry_of port s r ∷ []
    → CountsFollow h (record { config = h.config; entries = noted }) r
follow h port s r noted is all =
    let there : wire (next (world_of h) s) ≡ wire (world_of (record { config = h.config; entries = noted })) =
    sym (ap wire (ap (λ (es : List Entry). world_of (record { config = h.config; entries = es })) all ∙ world_more h (entry_of port s r))) in
    let t : IsTallied (wire (world_of h)) (wire (next (world_of h) s)) (answer_of h s) =
    always_tallied PerSpace h.config (steps_of (map as_defined h.entries)) s in
    let u : IsTallied (wire (world_of h)) (wire (world_of (record { config = h.config; entries = noted }))) r =
    subst (λ (q : Reply). IsTallied (wire (world_of h)) (wire (world_of (record { config = h.config; entries = noted }))) q) (sym is)
    (subst (λ (x : Wire). IsTallied (wire (world_of h)) x (answer_of h s)) there t) in
    record { bindings = u.bindings; uses = u.slots }
