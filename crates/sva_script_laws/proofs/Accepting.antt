-- A step that is accepted where its endpoint asks, uses, evicts or sends a page request: its PASID is one that some binding
-- bears, and its page is one of 2^36. So both fit.
use Rattle.std.proofs.Common.{◌≡◌, ◌∙◌, ◌⊎◌, inl, inr, ◌<◌, ◌+◌, ◌^◌, ap, arith, refl, subst, ℕ, Bool, true}
use Rattle.std.proofs.Common.{false, List, [], ◌∷◌, Option, Some, None}
use Rattle.std.specs.Prelude.{if◌then◌else◌, is_ok, nat_lt, Err}
use Rattle.std.proofs.lemmas.Bool.{ltb-false, not-false}
use Rattle.sva_step.specs.declared.limits.Config.{Config}
use Rattle.sva_step.specs.declared.steps.Step.{Step}
use Rattle.sva_step.specs.declared.steps.Step.TheVariants as step
use Rattle.sva_model.specs.Labels
use Rattle.sva_model.specs.Outcomes.{Outcome, outcome}
use Rattle.sva_model.specs.Refusals.{Cause, may_request, refusals}
use Rattle.sva_model.specs.State.{World}
use Rattle.sva_model.specs.State.PasidRule.{PerSpace}
use Rattle.sva_model.specs.States.{is_ending, is_on}
use Rattle.sva_model.specs.Claims.{Fits}
use Rattle.sva_model.specs.Steps.{checked, reply, world_after}
use Rattle.sva_model.specs.Wire.{Wire}
use Rattle.sva_model.specs.Words.{any_below, holds_of}
use Rattle.sva_labels.proofs.Steps.{Passed}
use Rattle.sva_labels.proofs.Tests.{one_holds}
use Rattle.sva_labels.specs.Host.{first_wire, reply_of, run_of}
use Rattle.sva_labels.specs.Sound.{IsSound}
use Rattle.sva_laws.proofs.Invariant.{Invariant}
use Rattle.sva_laws.proofs.Passed.{bearer_of}
use Rattle.sva_laws.proofs.Runs.{always}
use Rattle.sva_refinement.proofs.Said.{every_list, every_step}
use Rattle.sva_refinement.proofs.Sounds.{always_sound}

-- ---- No cause of it holds

passed : (causes : List Cause) (result : Outcome) → is_ok (checked causes result).reply ≡ true → Passed causes
passed [] result is = tt
passed (cause ∷ causes) result is = by_cause cause.0 refl is (passed causes result)
  where
    by_cause : (holds : Bool) → cause.0 ≡ holds
        → is_ok (if holds then record { reply = Err cause.1; acts = [] } else checked causes result).reply ≡ true
        → (is_ok (checked causes result).reply ≡ true → Passed causes) → (cause.0 ≡ false) × Passed causes
    by_cause true e is rest = absurd (cc is)
    by_cause false e is rest = (e, rest is)

accepted : (w : World) (s : Step) → is_ok (reply w s) ≡ true → Passed (refusals w s)
accepted w s is = passed (refusals w s) (outcome w s) is

-- ---- Its page and its PASID

page_low : (page : ℕ) → nat_lt (2 ^ 36) (page + 1) ≡ false → page < 2 ^ 64
page_low page is = let within = ltb-false (2 ^ 36) (page + 1) is in omega (arith, within)

pasid_low : (w : World) → Invariant w → (endpoint pasid : ℕ) (test : ℕ → Bool)
    → holds_of test ((w.part endpoint).at_pasid pasid) ≡ true → pasid < 2 ^ 64
pasid_low w invariant endpoint pasid test is =
    let bears = bearer_of (w.part endpoint) pasid test is in
    let low = (invariant.parts endpoint).labels.pasid_low pasid (Labels.bearer (w.part endpoint) pasid) bears.0 in
    let most = low.1 in
    omega (arith, most)

-- the state of the PASID
started_low : (w : World) → Invariant w → (endpoint pasid : ℕ) → Labels.is_started (w.part endpoint) pasid ≡ true
    → pasid < 2 ^ 64
started_low w invariant endpoint pasid is = pasid_low w invariant endpoint pasid (λ b. is_on ((w.part endpoint).pasid_state b)) is

ending_low : (w : World) → Invariant w → (endpoint pasid : ℕ) → Labels.is_told_to_stop (w.part endpoint) pasid ≡ true
    → pasid < 2 ^ 64
ending_low w invariant endpoint pasid is = pasid_low w invariant endpoint pasid (λ b. is_ending ((w.part endpoint).pasid_state b)) is

cached_low : (w : World) → Invariant w → (endpoint pasid page : ℕ)
    → Labels.is_cached (w.part endpoint) pasid page ≡ true → pasid < 2 ^ 64
cached_low w invariant endpoint pasid page is =
    pasid_low w invariant endpoint pasid (λ b. any_below (w.part endpoint).requests (Labels.is_held_at (w.part endpoint) b page)) is

requested_low : (w : World) → Invariant w → (endpoint pasid : ℕ) (group : Option ℕ)
    → may_request (w.part endpoint) pasid group ≡ true → pasid < 2 ^ 64
requested_low w invariant endpoint pasid None is = started_low w invariant endpoint pasid is
requested_low w invariant endpoint pasid (Some index) is =
    by_state (one_holds (Labels.is_started (w.part endpoint) pasid) (Labels.is_told_to_stop (w.part endpoint) pasid) is)
  where
    by_state : (Labels.is_started (w.part endpoint) pasid ≡ true) ⊎ (Labels.is_told_to_stop (w.part endpoint) pasid ≡ true) → pasid < 2 ^ 64
    by_state (inl on) = started_low w invariant endpoint pasid on
    by_state (inr ending) = ending_low w invariant endpoint pasid ending

-- ---- What is kept behind some steps

-- it is that of a world, which answers as it does
pub record Stands (wire : Wire) : Type 0 where
  pub world : World
  pub invariant : Invariant world
  pub sound : IsSound wire
  pub replies : (it : Step) → reply world it ≡ reply_of wire it

pub stands : (config : Config) (steps : List Step) (wire : Wire) → Fits config → run_of (first_wire config) steps ≡ wire
    → Stands wire
stands config steps wire fits runs =
    let same = (every_list config steps fits).1 ∙ runs in
    record {
      world = world_after PerSpace config steps;
      invariant = always PerSpace config steps;
      sound = subst IsSound same (always_sound config steps fits);
      replies = λ it. (every_step config steps it fits).0 ∙ ap (λ (kept : Wire). reply_of kept it) same;
    }

passes : (wire : Wire) (here : Stands wire) (it : Step) → is_ok (reply_of wire it) ≡ true
    → Passed (refusals here.world it)
passes wire here it is = accepted here.world it (ap (λ said. is_ok said) (here.replies it) ∙ is)

-- ---- Steps that are accepted

pub ask_low : (wire : Wire) → Stands wire → (endpoint pasid page : ℕ)
    → is_ok (reply_of wire (step.Ask endpoint pasid page)) ≡ true
    → (pasid < 2 ^ 64) × (page < 2 ^ 64)
ask_low wire here endpoint pasid page is =
    let causes = passes wire here (step.Ask endpoint pasid page) is in
    let on = not-false (Labels.is_started (here.world.part endpoint) pasid) causes.1.1.0 in
    (started_low here.world here.invariant endpoint pasid on, page_low page causes.1.0)

pub use_low : (wire : Wire) → Stands wire → (endpoint pasid page : ℕ) (write : Bool)
    → is_ok (reply_of wire (step.BeginUse endpoint pasid page write)) ≡ true → (pasid < 2 ^ 64) × (page < 2 ^ 64)
use_low wire here endpoint pasid page write is =
    let causes = passes wire here (step.BeginUse endpoint pasid page write) is in
    let on = not-false (Labels.is_started (here.world.part endpoint) pasid) causes.1.1.0 in
    (started_low here.world here.invariant endpoint pasid on, page_low page causes.1.0)

pub evict_low : (wire : Wire) → Stands wire → (endpoint pasid page : ℕ)
    → is_ok (reply_of wire (step.Evict endpoint pasid page)) ≡ true
    → (pasid < 2 ^ 64) × (page < 2 ^ 64)
evict_low wire here endpoint pasid page is =
    let causes = passes wire here (step.Evict endpoint pasid page) is in
    let held = not-false (Labels.is_cached (here.world.part endpoint) pasid page) causes.1.1.0 in
    (cached_low here.world here.invariant endpoint pasid page held, page_low page causes.1.0)

pub fault_low : (wire : Wire) → Stands wire
    → (endpoint pasid page : ℕ) (read write : Bool) (group : Option ℕ) (last : Bool)
    → is_ok (reply_of wire (step.Fault endpoint pasid page read write group last)) ≡ true
    → (pasid < 2 ^ 64) × (page < 2 ^ 64)
fault_low wire here endpoint pasid page read write group last is =
    let causes = passes wire here (step.Fault endpoint pasid page read write group last) is in
    let may = not-false (may_request (here.world.part endpoint) pasid group) causes.1.1.0 in
    (requested_low here.world here.invariant endpoint pasid group may, page_low page causes.1.0)
