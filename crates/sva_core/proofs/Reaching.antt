-- From the step by labels to the definitions' step.
use Rattle.std.proofs.Common.{◌≡◌, ◌≢◌, ℕ, zero, suc, ◌+◌, ◌<◌, List, [], ◌∷◌, ◌++◌, length, take, get_or, arith, refl, sym, ap, subst, ◌∙◌, count_by}
use Rattle.std.specs.Prelude.{Ok, Err, OnErr, is_ok}
use Rattle.sva_frames.specs.declared.pool.Counts.{Counts as FrameCounts}
use Rattle.sva_step.specs.declared.limits.Config.{Config}
use Rattle.sva_step.specs.declared.refusals.Refusal.TheVariants as refusal
use Rattle.sva_step.specs.declared.steps.Step.{Step}
use Rattle.sva_model.specs.State.PasidRule.{PerSpace}
use Rattle.sva_model.specs.State.{World, opened}
use Rattle.sva_model.specs.Claims.{Fits}
use Rattle.sva_model.specs.Steps.{Reply, reply, next, world_after}
use Rattle.sva_model.specs.Wire.{Wire, wire}
use Rattle.sva_laws.proofs.Limits.{adds_up}
use Rattle.sva_laws.proofs.Lookback.{after_one}
use Rattle.sva_laws.proofs.Refused.{stays}
use Rattle.sva_laws.proofs.Withheld.{config_kept}
use Rattle.sva_labels.specs.Finding.{is_free}
use Rattle.sva_refinement.specs.Refinement.{LabelsAreNames}
use Rattle.sva_labels.specs.Host.{first_wire, reply_of, next_of}
use Rattle.sva_labels.specs.Sound.{IsSound}
use Rattle.sva_labels.specs.Sound.{HaveSpaces}
use Rattle.sva_refinement.proofs.BoundSpaces.{always_have_spaces}
use Rattle.sva_refinement.proofs.Sounds.{always_sound}
use Rattle.sva_refinement.proofs.WholeLists.{opened_is}
use Rattle.sva_address_spaces.specs.Steps.{Counted, is_mapped_place, is_withheld_place}
use Rattle.sva_host.specs.Steps.{ByLabels}
use Rattle.sva_host.specs.Applied.{TakesNoMemory}
use Rattle.sva_core.specs.Reached.{FollowsAt, Follows, IsReached, CountsOf, AddsUp, Ran}
use Rattle.sva_core.proofs.FrameCounts.{free-counted, mapped-counted, withheld-counted}

at_world : (w : World) (s : Step) (result : Reply) (after : Wire) → reply w s ≡ reply_of (wire w) s → wire (next w s) ≡ next_of (wire w) s
    → ByLabels (wire w) s result after → FollowsAt w s result after
at_world w s (Err refusal.OutOfMemory) after replies nexts by = (ap is_ok replies ∙ by.0, by.1)
at_world w s result after replies nexts by = (by.0 ∙ sym replies, by.1 ∙ sym nexts)

pub follows : LabelsAreNames → (before : Wire) (s : Step) (result : Reply) (after : Wire) → ByLabels before s result after → Follows before s result after
follows law before s result after by config steps fits is =
    let same = law config steps s fits in
    at_world (world_after PerSpace config steps) s result after same.0 same.1 (subst (λ (b : Wire). ByLabels b s result after) is by)

-- a world more
reached_at : (config : Config) (steps : List Step) (s : Step) (result : Reply) (after : Wire) → Fits config
    → FollowsAt (world_after PerSpace config steps) s result after → IsReached after
reached_at config steps s (Err refusal.OutOfMemory) after fits at = record { config = config; steps = steps; fits = fits; is_wire = at.1 }
reached_at config steps s result after fits at =
    record { config = config; steps = steps ++ s ∷ []; fits = fits; is_wire = at.1 ∙ sym (ap wire (after_one PerSpace config steps s)) }

pub reached : (before : Wire) (s : Step) (result : Reply) (after : Wire) → IsReached before → Follows before s result after → IsReached after
reached before s result after was step = reached_at was.config was.steps s result after was.fits (step was.config was.steps was.fits was.is_wire)

-- a step that is refused, for want of memory too, leaves what is kept
refused_at : (w : World) (s : Step) (result : Reply) (before after : Wire) → before ≡ wire w → FollowsAt w s result after → OnErr result (after ≡ before)
refused_at w s (Err refusal.OutOfMemory) before after is at = at.1 ∙ sym is
refused_at w s (Err r) before after is at = at.1 ∙ ap wire (stays w s r (sym at.0)) ∙ sym is
refused_at w s (Ok a) before after is at = tt

pub refused : (before : Wire) (s : Step) (result : Reply) (after : Wire) → IsReached before → Follows before s result after → OnErr result (after ≡ before)
refused before s result after was step =
    refused_at (world_after PerSpace was.config was.steps) s result before after was.is_wire (step was.config was.steps was.fits was.is_wire)

-- the first world, and that what is kept is sound
pub opened_seen : (config : Config) (seen : Wire) → seen ≡ first_wire config → seen ≡ wire (opened PerSpace config)
opened_seen config seen is = is ∙ sym (opened_is config)

pub reached_opened : (config : Config) (seen : Wire) → Fits config → seen ≡ first_wire config → IsReached seen
reached_opened config seen fits is = record { config = config; steps = []; fits = fits; is_wire = opened_seen config seen is }

pub sound_reached : (seen : Wire) → IsReached seen → IsSound seen
sound_reached seen was = subst IsSound (sym was.is_wire) (always_sound was.config was.steps was.fits)

pub spaces_reached : (seen : Wire) → IsReached seen → HaveSpaces seen
spaces_reached seen was = subst HaveSpaces (sym was.is_wire) (always_have_spaces was.config was.steps was.fits)

pub counts_of : (seen : Wire) (found : FrameCounts) → Counted seen.places found → CountsOf seen found
counts_of seen found counted config steps fits is = (
  counted.free ∙ ap (λ (w : Wire). count_by is_free w.places) is ∙ free-counted (world_after PerSpace config steps),
  counted.mapped ∙ ap (λ (w : Wire). count_by is_mapped_place w.places) is ∙ mapped-counted (world_after PerSpace config steps),
  counted.withheld ∙ ap (λ (w : Wire). count_by is_withheld_place w.places) is ∙ withheld-counted (world_after PerSpace config steps),
)

pub adding_up : (seen : Wire) (found : FrameCounts) → CountsOf seen found → AddsUp seen found
adding_up seen found counted at =
    let same = counted at.config at.steps at.fits at.is_wire in
    let all = adds_up (world_after PerSpace at.config at.steps) in
    omega (arith, same.0, same.1, same.2, all, ap (λ (k : Config). k.frames) (config_kept PerSpace at.config at.steps))

-- Runs: one step more at the end.

one_step : (w : World) (s : Step) (r : Reply) (last : Wire) → FollowsAt w s r last → (TakesNoMemory (wire w) s → r ≢ Err refusal.OutOfMemory)
    → Ran w (s ∷ []) (r ∷ []) last
one_step w s (Err refusal.OutOfMemory) last at memory = (at.0, λ none. memory none refl, at.1)
one_step w s r last at memory = at

pub memory_on : (before old : Wire) (s : Step) (r : Reply) → before ≡ old → (TakesNoMemory before s → r ≢ Err refusal.OutOfMemory)
    → TakesNoMemory old s → r ≢ Err refusal.OutOfMemory
memory_on before old s r same memory takes = memory (subst (λ (w : Wire). TakesNoMemory w s) (sym same) takes)

pub ran-more : (config : Config) (before steps : List Step) (rs : List Reply) (s : Step) (r : Reply) (last after : Wire) → Fits config
    → Ran (world_after PerSpace config before) steps rs last → Follows last s r after → (TakesNoMemory last s → r ≢ Err refusal.OutOfMemory)
    → Ran (world_after PerSpace config before) (steps ++ s ∷ []) (rs ++ r ∷ []) after
ran-more config before [] [] s r last after fits ran step memory =
    one_step (world_after PerSpace config before) s r after (step config before fits ran)
    (memory_on last (wire (world_after PerSpace config before)) s r ran memory)
ran-more config before [] (r0 ∷ rs) s r last after fits ran step memory = absurd ran
ran-more config before (s0 ∷ ss) [] s r last after fits ran step memory = absurd ran
ran-more config before (s0 ∷ ss) (Err refusal.OutOfMemory ∷ rs) s r last after fits ran step memory =
    (ran.0, ran.1, ran-more config before ss rs s r last after fits ran.2 step memory)
ran-more config before (s0 ∷ ss) (r0 ∷ rs) s r last after fits ran step memory = (
  ran.0,
  subst (λ (w : World). Ran w (ss ++ s ∷ []) (rs ++ r ∷ []) after) (after_one PerSpace config before s0)
      (ran-more config (before ++ s0 ∷ []) ss rs s r last after fits
      (subst (λ (w : World). Ran w ss rs last) (sym (after_one PerSpace config before s0)) ran.1) step memory),
)

pub follows_on : (before old : Wire) (s : Step) (result : Reply) (after : Wire) → before ≡ old → Follows before s result after → Follows old s result after
follows_on before old s result after same step config steps fits is = step config steps fits (same ∙ is)

pub counts_on : (before old : Wire) (found : FrameCounts) → before ≡ old → CountsOf before found → CountsOf old found
counts_on before old found same counted config steps fits is = counted config steps fits (same ∙ is)

-- the steps up to the next one
take_next : (steps : List Step) (i : ℕ) (other : Step) → i < length steps → take (i + 1) steps ≡ take i steps ++ get_or steps i other ∷ []
take_next [] i other within = absurd (omega arith)
take_next (s ∷ ss) zero other within = refl
take_next (s ∷ ss) (suc i) other within =
    let same : suc i + 1 ≡ suc (i + 1) = omega arith in
    ap (λ (k : ℕ). take k (s ∷ ss)) same ∙ ap (λ ts. s ∷ ts) (take_next ss i other (omega arith))

pub ran_next : (config : Config) (steps : List Step) (i : ℕ) (other : Step) (rs rs_after : List Reply) (r : Reply) (last after : Wire) → Fits config
    → i < length steps → Ran (opened PerSpace config) (take i steps) rs last → Follows last (get_or steps i other) r after
    → (TakesNoMemory last (get_or steps i other) → r ≢ Err refusal.OutOfMemory) → rs_after ≡ rs ++ r ∷ []
    → Ran (opened PerSpace config) (take (i + 1) steps) rs_after after
ran_next config steps i other rs rs_after r last after fits within ran step memory pushed =
    subst (λ (qs : List Reply). Ran (opened PerSpace config) (take (i + 1) steps) qs after) (sym pushed)
    (subst (λ (ss : List Step). Ran (opened PerSpace config) ss (rs ++ r ∷ []) after) (sym (take_next steps i other within))
    (ran-more config [] (take i steps) rs (get_or steps i other) r last after fits ran step memory))
