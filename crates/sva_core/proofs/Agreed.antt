-- The agreement after the very list of steps that leads to what is kept, and what a run leaves.
use Rattle.std.proofs.Common.{◌≡◌, ◌≤◌, ℕ, zero, suc, List, [], ◌∷◌, length, take, refl, ap, sym, subst, arith}
use Rattle.std.specs.Prelude.{Err}
use Rattle.sva_step.specs.declared.limits.Config.{Config}
use Rattle.sva_step.specs.declared.refusals.Refusal.TheVariants as refusal
use Rattle.sva_step.specs.declared.steps.Step.{Step}
use Rattle.sva_model.specs.State.PasidRule.{PerSpace}
use Rattle.sva_model.specs.State.{World, opened}
use Rattle.sva_model.specs.Claims.{Fits}
use Rattle.sva_model.specs.Steps.{Reply, replies, next, run, world_after}
use Rattle.sva_model.specs.Wire.{Wire, wire}
use Rattle.sva_laws.proofs.Runs.{always}
use Rattle.sva_laws.proofs.Claimed.{always_agrees}
use Rattle.sva_laws.proofs.Found.{labelled, found, never}
use Rattle.sva_laws.proofs.Carried.{always_carried}
use Rattle.sva_core.specs.Reached.{IsReached, Ran}
use Rattle.sva_core.specs.Headline.{IsAgreed, taken_of, answered_of, RunAgrees}

pub agreed : (seen : Wire) (at : IsReached seen) → IsAgreed seen at
agreed seen at =
    record {
      agrees = always_agrees PerSpace at.config at.steps at.fits;
      labelled = λ e. labelled (world_after PerSpace at.config at.steps) e (always PerSpace at.config at.steps);
      found = λ e. found (world_after PerSpace at.config at.steps) e (always PerSpace at.config at.steps);
      carried = λ e. always_carried PerSpace at.config at.steps e;
      never = λ e. never (world_after PerSpace at.config at.steps) e (always PerSpace at.config at.steps);
    }

-- a run leads where the steps that were taken lead, and answers these as the definitions do
ran_taken : (w : World) (steps : List Step) (results : List Reply) (last : Wire) → Ran w steps results last
    → (last ≡ wire (run w (taken_of steps results))) × (replies w (taken_of steps results) ≡ answered_of results)
unfolding replies
ran_taken w [] [] last ran = (ran, refl)
ran_taken w [] (r ∷ rs) last ran = absurd ran
ran_taken w (s ∷ ss) [] last ran = absurd ran
ran_taken w (s ∷ ss) (Err refusal.OutOfMemory ∷ rs) last ran = ran_taken w ss rs last ran.2
ran_taken w (s ∷ ss) (r ∷ rs) last ran =
    let rest = ran_taken (next w s) ss rs last ran.1 in (rest.0, λ i. sym ran.0 i ∷ rest.1 i)

pub run_agrees : (config : Config) (steps : List Step) (results : List Reply) (last : Wire) → Fits config
    → Ran (opened PerSpace config) steps results last → RunAgrees config steps results last
run_agrees config steps results last fits ran =
    let taken = ran_taken (opened PerSpace config) steps results last ran in
    let at : IsReached last = record { config = config; steps = taken_of steps results; fits = fits; is_wire = taken.0 } in
    record { reached = at; of_config = refl; by_steps = refl; answers = taken.1; agreed = agreed last at }

-- a run that has taken all its steps
take_all : (steps : List Step) (i : ℕ) → length steps ≤ i → take i steps ≡ steps
take_all [] zero l = refl
take_all [] (suc i) l = refl
take_all (s ∷ ss) zero l = absurd (omega (arith, l))
take_all (s ∷ ss) (suc i) l = ap (λ ts. s ∷ ts) (take_all ss i (omega (arith, l)))

pub whole_run_agrees : (config : Config) (steps : List Step) (i : ℕ) (results : List Reply) (last : Wire) → Fits config → length steps ≤ i
    → Ran (opened PerSpace config) (take i steps) results last → RunAgrees config steps results last
whole_run_agrees config steps i results last fits l ran =
    run_agrees config steps results last fits (subst (λ ss. Ran (opened PerSpace config) ss results last) (take_all steps i l) ran)
