-- How jobs are taken and answered, a call more.
use Rattle.std.proofs.Common.{◌≡◌, ◌∙◌, ℕ, ◌+◌, Bool, true, false, not, List, [], ◌∷◌, ◌++◌}
use Rattle.std.proofs.Common.{length, ap, sym, subst, arith, refl, inl, inr, ◌⊎◌, append_assoc, append-nil, length-append}
use Rattle.sva_step.specs.declared.limits.Config.{Config}
use Rattle.sva_step.specs.declared.steps.Step.TheVariants.{Reply}
use Rattle.sva_step.specs.declared.steps.Verdict.{Verdict}
use Rattle.sva_core.specs.declared.receipts.Receipt.{Receipt}
use Rattle.sva_fabric.specs.Receipts.{PortState}
use Rattle.sva_fabric.specs.Asks.{IsAsked}
use Rattle.sva_fabric.specs.Jobs.{AreJobs, IsJobStep, IsJobTurn, is_left, holds_after, holds_at_last, HasAnswered, HasWorked}
use Rattle.sva_fabric.specs.Plays.{is_memory}
use Rattle.sva_fabric.specs.declared.loops.endings.Turn.{Turn}
use Rattle.sva_fabric.specs.declared.loops.endings.Turn.TheVariants.{Accepted, Again, Memory, Strayed}
use Rattle.sva_fabric.proofs.Ending.{IsLast, same_at_last, spent_by_last}

pub jobs_more : (worker : ℕ) (holds : Bool) (calls : List Receipt) (r : Receipt)
    → AreJobs worker holds calls → IsJobStep worker (holds_at_last holds calls) r.step → AreJobs worker holds (calls ++ r ∷ [])
jobs_more worker holds [] r jobs step = (step, tt)
jobs_more worker holds (c ∷ calls) r jobs step = (jobs.0, jobs_more worker (holds_after holds c) calls r jobs.1 step)

pub holds_more : (holds : Bool) (calls : List Receipt) (r : Receipt) → holds_at_last holds (calls ++ r ∷ []) ≡ holds_after (holds_at_last holds calls) r
holds_more holds [] r = refl
holds_more holds (c ∷ calls) r = holds_more (holds_after holds c) calls r

-- a loop under way, and whether a job is in hand
pub record IsWorking (worker turn : ℕ) (holds : Bool) (before after : PortState) : Type 0 where
  pub calls : List Receipt
  pub number : after.number ≡ before.number
  pub kept : after.receipts ≡ before.receipts ++ calls
  pub jobs : AreJobs worker false calls
  pub holding : holds_at_last false calls ≡ holds
  pub count : length calls ≡ turn

-- no job was taken yet
pub working_none : (worker : ℕ) (state : PortState) → IsWorking worker 0 false state state
working_none worker state = record { calls = []; number = refl; kept = sym (append-nil state.receipts); jobs = tt; holding = refl; count = refl }

-- a turn that was answered
pub working_more : (worker turn : ℕ) (holds held : Bool) (before after next : PortState)
    → IsWorking worker turn holds before after → HasWorked worker after next holds held → IsWorking worker (turn + 1) held before next
working_more worker turn holds held before after next w h =
    let r = h.receipt in
    let count = w.count in
    record {
      calls = w.calls ++ r ∷ [];
      number = ap (λ (s : PortState). s.number) h.kept ∙ w.number;
      kept = ap (λ (s : PortState). s.receipts) h.kept ∙ ap (λ l. l ++ r ∷ []) w.kept ∙ append_assoc before.receipts w.calls (r ∷ []);
      jobs = jobs_more worker false w.calls r w.jobs (subst (λ b. IsJobStep worker b r.step) (sym w.holding) h.of_job);
      holding = holds_more false w.calls r ∙ ap (λ b. holds_after b r) w.holding ∙ sym h.holding;
      count = omega (arith, length-append w.calls (r ∷ []));
    }

-- a turn after which the loop goes on
pub working_after : (config : Config) (worker turn : ℕ) (holds held : Bool) (before after next : PortState) (t : Turn)
    → IsWorking worker turn holds before after → IsJobTurn config worker after next holds held t → (t ≡ Accepted) ⊎ (t ≡ Again)
    → IsWorking worker (turn + 1) held before next
working_after config worker turn holds held before after next t w h (inl is) =
    working_more worker turn holds held before after next w (subst (λ o. IsJobTurn config worker after next holds held o) is h)
working_after config worker turn holds held before after next t w h (inr is) =
    working_more worker turn holds held before after next w (subst (λ o. IsJobTurn config worker after next holds held o) is h)

-- a turn after which it ends
pub last_job : (config : Config) (worker : ℕ) (holds held : Bool) (before after : PortState) (t : Turn)
    → IsJobTurn config worker before after holds held t → (t ≡ Accepted → ⊥) → (t ≡ Again → ⊥) → IsLast config before after t
last_job config worker holds held before after Accepted h a b = a refl
last_job config worker holds held before after Again h a b = b refl
last_job config worker holds held before after Memory h a b = h
last_job config worker holds held before after Strayed h a b = h

-- an answer's turn
pub job_asked : (config : Config) (worker : ℕ) (verdict : Verdict) (before after : PortState) (held : Bool) (t : Turn)
    → IsAsked config (Reply worker verdict) before after t → held ≡ is_left t → IsJobTurn config worker before after true held t
job_asked config worker verdict before after held Accepted h is =
    record { receipt = h.receipt; kept = h.kept; of_job = (verdict, h.of_step); holding = is ∙ ap not (sym h.answered) }
job_asked config worker verdict before after held Again h is =
    record { receipt = h.receipt; kept = h.kept; of_job = (verdict, h.of_step); holding = is ∙ ap not (sym h.answered) }
job_asked config worker verdict before after held Memory h is = h
job_asked config worker verdict before after held Strayed h is = h

-- what a loop has answered when all its turns are used
pub has_answered : (config : Config) (worker turn used left : ℕ) (holds : Bool) (before after : PortState)
    → IsWorking worker turn holds before after → used ≡ turn → left ≡ 0 → HasAnswered config worker used left false before after
has_answered config worker turn used left holds before after w all none = record {
  calls = w.calls;
  number = w.number;
  kept = w.kept;
  jobs = w.jobs;
  few = let count = w.count in omega arith;
  each = let count = w.count in omega arith;
  spent = inl (all ∙ sym w.count, none);
}

-- and when its last turn made no call
pub answered_last : (config : Config) (worker turn used left : ℕ) (holds : Bool) (before after next : PortState) (t : Turn)
    → IsWorking worker turn holds before after → IsLast config after next t → used ≡ turn + 1
    → HasAnswered config worker used left (is_memory t) before next
answered_last config worker turn used left holds before after next t w l one =
    let e = same_at_last config after next t l in
    let count = w.count in
    record {
      calls = w.calls;
      number = ap (λ (s : PortState). s.number) e ∙ w.number;
      kept = ap (λ (s : PortState). s.receipts) e ∙ w.kept;
      jobs = w.jobs;
      few = omega arith;
      each = omega arith;
      spent = spent_by_last config (length w.calls) used left after next t l (omega arith);
    }
