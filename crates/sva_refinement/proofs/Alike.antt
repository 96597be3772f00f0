-- Two lists of causes that refuse alike: the first cause that holds is the same in both, or none holds in either. And what
-- follows for a step by labels and the step by names: the same reply, and the moves of the acts.
use Rattle.std.proofs.Common.{◌≡◌, refl, ap, sym, ◌∙◌, Bool, true, false}
use Rattle.std.specs.Prelude.{Option, Some, None, if◌then◌else◌, List, [], ◌∷◌, Ok, Err}
use Rattle.sva_step.specs.declared.refusals.Refusal.{Refusal}
use Rattle.sva_step.specs.declared.steps.Step.{Step}
use Rattle.sva_model.specs.State.{World}
use Rattle.sva_model.specs.Refusals.{Cause, refusals}
use Rattle.sva_model.specs.Outcomes.{Outcome, outcome}
use Rattle.sva_model.specs.Steps as names
use Rattle.sva_model.specs.Steps.{Reply, reply, decide}
use Rattle.sva_model.specs.Wire.{wire}
use Rattle.sva_laws.proofs.Passed.{Passed}
use Rattle.sva_labels.specs.Causes.{causes_of}
use Rattle.sva_labels.specs.Outcomes.{Result, result_of}
use Rattle.sva_labels.specs.Host as labels
use Rattle.sva_labels.specs.Host.{decide_of, reply_of}
use Rattle.sva_refinement.proofs.Named.{act_moves}

-- by what a list of causes refuses, if by anything
abbrev pub refused_by : List Cause → Option Refusal
refused_by [] = None
refused_by (c ∷ cs) = if c.0 then Some c.1 else refused_by cs

abbrev pub IsAlike : List Cause → List Cause → Type 0
IsAlike cs ds = refused_by cs ≡ refused_by ds

pub alike_same : (cs ds : List Cause) → cs ≡ ds → IsAlike cs ds
alike_same cs ds h = ap refused_by h

-- the same cause first; what follows matters only where it doesn't hold
pub alike_more : (c d : Cause) (cs ds : List Cause) → c ≡ d → (c.0 ≡ false → IsAlike cs ds) → IsAlike (c ∷ cs) (d ∷ ds)
alike_more c d cs ds h k = go c.0 refl k ∙ ap (λ x. if x.0 then Some x.1 else refused_by ds) h
  where
    go : (b : Bool) → c.0 ≡ b → (c.0 ≡ false → IsAlike cs ds) → (if b then Some c.1 else refused_by cs) ≡ (if b then Some c.1 else refused_by ds)
    go true e rest = refl
    go false e rest = rest e

-- a first cause that holds in both
pub alike_held : (c d : Cause) (cs ds : List Cause) → c.0 ≡ true → d.0 ≡ true → c.1 ≡ d.1 → IsAlike (c ∷ cs) (d ∷ ds)
alike_held c d cs ds h k e =
    ap (λ b. if b then Some c.1 else refused_by cs) h ∙ ap (λ r. Some r) e ∙ sym (ap (λ b. if b then Some d.1 else refused_by ds) k)

-- a first cause that doesn't hold, in one list alone
pub alike_left : (c : Cause) (cs ds : List Cause) → c.0 ≡ false → IsAlike cs ds → IsAlike (c ∷ cs) ds
alike_left c cs ds h k = ap (λ b. if b then Some c.1 else refused_by cs) h ∙ k

pub alike_right : (d : Cause) (cs ds : List Cause) → d.0 ≡ false → IsAlike cs ds → IsAlike cs (d ∷ ds)
alike_right d cs ds h k = k ∙ sym (ap (λ b. if b then Some d.1 else refused_by ds) h)

-- no cause holds where nothing is refused
pub none_refuses : (cs : List Cause) → refused_by cs ≡ None → Passed cs
none_refuses [] h = tt
none_refuses (c ∷ cs) h = go c.0 refl (none_refuses cs) h
  where
    go : (b : Bool) → c.0 ≡ b → (refused_by cs ≡ None → Passed cs) → (if b then Some c.1 else refused_by cs) ≡ None → (c.0 ≡ false) × Passed cs
    go true e rest k = absurd (cc)
    go false e rest k = (e, rest k)

pub passed_refuses : (cs : List Cause) → Passed cs → refused_by cs ≡ None
passed_refuses [] h = refl
passed_refuses (c ∷ cs) h = ap (λ b. if b then Some c.1 else refused_by cs) h.0 ∙ passed_refuses cs h.1

-- where no cause of the one holds, none of the other does
pub alike_passed : (cs ds : List Cause) → IsAlike cs ds → Passed ds → Passed cs
alike_passed cs ds a h = none_refuses cs (a ∙ passed_refuses ds h)

-- A decision by its refusal.

abbrev by_label : Option Refusal → Result → labels.Decision
by_label None r = record { reply = Ok r.answer; moves = r.moves }
by_label (Some x) r = record { reply = Err x; moves = [] }

abbrev by_name : Option Refusal → Outcome → names.Decision
by_name None o = record { reply = Ok o.answer; acts = o.acts }
by_name (Some x) o = record { reply = Err x; acts = [] }

label_checked : (cs : List Cause) (r : Result) → labels.checked cs r ≡ by_label (refused_by cs) r
label_checked [] r = refl
label_checked (c ∷ cs) r = go c.0 (label_checked cs r)
  where
    go :
        (b : Bool) → labels.checked cs r ≡ by_label (refused_by cs) r
        → (if b then record { reply = Err c.1; moves = [] } else labels.checked cs r) ≡ by_label (if b then Some c.1 else refused_by cs) r
    go true rest = refl
    go false rest = rest

name_checked : (cs : List Cause) (o : Outcome) → names.checked cs o ≡ by_name (refused_by cs) o
name_checked [] o = refl
name_checked (c ∷ cs) o = go c.0 (name_checked cs o)
  where
    go :
        (b : Bool) → names.checked cs o ≡ by_name (refused_by cs) o
        → (if b then record { reply = Err c.1; acts = [] } else names.checked cs o) ≡ by_name (if b then Some c.1 else refused_by cs) o
    go true rest = refl
    go false rest = rest

-- the result by labels that an outcome is
abbrev pub result_by : World → Outcome → Result
result_by w o = record { answer = o.answer; moves = act_moves w o.acts }

-- the decision by labels that a decision is
abbrev pub decision_by : World → names.Decision → labels.Decision
decision_by w d = record { reply = d.reply; moves = act_moves w d.acts }

-- causes that refuse alike, and one result where none holds: one decision
pub one_decision :
    (w : World) (cs ds : List Cause) (r : Result) (o : Outcome) → IsAlike cs ds → (Passed ds → r ≡ result_by w o)
    → labels.checked cs r ≡ decision_by w (names.checked ds o)
one_decision w cs ds r o a h =
    label_checked cs r ∙ ap (λ x. by_label x r) a ∙ go (refused_by ds) (λ e. h (none_refuses ds e)) ∙ ap (decision_by w) (sym (name_checked ds o))
  where
    go : (x : Option Refusal) → (x ≡ None → r ≡ result_by w o) → by_label x r ≡ decision_by w (by_name x o)
    go None k = ap (by_label None) (k refl)
    go (Some y) k = refl

-- a step whose causes refuse alike, and whose result by labels is its outcome
pub record SaysAlike (w : World) (s : Step) : Type 0 where
  pub alike : IsAlike (causes_of (wire w) s) (refusals w s)
  pub result : Passed (refusals w s) → result_of (wire w) s ≡ result_by w (outcome w s)

pub decided_alike : (w : World) (s : Step) → SaysAlike w s → decide_of (wire w) s ≡ decision_by w (decide w s)
decided_alike w s h = one_decision w (causes_of (wire w) s) (refusals w s) (result_of (wire w) s) (outcome w s) h.alike h.result

-- it is answered alike, and the moves are those of its acts
pub reply_alike : (w : World) (s : Step) → SaysAlike w s → reply_of (wire w) s ≡ reply w s
reply_alike w s h = ap (λ d. d.reply) (decided_alike w s h)

pub moves_alike : (w : World) (s : Step) → SaysAlike w s → (decide_of (wire w) s).moves ≡ act_moves w (decide w s).acts
moves_alike w s h = ap (λ d. d.moves) (decided_alike w s h)
