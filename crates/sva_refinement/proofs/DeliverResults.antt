-- What a delivery by labels answers and moves, by the kind of the message: it is the outcome of the step by names.
use Rattle.std.proofs.Common.{◌≡◌, refl, ap, ap₂, sym, subst, ◌∙◌, ℕ, ◌<◌, Bool, true, false}
use Rattle.std.specs.Prelude.{Option, Some, None}
use Rattle.std.proofs.lemmas.Bool.{not-false}
use Rattle.sva_labels.proofs.Tests.{second_holds}
use Rattle.sva_step.specs.declared.steps.Step.TheVariants as step
use Rattle.sva_model.specs.Words.{is_some}
use Rattle.sva_model.specs.Message.{Message}
use Rattle.sva_model.specs.State.{Subject, World}
use Rattle.sva_model.specs.State.Subject.{StartOf, StopOf, FunctionReset, PageRequestOf, MarkerOf, ResetDone}
use Rattle.sva_model.specs.States.{is_open, is_unreleased}
use Rattle.sva_model.specs.Labels
use Rattle.sva_model.specs.Outcomes as names
use Rattle.sva_model.specs.Outcomes.{outcome}
use Rattle.sva_model.specs.Wire.{UnitWire, number, page_request_wire, wire}
use Rattle.sva_labels.specs.Finding.{unit_of}
use Rattle.sva_labels.specs.Outcomes.{Result, result_of, deliver_result, message_result, page_request_result, marker_result, binding_or_0}
use Rattle.sva_refinement.proofs.EndpointViews.{unit_seen}
use Rattle.sva_refinement.proofs.Bearers.{bearer_seen}
use Rattle.sva_refinement.proofs.Reached.{IsReached}
use Rattle.sva_refinement.proofs.DeliverSays.{flight_seen, deliver_alike}
use Rattle.sva_refinement.proofs.Alike.{SaysAlike, result_by}

-- a message that speaks of this is answered, and moves what it moves, as by names
abbrev pub ArrivesAlike : World → (e c : ℕ) → Subject → Type 0
ArrivesAlike w e c a = message_result (wire w) e (number w.config.first c) ((w.part e).carried c) ≡ result_by w (names.subject_outcome w (w.part e) e c a)

-- a delivery is alike where the message in flight is
pub delivered_alike :
    (w : World) (n : ℕ) → IsReached w
    → ((e c : ℕ) (a : Subject) → e < w.config.endpoints → (w.part e).message c ≡ Some a → w.link_of c ≡ e → c ≡ Labels.name w n → ArrivesAlike w e c a)
    → SaysAlike w (step.Deliver n)
delivered_alike w n r h = record { alike = deliver_alike w n r; result = λ p. go (not-false (Labels.is_in_flight w n) p.0) ((w.part e).message c) refl }
  where
    c : ℕ
    c = Labels.name w n

    e : ℕ
    e = w.link_of c

    go :
        Labels.is_in_flight w n ≡ true → (o : Option Subject) → (w.part e).message c ≡ o
        → result_of (wire w) (step.Deliver n) ≡ result_by w (outcome w (step.Deliver n))
    go f None m = absurd (nothing f m)
      where
        nothing : Labels.is_in_flight w n ≡ true → (w.part e).message c ≡ None → ⊥
        nothing f m = cc (sym (ap is_some m) ∙ second_holds (Labels.is_number w w.messages n) (is_some ((w.part e).message c)) f)
    go f (Some a) m =
        ap (deliver_result (wire w)) (flight_seen w n f) ∙ h e c a ((r.invariant.parts e).near c (ap is_some m)) m refl refl
        ∙ sym (ap (λ o. result_by w (names.deliver_outcome w (w.part e) e c o)) m)

abbrev pub by_message : World → (e c : ℕ) → Message → Result
by_message w e c m = message_result (wire w) e (number w.config.first c) m

pub start_arrives : (w : World) (e c b : ℕ) → IsReached w → (w.part e).message c ≡ Some (StartOf b) → ArrivesAlike w e c (StartOf b)
start_arrives w e c b r m = ap (by_message w e c) ((r.carried e).start c b m)

pub stop_arrives : (w : World) (e c b : ℕ) → IsReached w → (w.part e).message c ≡ Some (StopOf b) → ArrivesAlike w e c (StopOf b)
stop_arrives w e c b r m = ap (by_message w e c) ((r.carried e).stop c b m)

pub reset_arrives : (w : World) (e c : ℕ) → IsReached w → (w.part e).message c ≡ Some FunctionReset → ArrivesAlike w e c FunctionReset
reset_arrives w e c r m = ap (by_message w e c) ((r.carried e).reset c m)

pub reset_done_arrives : (w : World) (e c : ℕ) → IsReached w → (w.part e).message c ≡ Some ResetDone → ArrivesAlike w e c ResetDone
reset_done_arrives w e c r m = ap (by_message w e c) ((r.carried e).reset_done c m)

-- what depends on whether the unit is open
pub open_seen : (w : World) (e : ℕ) → e < w.config.endpoints → (unit_of (wire w) e).is_open ≡ is_open (w.part e).phase
open_seen w e l = ap (λ (u : UnitWire). u.is_open) (unit_seen w e l)

pub page_request_arrives :
    (w : World) (e c x : ℕ) → IsReached w → e < w.config.endpoints → (w.part e).message c ≡ Some (PageRequestOf x)
    → ArrivesAlike w e c (PageRequestOf x)
page_request_arrives w e c x r l m =
    ap (by_message w e c) ((r.carried e).page_request c x m)
    ∙ ap (page_request_result e (number w.config.first c) (page_request_wire (w.part e) x)) (open_seen w e l)
    ∙ go (is_open (w.part e).phase)
  where
    go : (b : Bool) → page_request_result e (number w.config.first c) (page_request_wire (w.part e) x) b ≡ result_by w (names.page_request_outcome e c x b)
    go true = refl
    go false = refl

pub marker_arrives : (w : World) (e c b : ℕ) → IsReached w → e < w.config.endpoints → (w.part e).message c ≡ Some (MarkerOf b)
    → ArrivesAlike w e c (MarkerOf b)
marker_arrives w e c b r l m =
    ap (by_message w e c) ((r.carried e).marker c b m)
    ∙ ap₂ (λ o t. marker_result e (number w.config.first c) (binding_or_0 o) t) (bearer_seen w e b r.invariant unreleased) (open_seen w e l)
    ∙ go (is_open (w.part e).phase)
  where
    unreleased : is_unreleased ((w.part e).stage b) ≡ true
    unreleased = ap is_unreleased ((r.invariant.parts e).bindings.marker_stage c b m)

    go : (t : Bool) → marker_result e (number w.config.first c) (number w.config.first b) t ≡ result_by w (names.marker_outcome e c b t)
    go true = refl
    go false = refl

-- the delivery of a Start
pub start_says :
    (w : World) (n b : ℕ) → IsReached w → (w.part (w.link_of (Labels.name w n))).message (Labels.name w n) ≡ Some (StartOf b)
    → SaysAlike w (step.Deliver n)
start_says w n b r h =
    delivered_alike w n r
    (λ e c a l m link_of name. is_start e c a m
    (subst (λ x. (w.part x).message c ≡ Some (StartOf b)) link_of (subst (λ x. (w.part (w.link_of x)).message x ≡ Some (StartOf b)) (sym name) h)))
  where
    is_start : (e c : ℕ) (a : Subject) → (w.part e).message c ≡ Some a → (w.part e).message c ≡ Some (StartOf b) → ArrivesAlike w e c a
    is_start e c a m k =
        let same : a ≡ StartOf b = cc in
        start_arrives w e c b r k ∙ sym (ap (λ x. result_by w (names.subject_outcome w (w.part e) e c x)) same)
