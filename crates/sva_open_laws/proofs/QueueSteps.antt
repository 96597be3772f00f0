-- A unit's queue, its ITags and its waits are those of MODEL, and so is what a pump takes.
use Rattle.std.proofs.Common.{◌≡◌, ◌⊎◌, inl, inr, refl, ap, sym, subst, ◌∙◌, ℕ, ◌<◌, ◌≤◌, Bool, true, false, arith}
use Rattle.std.specs.Prelude.{◌==◌, ◌&&◌, if◌then◌else◌, not, nat_lt, [], ◌∷◌, Some, None, option_map, slice_get}
use Rattle.std.specs.List.{list_any}
use Rattle.std.proofs.lemmas.Bool.{eqb-true, eq-eqb, not-true}
use Rattle.std.proofs.lemmas.Bool.Decides.{nat_tests}
use Rattle.sva_step.specs.declared.answers.Answer.{Answer}
use Rattle.sva_step.specs.declared.steps.Step.{Step}
use Rattle.sva_step.specs.declared.steps.Step.TheVariants as step
use Rattle.sva_model.specs.Words.{any_below, if_found, is_some, lowest, the}
use Rattle.sva_model.specs.State.{Endpoint, Order, World}
use Rattle.sva_model.specs.State.Order.{RangeOf, PasidOf, Wait}
use Rattle.sva_model.specs.State.OrderState.{Void}
use Rattle.sva_model.specs.State.Phase.{Open}
use Rattle.sva_model.specs.States.{is_busy, is_open, is_queued, is_wait}
use Rattle.sva_model.specs.Acts.{LocalAct, act, act_alone}
use Rattle.sva_model.specs.Acts.Act.{AtEndpoint}
use Rattle.sva_model.specs.Labels
use Rattle.sva_model.specs.Outcomes.{head_outcome, may_pass, outcome, pump_outcome, send_outcome, wait_outcome}
use Rattle.sva_model.specs.Refusals.{refusals}
use Rattle.sva_model.specs.Steps.{after_acts, decide, next, world_after}
use Rattle.sva_labels.proofs.Tests.{same_bool}
use Rattle.sva_labels.proofs.Words.{any_below-false, any_below-intro, any_below-true, lowest_below, lowest_cases, put-same, some_the}
use Rattle.sva_laws.proofs.Completions.{Owed, always_owed}
use Rattle.sva_laws.proofs.Invariant.{Invariant}
use Rattle.sva_laws.proofs.LegalUnit.{head_is}
use Rattle.sva_laws.proofs.Passed.{label_low, opened_is}
use Rattle.sva_laws.proofs.Runs.{always}
use Rattle.sva_laws.proofs.Told.{accepted}
use Rattle.sva_open.specs.declared.descriptors.Issued.TheVariants as issued
use Rattle.sva_open.specs.Units.{free_itag, has_itag, pump, pump_head}
use Rattle.sva_open_laws.specs.AsOpen.{descriptor_of, open_of, part_of, where_so}
use Rattle.sva_open_laws.specs.Queues.{IsPumpedAlike, IsUnitAlike, PumpsAreOne, UnitsAreOne, if_taken, oldest, shown}
use Rattle.sva_open_laws.proofs.Gathered.{first_gathered}
use Rattle.sva_open_laws.proofs.GatherLists.{gather_none}
use Rattle.sva_open_laws.proofs.LinkLists.{any_gathered, or_false}
use Rattle.sva_open_laws.proofs.PumpActs.{busy_at, by_head, may_alike, passed_seen, passes, passes_none, queued_at, room_alike, sends, sends_none, sent_seen}
use Rattle.sva_open_laws.proofs.QueueOrder.{InOrder, always_in_order}
use Rattle.sva_open_laws.proofs.UnitLists.{lowest_free_itag}

-- ---- What stands where

head_alike : (w : World) (e : ℕ)
    → slice_get (shown w e).queue 0 ≡ option_map (λ k. descriptor_of e (w.part e) ((w.part e).order k)) (oldest (w.part e))
head_alike w e = go (lowest_cases p.orders (λ k. is_queued (p.order_state k)))
  where
    p : Endpoint
    p = w.part e

    first : ℕ
    first = lowest (w.part e).orders (λ k. is_queued ((w.part e).order_state k))

    past : (n : ℕ) → nat_lt n n ≡ false
    past n = grind (arith, nat_tests)

    below : (m n : ℕ) → m < n → nat_lt m n ≡ true
    below m n l = grind (arith, nat_tests)

    go : ((first ≡ p.orders) × ((j : ℕ) → j < p.orders → is_queued (p.order_state j) ≡ false))
        ⊎ ((first < p.orders) × (is_queued (p.order_state first) ≡ true) × ((j : ℕ) → j < first → is_queued (p.order_state j) ≡ false))
        → slice_get (shown w e).queue 0 ≡ option_map (λ k. descriptor_of e p (p.order k)) (if_found (nat_lt first p.orders) first)
    go (inl x) =
        ap (λ xs. slice_get xs 0)
        (gather_none p.orders (queued_at e p p.order_state) (λ j l. ap (λ b. where_so b (descriptor_of e p (p.order j))) (x.1 j l)))
        ∙ sym
        (ap (λ z. option_map (λ k. descriptor_of e p (p.order k)) (if_found (nat_lt z p.orders) z)) x.0
        ∙ ap (λ b. option_map (λ k. descriptor_of e p (p.order k)) (if_found b p.orders)) (past p.orders))
    go (inr x) =
        first_gathered p.orders (queued_at e p p.order_state) first (descriptor_of e p (p.order first)) x.0
        (λ j l. ap (λ b. where_so b (descriptor_of e p (p.order j))) (x.2 j l))
        (ap (λ b. where_so b (descriptor_of e p (p.order first))) x.1)
        ∙ sym (ap (λ b. option_map (λ k. descriptor_of e p (p.order k)) (if_found b first)) (below first p.orders x.0))

pub busy_alike : (w : World) (e : ℕ) → Invariant w → (t : ℕ) → list_any (has_itag t) (shown w e).issued ≡ is_some ((w.part e).at_itag t)
busy_alike w e i t =
    any_gathered (has_itag t) p.orders (busy_at e p.itag p.order_state)
    ∙ same_bool (any_below p.orders (λ k. list_any (has_itag t) (busy_at e p.itag p.order_state k))) (is_some (p.at_itag t)) there back
  where
    p : Endpoint
    p = w.part e

    bears : (k : ℕ) (b : Bool) → is_busy (p.order_state k) ≡ b → list_any (has_itag t) (where_so b (issued.Sent e (p.itag k))) ≡ true
        → is_some (p.at_itag t) ≡ true
    bears k true busy h =
        let same = eqb-true (p.itag k) t (sym (or_false (p.itag k == t)) ∙ h) in
        ap is_some (ap p.at_itag (sym same) ∙ (i.parts e).labels.bears_itag k busy)
    bears k false busy h = absurd (cc)

    there : any_below p.orders (λ k. list_any (has_itag t) (busy_at e p.itag p.order_state k)) ≡ true → is_some (p.at_itag t) ≡ true
    there h =
        let x = any_below-true p.orders (λ k. list_any (has_itag t) (busy_at e p.itag p.order_state k)) h in
        bears x.0 (is_busy (p.order_state x.0)) refl x.2

    low : (k : ℕ) → is_busy (p.order_state k) ≡ true → k < p.orders
    low k h = by ((i.parts e).bounds.order_state k)
      where
        by : (p.orders ≤ k → p.order_state k ≡ Void) → k < p.orders
        by made = grind (arith, h, made)

    back : is_some (p.at_itag t) ≡ true → any_below p.orders (λ k. list_any (has_itag t) (busy_at e p.itag p.order_state k)) ≡ true
    back h =
        let k = the (p.at_itag t) in
        let x = (i.parts e).labels.itag_bears t k (some_the (p.at_itag t) h) in
        any_below-intro p.orders (λ j. list_any (has_itag t) (busy_at e p.itag p.order_state j)) k (low k x.1)
        (ap (λ b. list_any (has_itag t) (where_so b (issued.Sent e (p.itag k)))) x.1 ∙ or_false (p.itag k == t) ∙ eq-eqb (p.itag k) t x.0)

unit_alike : (w : World) (e : ℕ) → Invariant w → IsUnitAlike w e
unit_alike w e i =
    record {
      head = head_alike w e;
      busy = busy_alike w e i;
      free = lowest_free_itag (shown w e).issued 32 (w.part e).at_itag (busy_alike w e i);
      passes = may_alike w e;
      room = room_alike w e;
    }

pub units_are_one : UnitsAreOne
units_are_one rule config ss e = unit_alike (world_after rule config ss) e (always rule config ss)

-- ---- What a pump takes

-- what an act of the endpoint leaves of it
pub shown_after : (w : World) (s : Step) (e : ℕ) (o : LocalAct) → (decide w s).acts ≡ AtEndpoint e o ∷ []
    → shown (next w s) e ≡ part_of (act w (AtEndpoint e o)) e (act_alone (w.part e) w.messages o)
shown_after w s e o acts =
    ap (λ l. shown (after_acts w l) e) acts ∙ ap (part_of (act w (AtEndpoint e o)) e) (put-same w.part e (act_alone (w.part e) w.messages o))

-- the lowest ITag that is free, by whether one is
pub free_itag_is : (w : World) (e : ℕ) → Invariant w → (Labels.lowest_label 32 (w.part e).at_itag == 32) ≡ false
    → free_itag (shown w e).issued 32 0 ≡ Some (Labels.lowest_label 32 (w.part e).at_itag)
free_itag_is w e i some =
    lowest_free_itag (shown w e).issued 32 (w.part e).at_itag (busy_alike w e i)
    ∙ ap (λ b. if_found b (Labels.lowest_label 32 (w.part e).at_itag))
    (below (Labels.lowest_label 32 (w.part e).at_itag) (label_low 32 (w.part e).at_itag some))
  where
    below : (m : ℕ) → m < 32 → nat_lt m 32 ≡ true
    below m l = grind (arith, nat_tests)

no_itag_is : (w : World) (e : ℕ) → Invariant w → (Labels.lowest_label 32 (w.part e).at_itag == 32) ≡ true
    → free_itag (shown w e).issued 32 0 ≡ None
no_itag_is w e i none =
    lowest_free_itag (shown w e).issued 32 (w.part e).at_itag (busy_alike w e i)
    ∙ ap (λ z. if_found (nat_lt z 32) z) (eqb-true (Labels.lowest_label 32 (w.part e).at_itag) 32 none)

-- ---- The ways of a pump: what holds on each of them holds of all that a pump says

abbrev pub OfWait : World → ℕ → (Answer → Type 0) → Type 0
OfWait w e Holds =
    (cookie : ℕ) (drain may : Bool) → Labels.is_queue_empty (w.part e) ≡ false → (w.part e).order (Labels.head (w.part e)) ≡ Wait cookie drain
    → may_pass (w.part e) drain ≡ may → (said : Answer) → (wait_outcome e (Labels.head (w.part e)) may).answer ≡ said
    → (decide w (step.Pump e)).acts ≡ (wait_outcome e (Labels.head (w.part e)) may).acts → Holds said

abbrev pub OfSend : World → ℕ → (Answer → Type 0) → Type 0
OfSend w e Holds =
    (none : Bool) → Labels.is_queue_empty (w.part e) ≡ false → is_wait ((w.part e).order (Labels.head (w.part e))) ≡ false
    → (Labels.lowest_label 32 (w.part e).at_itag == 32) ≡ none → (said : Answer)
    → (send_outcome e (Labels.head (w.part e)) (Labels.lowest_label 32 (w.part e).at_itag) (not none)).answer ≡ said
    → (decide w (step.Pump e)).acts ≡ (send_outcome e (Labels.head (w.part e)) (Labels.lowest_label 32 (w.part e).at_itag) (not none)).acts
    → Holds said

abbrev pub OfNone : World → ℕ → (Answer → Type 0) → Type 0
OfNone w e Holds =
    Labels.is_queue_empty (w.part e) ≡ true → (said : Answer) → (pump_outcome (w.part e) e true).answer ≡ said
    → (decide w (step.Pump e)).acts ≡ (pump_outcome (w.part e) e true).acts → Holds said

module _ (w : World) (e : ℕ) (Holds : Answer → Type 0) (of_wait : OfWait w e Holds) (of_send : OfSend w e Holds) (of_none : OfNone w e Holds) where
  by_order : Labels.is_queue_empty (w.part e) ≡ false → (x : Order) → (w.part e).order (Labels.head (w.part e)) ≡ x → (said : Answer)
      → (head_outcome (w.part e) e (Labels.head (w.part e)) x).answer ≡ said
      → (decide w (step.Pump e)).acts ≡ (head_outcome (w.part e) e (Labels.head (w.part e)) x).acts → Holds said
  by_order some (Wait cookie drain) is said answers acts = of_wait cookie drain (may_pass (w.part e) drain) some is refl said answers acts
  by_order some (RangeOf b range) is said answers acts =
      of_send (Labels.lowest_label 32 (w.part e).at_itag == 32) some (ap is_wait is) refl said answers acts
  by_order some (PasidOf b) is said answers acts =
      of_send (Labels.lowest_label 32 (w.part e).at_itag == 32) some (ap is_wait is) refl said answers acts

  by_queue : (b : Bool) → Labels.is_queue_empty (w.part e) ≡ b → (said : Answer) → (pump_outcome (w.part e) e b).answer ≡ said
      → (decide w (step.Pump e)).acts ≡ (pump_outcome (w.part e) e b).acts → Holds said
  by_queue true none said answers acts = of_none none said answers acts
  by_queue false some said answers acts = by_order some ((w.part e).order (Labels.head (w.part e))) refl said answers acts

  pub pump_ways : (said : Answer) → (outcome w (step.Pump e)).answer ≡ said
      → (decide w (step.Pump e)).acts ≡ (outcome w (step.Pump e)).acts → Holds said
  pump_ways said answers acts = by_queue (Labels.is_queue_empty (w.part e)) refl said answers acts

module _ (w : World) (e : ℕ) (i : Invariant w) (ordered : InOrder (w.part e)) (owed : Owed w.messages (w.part e)) (phase : (w.part e).phase ≡ Open) where
  abbrev Pumped : Answer → Type 0
  Pumped said = pump (open_of w).settings (shown w e) ≡ if_taken said (shown (next w (step.Pump e)) e)

  abbrev k : ℕ
  k = Labels.head (w.part e)

  pub made : Labels.is_queue_empty (w.part e) ≡ false → k < (w.part e).orders
  made h =
      let p = w.part e in
      let x = any_below-true p.orders (λ j. is_queued (p.order_state j)) (some (any_below p.orders (λ j. is_queued (p.order_state j))) h) in
      (lowest_below p.orders (λ j. is_queued (p.order_state j)) x.0 x.1 x.2).0
    where
      some : (b : Bool) → not b ≡ false → b ≡ true
      some true h = refl
      some false h = absurd (cc)

  by_wait : OfWait w e Pumped
  by_wait cookie drain true some is may said answers acts =
      subst Pumped answers
      (passes w e i (made some) (head_is (w.part e) some) phase cookie drain is may
      ∙ ap Some
      (sym (shown_after w (step.Pump e) e (LocalAct.Pass k) acts ∙ passed_seen w e i (made some) (head_is (w.part e) some) phase)))
  by_wait cookie drain false some is may said answers acts =
      subst Pumped answers (passes_none w e i (made some) (head_is (w.part e) some) phase cookie drain is may)

  by_send : OfSend w e Pumped
  by_send false some no_wait free said answers acts =
      let t = Labels.lowest_label 32 (w.part e).at_itag in
      subst Pumped answers
      (sends w e t i ordered owed (made some) (head_is (w.part e) some) phase no_wait (free_itag_is w e i free)
      ∙ ap Some
      (sym (shown_after w (step.Pump e) e (LocalAct.Send k t) acts
      ∙ sent_seen w e t i ordered owed (made some) (head_is (w.part e) some) phase)))
  by_send true some no_wait free said answers acts =
      subst Pumped answers (sends_none w e (made some) (head_is (w.part e) some) phase no_wait (no_itag_is w e i free))

  by_none : OfNone w e Pumped
  by_none none said answers acts =
      subst Pumped answers
      (by_head w e phase
      ∙ ap (λ xs. pump_head (open_of w).settings (shown w e) (slice_get xs 0))
      (gather_none (w.part e).orders (queued_at e (w.part e) (w.part e).order_state)
      (λ j l. ap (λ b. where_so b (descriptor_of e (w.part e) ((w.part e).order j)))
      (any_below-false (w.part e).orders (λ x. is_queued ((w.part e).order_state x))
      (not-true (any_below (w.part e).orders (λ x. is_queued ((w.part e).order_state x))) none) j l))))

  pub pumps : (said : Answer) → (outcome w (step.Pump e)).answer ≡ said
      → (decide w (step.Pump e)).acts ≡ (outcome w (step.Pump e)).acts
      → pump (open_of w).settings (shown w e) ≡ if_taken said (shown (next w (step.Pump e)) e)
  pumps said answers acts = pump_ways w e Pumped by_wait by_send by_none said answers acts

pumped_alike : (w : World) (e : ℕ) → Invariant w → InOrder (w.part e) → Owed w.messages (w.part e) → IsPumpedAlike w e
pumped_alike w e i ordered owed =
    record {
      pumped = λ said h.
          let yes = accepted (refusals w (step.Pump e)) (outcome w (step.Pump e)) said h in
          pumps w e i ordered owed (opened_is (w.part e) yes.0.1.0) said yes.1 yes.2;
      closed = closed;
    }
  where
    closed : is_open (w.part e).phase ≡ false → pump (open_of w).settings (shown w e) ≡ None
    closed h = ap (λ (b : Bool). if b && not false then pump_head (open_of w).settings (shown w e) (slice_get (shown w e).queue 0) else None) h

pub pumps_are_one : PumpsAreOne
pumps_are_one rule config ss e =
    pumped_alike (world_after rule config ss) e (always rule config ss) (always_in_order rule config ss e) (always_owed rule config ss e)
