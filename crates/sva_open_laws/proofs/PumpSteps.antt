-- A pump is an act of the open world, and what it frees are acts of its host.
use Rattle.std.proofs.Common.{◌≡◌, ◌≢◌, ◌⊎◌, inl, inr, refl, ap, sym, subst, ◌∙◌, ℕ, ◌<◌, true, false}
use Rattle.std.specs.Prelude.{[], ◌∷◌, map, Some, option_and_then, Ok}
use Rattle.sva_step.specs.declared.answers.Answer.{Answer}
use Rattle.sva_step.specs.declared.steps.Step.TheVariants as step
use Rattle.sva_model.specs.Words.{put}
use Rattle.sva_model.specs.State.{World}
use Rattle.sva_model.specs.State.OrderState.{Sent}
use Rattle.sva_model.specs.State.Phase.{Open}
use Rattle.sva_model.specs.States.{is_done}
use Rattle.sva_model.specs.Acts.{LocalAct, act, act_alone}
use Rattle.sva_model.specs.Acts.Act.{AtEndpoint}
use Rattle.sva_model.specs.Labels
use Rattle.sva_model.specs.Outcomes.{outcome}
use Rattle.sva_model.specs.Steps.{after_acts, decide, next}
use Rattle.sva_labels.proofs.Words.{ℕ_cases, put-same, put-other}
use Rattle.sva_laws.proofs.Completions.{Owed}
use Rattle.sva_laws.proofs.Invariant.{Invariant}
use Rattle.sva_laws.proofs.LegalUnit.{head_is}
use Rattle.sva_laws.proofs.Runs.{act_legal}
use Rattle.sva_open.specs.declared.acts.Act.{Act as Doing}
use Rattle.sva_open.specs.declared.acts.Act.TheVariants as doing
use Rattle.sva_open.specs.declared.acts.LocalAct.TheVariants as local
use Rattle.sva_open.specs.World.{Open as World_}
use Rattle.sva_open.specs.Acts.{next_open}
use Rattle.sva_open.specs.Units.{shifted}
use Rattle.sva_open_laws.specs.AsActs.{acted, freed_by, pump_acts}
use Rattle.sva_open_laws.specs.AsOpen.{open_of}
use Rattle.sva_open_laws.specs.Queues.{shown}
use Rattle.sva_open_laws.proofs.ActParts.{at_one_endpoint}
use Rattle.sva_open_laws.proofs.FreeActs.{frees_all}
use Rattle.sva_open_laws.proofs.PumpActs.{part_now, passed_seen, passes, sends, sent_seen}
use Rattle.sva_open_laws.proofs.QueueOrder.{InOrder}
use Rattle.sva_open_laws.proofs.QueueSteps.{OfNone, OfSend, OfWait, free_itag_is, made, pump_ways}
use Rattle.sva_open_laws.proofs.UnitParts.{answers_same}

one_acted : (its : Doing) (now after : World_) → next_open now its ≡ Some after → acted (its ∷ []) now ≡ Some after
unfolding acted
one_acted its now after is = ap (option_and_then (λ x. Some x)) is

none_acted : (now : World_) → acted [] now ≡ Some now
unfolding acted
none_acted now = refl

module _ (w : World) (e : ℕ) (i : Invariant w) (ordered : InOrder (w.part e)) (owed : Owed w.messages (w.part e))
    (phase : (w.part e).phase ≡ Open) (low : e < w.config.endpoints) where
  abbrev Pumped : Answer → Type 0
  Pumped said =
      acted (pump_acts e (freed_by w (next w (step.Pump e))) (Ok said)) (open_of w) ≡ Some (open_of (next w (step.Pump e)))

  abbrev k : ℕ
  k = Labels.head (w.part e)

  -- nothing is done
  still : (decide w (step.Pump e)).acts ≡ [] → acted [] (open_of w) ≡ Some (open_of (next w (step.Pump e)))
  still is = none_acted (open_of w) ∙ ap (λ l. Some (open_of (after_acts w l))) (sym is)

  by_wait : OfWait w e Pumped
  by_wait cookie drain true some is may said answers acts =
      let hd = head_is (w.part e) some in
      let its = made w e i ordered owed phase some in
      subst Pumped answers
      (subst (λ l. acted (doing.At e local.Pump ∷ map doing.FreeFrame (freed_by w (after_acts w l))) (open_of w) ≡ Some (open_of (after_acts w l)))
      (sym acts)
      (frees_all w e (LocalAct.Pass k) i low (act_legal w (step.Pump e) e (LocalAct.Pass k) i acts).1.0 local.Pump (shifted (shown w e))
      (passed_seen w e i its hd phase) (passes w e i its hd phase cookie drain is may)))
  by_wait cookie drain false some is may said answers acts = subst Pumped answers (still acts)

  -- what is queued isn't done, nor is what was sent
  done_same : (t : ℕ) → Labels.is_queue_empty (w.part e) ≡ false → (j : ℕ)
      → is_done ((act_alone (w.part e) w.messages (LocalAct.Send k t)).order_state j) ≡ is_done ((w.part e).order_state j)
  done_same t some j = go (ℕ_cases j k)
    where
      go : (j ≡ k) ⊎ (j ≢ k) → is_done (put (w.part e).order_state k Sent j) ≡ is_done ((w.part e).order_state j)
      go (inl same) =
          ap is_done (ap (put (w.part e).order_state k Sent) same ∙ put-same (w.part e).order_state k Sent)
          ∙ sym (ap is_done (ap (w.part e).order_state same ∙ (head_is (w.part e) some).queued))
      go (inr ne) = ap is_done (put-other (w.part e).order_state k Sent j ne)

  by_send : OfSend w e Pumped
  by_send false some no_wait free said answers acts =
      let t = Labels.lowest_label 32 (w.part e).at_itag in
      let hd = head_is (w.part e) some in
      let its = made w e i ordered owed phase some in
      subst Pumped answers
      (subst (λ l. acted (doing.At e local.Pump ∷ []) (open_of w) ≡ Some (open_of (after_acts w l))) (sym acts)
      (one_acted (doing.At e local.Pump) (open_of w) (open_of (act w (AtEndpoint e (LocalAct.Send k t))))
      (at_one_endpoint w e (LocalAct.Send k t) i low
      (answers_same (w.part e) (act_alone (w.part e) w.messages (LocalAct.Send k t)) (done_same t some) refl) local.Pump
      (part_now w e t i ordered owed its hd phase) (sent_seen w e t i ordered owed its hd phase)
      (sends w e t i ordered owed its hd phase no_wait (free_itag_is w e i free)))))
  by_send true some no_wait free said answers acts = subst Pumped answers (still acts)

  by_none : OfNone w e Pumped
  by_none none said answers acts = subst Pumped answers (still acts)

  pub pumps_acted : (said : Answer) → (outcome w (step.Pump e)).answer ≡ said
      → (decide w (step.Pump e)).acts ≡ (outcome w (step.Pump e)).acts
      → acted (pump_acts e (freed_by w (next w (step.Pump e))) (Ok said)) (open_of w) ≡ Some (open_of (next w (step.Pump e)))
  pumps_acted said answers acts = pump_ways w e Pumped by_wait by_send by_none said answers acts
