use Rattle.std.proofs.Common.{rules, ap, sym, subst, refl, ◌≡◌, ◌∙◌, ◌-◌, true, false, Some, None, option_map}
use Rattle.std.specs.Prelude.{Err, is_ok}
use Rattle.sva_step.specs.declared.refusals.Refusal.TheVariants.{OutOfMemory}
use Rattle.sva_model.specs.Wire.{Wire}
use Rattle.sva_labels.specs.Host.{next_of, reply_of}
use Rattle.sva_core.specs.HostSteps.{ByLabels}
use Rattle.sva_parts_by_labels.specs.Flights.{kind_seen}
use Rattle.sva_script_reading.specs.Messages.{link_of}
use Rattle.sva_script_runs.specs.Runs.{delivered_by, sent_of, told_of}
use Rattle.sva_script_runs.proofs.RunLemmas.{delivers, delivers_nothing, had_memory}
use Rattle.sva_script_runs.proofs.running.Run.apply.Goals as goal
use Rattle.sva_script_runs.proofs.running.Run.apply.Goals.{in-Err-OutOfMemory, in_default, in_default-2, then-is_ok, else-is_ok}

pub returns : goal.returns
returns c =
    let old = c.args.self.now.seen in
    let step = c.args.step.now in
    let link = link_of (Some old) in
    let by = subst (λ run. ByLabels run.seen step c.apply-reply.result c.apply-reply.new.self) c.self.view_is c.apply-reply.ensures.labels in
    let had : c.apply-reply.result ≡ Err OutOfMemory → ⊥ = search rules in
    let did = had_memory old step c.apply-reply.result c.apply-reply.new.self had by in
    let delivered : option_map kind_seen c.if-is_ok.delivered ≡ delivered_by link c.apply-reply.result step =
    elim c.if-is_ok.branch [
      | then-is_ok w ↦
          let ok : is_ok c.apply-reply.result ≡ true = search rules in
          ap (option_map kind_seen) w.delivered-is ∙ delivers link step c.apply-reply.result _ ok c.delivered_by-delivered.ensures
      | else-is_ok w ↦
          let ok : is_ok c.apply-reply.result ≡ false = search rules in
          ap (option_map kind_seen) w.delivered-is ∙ delivers_nothing link step c.apply-reply.result ok
    ] in
    let first : c.next_message-first.result ≡ old.next_message = search rules in
    let next : c.next_message-next.result ≡ c.apply-reply.new.self.next_message = search rules in
    let sent : c.saturating_sub.result ≡ c.next_message-next.result - c.next_message-first.result = search rules in (
      record {
        is_step = refl;
        told = λ i. record { reply = did.0 i; first = first i; next = (next ∙ ap (λ (w : Wire). w.next_message) did.1) i };
        delivered = delivered ∙ ap (λ reply. delivered_by link reply step) did.0;
        first_sent =
            c.sent-first_sent.ensures
            ∙ (λ i. sent_of (link_of (Some (did.1 i))) ((sent ∙ (λ j. (next ∙ ap (λ (w : Wire). w.next_message) did.1) j - first j)) i));
      },
      (λ i. record { seen = did.1 i; known = (ap (λ run. run.known) c.self.view_is) i }),
    )
