-- Which space bears a PASID, and how many bindings are under it, by labels.
use Rattle.std.proofs.Common.{◌≡◌, refl, ap, sym, ◌∙◌, subst, ℕ, ◌<◌, ◌≤◌, Bool, false, arith}
use Rattle.std.specs.Prelude.{◌==◌, ◌&&◌, not, nat_le, if◌then◌else◌, Option, Some, None, Ok, Err, [], option_map, find}
use Rattle.std.specs.List.{count_by}
use Rattle.std.proofs.lemmas.Bool.Decides.{nat_tests}
use Rattle.sva_step.specs.declared.answers.Answer.{Answer}
use Rattle.sva_step.specs.declared.answers.Answer.TheVariants as answer
use Rattle.sva_step.specs.declared.refusals.Refusal.TheVariants as refusal
use Rattle.sva_step.specs.declared.steps.Step.TheVariants as step
use Rattle.sva_model.specs.Wire.{Wire, BindingWire}
use Rattle.sva_labels.specs.Sound.{IsSound}
use Rattle.sva_labels.specs.Host.{Decision, decide_of}
use Rattle.sva_labels.specs.Outcomes.{bearer_answer}
use Rattle.sva_pasid.specs.Places as places
use Rattle.sva_pasid.specs.declared.bearers.Bearer.{Bearer}
use Rattle.sva_parts_by_labels.proofs.Bindings.{bindings_are_seen}
use Rattle.sva_host_state.specs.declared.host_state.HostState.TheInside.{Inside as HostState}
use Rattle.sva_host_state.specs.Inner.{wire_of}
use Rattle.sva_host_state.specs.Steps.{Does, ByLabels}
use Rattle.sva_host_state.proofs.FewBound.{few_under}

within : (t : ℕ) → 0 < t → t ≤ 32 → not (nat_le 1 t && nat_le t 32) ≡ false
within t l h = grind (arith, nat_tests)

abbrev pub said : Option Bearer → Answer
said None = answer.NoBearer
said (Some bearer) = answer.Bearer bearer.space bearer.bindings

said_by : (w : Wire) (t : ℕ) (f : Option BindingWire)
    → bearer_answer w t f ≡ said (option_map (λ (b : BindingWire). record { space = b.space; bindings = count_by (λ x. x.pasid == t) w.bindings }) f)
said_by w t None = refl
said_by w t (Some b) = refl

pub borne : (host : HostState) (v : Wire) (t : ℕ) (o : Option Bearer) → wire_of host ≡ v → 0 < t → t ≤ 32 → o ≡ places.bearer_of t host.bindings
    → ByLabels v (step.Bearer t) (Ok (said o)) v
borne host v t o view low high is =
    subst (λ (u : Wire). ByLabels u (step.Bearer t) (Ok (said o)) u) view
    (subst (λ (d : Decision). Does d (wire_of host) (Ok (said o)) (wire_of host)) (sym decides) (refl, refl))
  where
    decides : decide_of (wire_of host) (step.Bearer t) ≡ record { reply = Ok (said o); moves = [] }
    decides =
        ap (λ (b : Bool). if b then record { reply = Err refusal.BadPasid; moves = [] }
        else record { reply = Ok (bearer_answer (wire_of host) t (find (λ b. b.pasid == t) (wire_of host).bindings)); moves = [] })
        (within t low high)
        ∙ ap (λ (a : Answer). record { reply = Ok a; moves = [] })
        (said_by (wire_of host) t (find (λ b. b.pasid == t) (wire_of host).bindings)
        ∙ ap said (sym (((bindings_are_seen host.bindings).0 (wire_of host) refl).bearer t) ∙ sym is))

-- what is found under a PASID counts the bindings under it
counted_by : (t : ℕ) (w : Wire) (b : Bearer) (f : Option BindingWire)
    → Some b ≡ option_map (λ (x : BindingWire). record { space = x.space; bindings = count_by (λ y. y.pasid == t) w.bindings }) f
    → b.bindings ≡ count_by (λ (y : BindingWire). y.pasid == t) w.bindings
counted_by t w b None is = absurd (cc (is))
counted_by t w b (Some x) is = by (record { space = x.space; bindings = count_by (λ (y : BindingWire). y.pasid == t) w.bindings }) is
  where
    by : (d : Bearer) → Some b ≡ Some d → b.bindings ≡ d.bindings
    by d same = let one : b ≡ d = cc in ap (λ (x : Bearer). x.bindings) one

pub few_borne : (host : HostState) (v : Wire) (t : ℕ) (b : Bearer) → wire_of host ≡ v → IsSound v → Some b ≡ places.bearer_of t host.bindings → b.bindings ≤ 8
few_borne host v t b view s is =
    subst (λ n. n ≤ 8)
    (sym (counted_by t (wire_of host) b (find (λ b. b.pasid == t) (wire_of host).bindings)
    (is ∙ ((bindings_are_seen host.bindings).0 (wire_of host) refl).bearer t)))
    (few_under (wire_of host) t (subst IsSound (sym view) s))
