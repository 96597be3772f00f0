-- What is awaited is on its way: an order that was sent, a translation request that is out, a response.
use Rattle.sva_model.specs.State.{PasidRule}
use Rattle.std.proofs.Common.{◌≡◌, ◌≢◌, ap, ℕ, ◌≤◌, Bool, true, false, arith}
use Rattle.std.specs.Prelude.{Option, Some, None, ◌==◌, List, [], ◌∷◌}
use Rattle.std.proofs.lemmas.Bool.Decides.{nat_tests}
use Rattle.sva_step.specs.declared.limits.Config.{Config}
use Rattle.sva_step.specs.declared.steps.Step.{Step}
use Rattle.sva_model.specs.State.{Subject, Mappings, Endpoint, World, opened}
use Rattle.sva_model.specs.State.OrderState.{Sent}
use Rattle.sva_model.specs.State.GroupState.{Collecting, Closed}
use Rattle.sva_model.specs.State.HostGroupState.{NotFiled, Replied}
use Rattle.sva_model.specs.State.Subject.{RequestOf, CompletionOf, InvalidateOf, ResponseOf, ResetDone}
use Rattle.sva_model.specs.State.Phase.{Open}
use Rattle.sva_model.specs.States.{is_out}
use Rattle.sva_model.specs.Unmappings.{submitted, submitted_if, submits, bound, cookie_of}
use Rattle.sva_model.specs.Acts.{Act, LocalAct, act, act_alone}
use Rattle.sva_model.specs.Acts.Act.{NewSpace, DropSpace, Map, Unmap, NewBinding, NewJob, Hold, LetGo, AtEndpoint}
use Rattle.sva_model.specs.Steps.{decide, next, run, after_acts, world_after}
use Rattle.sva_laws.proofs.Legal.{LegalLocalAct}
use Rattle.sva_laws.proofs.Bounds.{Bounds}
use Rattle.sva_laws.proofs.PageRequests.{Lasts, is_whole}
use Rattle.sva_laws.specs.UnderWay.{is_answerable}
use Rattle.sva_laws.proofs.Invariant.{PartInvariant, Invariant}
use Rattle.sva_laws.proofs.Keeps.{Legal, act_keeps, put_keeps}
use Rattle.sva_laws.proofs.Passed.{LegalAll}
use Rattle.sva_laws.proofs.Runs.{step_legal, next_keeps, opened_invariant}

-- is it a translation request's message, there or back?
abbrev pub is_of_request : (request : ℕ) → Option Subject → Bool
is_of_request r (Some (RequestOf x)) = x == r
is_of_request r (Some (CompletionOf x found)) = x == r
is_of_request r _ = false

abbrev pub is_response_to : (group : ℕ) → Option Subject → Bool
is_response_to g (Some (ResponseOf x code)) = x == g
is_response_to g _ = false

pub record Ways (p : Endpoint) : Type 0 where
  pub sent : (k : ℕ) → p.order_state k ≡ Sent → p.message (p.invalidate_message k) ≡ Some (InvalidateOf k)
  pub out : (r : ℕ) → p.phase ≡ Open → is_out (p.request r) ≡ true → is_of_request r (p.message (p.request_message r)) ≡ true
  pub response : (g : ℕ) → p.phase ≡ Open → is_answerable (p.group g) ≡ true → p.host_group g ≡ Replied
      → is_response_to g (p.message (p.response_message g)) ≡ true

sent_kept : (ms : Mappings) (g n k : ℕ) (p : Endpoint) (o : LocalAct) → LegalLocalAct ms g p o
    → (n ≤ p.invalidate_message k → p.message (p.invalidate_message k) ≡ None)
    → (p.order_state k ≡ Sent → p.message (p.invalidate_message k) ≡ Some (InvalidateOf k)) → (act_alone p n o).order_state k ≡ Sent
    → (act_alone p n o).message ((act_alone p n o).invalidate_message k) ≡ Some (InvalidateOf k)
sent_kept ms g n k p o l un old h = grind (arith, nat_tests)

out_kept : (ms : Mappings) (g n r : ℕ) (p : Endpoint) (o : LocalAct) → LegalLocalAct ms g p o
    → (n ≤ p.request_message r → p.message (p.request_message r) ≡ None)
    → ((c : ℕ) → p.message c ≡ Some ResetDone → is_out (p.request r) ≡ false)
    → ((c d x : ℕ) (f : Option ℕ) → p.message c ≡ Some (CompletionOf x f) → p.message d ≡ Some (RequestOf x) → ⊥)
    → (p.phase ≡ Open → is_out (p.request r) ≡ true → is_of_request r (p.message (p.request_message r)) ≡ true) → (act_alone p n o).phase ≡ Open
    → is_out ((act_alone p n o).request r) ≡ true → is_of_request r ((act_alone p n o).message ((act_alone p n o).request_message r)) ≡ true
out_kept ms g n r p o l un re both old ph h = grind (arith, nat_tests)

response_kept : (ms : Mappings) (g n x : ℕ) (p : Endpoint) (o : LocalAct) → LegalLocalAct ms g p o
    → (n ≤ p.response_message x → p.message (p.response_message x) ≡ None) → (p.groups ≤ x → p.host_group x ≡ NotFiled)
    → (p.host_group x ≡ Replied → p.group x ≢ Collecting) → ((c : ℕ) → p.message c ≡ Some ResetDone → p.group x ≡ Closed)
    → (p.phase ≡ Open → is_answerable (p.group x) ≡ true → p.host_group x ≡ Replied → is_response_to x (p.message (p.response_message x)) ≡ true)
    → (act_alone p n o).phase ≡ Open → is_answerable ((act_alone p n o).group x) ≡ true → (act_alone p n o).host_group x ≡ Replied
    → is_response_to x ((act_alone p n o).message ((act_alone p n o).response_message x)) ≡ true
response_kept ms g n x p o l un made whole re old ph a h = grind (arith, nat_tests)

-- a group whose response was sent is whole
whole_of : (p : Endpoint) → Lasts p → (x : ℕ) → p.host_group x ≡ Replied → p.group x ≢ Collecting
whole_of p la x h = la.whole_group x (ap is_whole h)

pub every : (ms : Mappings) (x g n e : ℕ) (p : Endpoint) (o : LocalAct) → LegalLocalAct ms g p o → PartInvariant ms x g n e p → Ways p → Ways (act_alone p n o)
every ms x g n e p o l i wa =
    record {
      sent = λ k h. sent_kept ms g n k p o l (i.resets.unsent (p.invalidate_message k)) (wa.sent k) h;
      out = λ r ph h. out_kept ms g n r p o l (i.resets.unsent (p.request_message r)) (λ c m. i.resets.over c r (i.resets.up c m))
          (λ c d y f a b. i.requests.not_both d c y f b a) (wa.out r) ph h;
      response = λ y ph a h. response_kept ms g n y p o l (i.resets.unsent (p.response_message y)) (i.bounds.host_group y) (whole_of p i.lasts y)
          (λ c m. i.resets.finished c y (i.resets.up c m)) (wa.response y) ph a h;
    }

submitted_sent : (g b q count order cookie k : ℕ) (p : Endpoint) → Bounds g p
    → (p.order_state k ≡ Sent → p.message (p.invalidate_message k) ≡ Some (InvalidateOf k)) → (submitted p b q count order cookie).order_state k
    ≡ Sent → p.message (p.invalidate_message k) ≡ Some (InvalidateOf k)
submitted_sent g b q count order cookie k p bo old h = grind (arith, nat_tests)

submitted_ways : (g : ℕ) (t : Bool) (p : Endpoint) (o : Option ℕ) (q count order cookie : ℕ) → Bounds g p → Ways p
    → Ways (submitted_if t p o q count order cookie)
submitted_ways g true p (Some b) q count order cookie bo wa =
    record { sent = λ k h. submitted_sent g b q count order cookie k p bo (wa.sent k) h; out = wa.out; response = wa.response }
submitted_ways g true p None q count order cookie bo wa = wa
submitted_ways g false p o q count order cookie bo wa = wa

abbrev pub AllWays : World → Type 0
AllWays w = (e : ℕ) → Ways (w.part e)

act_ways : (w : World) (a : Act) → Legal w a → Invariant w → AllWays w → AllWays (act w a)
act_ways w NewSpace l i h = h
act_ways w (DropSpace s) l i h = h
act_ways w (Map s q f x) l i h = h
act_ways w (Unmap s q count order) l i h =
    λ e. submitted_ways w.bindings (submits w s e) (w.part e) (bound w e s) q count order (cookie_of w s e) (i.parts e).bounds (h e)
act_ways w (NewBinding e) l i h = h
act_ways w (NewJob e g) l i h = h
act_ways w (Hold x j) l i h = h
act_ways w (LetGo x) l i h = h
act_ways w (AtEndpoint e o) l i h =
    put_keeps (λ k p. Ways p) w.part e (act_alone (w.part e) w.messages o)
    (every w.mappings w.config.endpoints w.bindings w.messages e (w.part e) o l.1.0 (i.parts e) (h e)) h

acts_ways : (acts : List Act) (w : World) → LegalAll w acts → Invariant w → AllWays w → AllWays (after_acts w acts)
acts_ways [] w l i h = h
acts_ways (a ∷ acts) w l i h = acts_ways acts (act w a) l.1 (act_keeps w a l.0 i) (act_ways w a l.0 i h)

run_ways : (ss : List Step) (w : World) → Invariant w → AllWays w → AllWays (run w ss)
run_ways [] w i h = h
run_ways (s ∷ ss) w i h = run_ways ss (next w s) (next_keeps w s i) (acts_ways (decide w s).acts w (step_legal w s i) i h)

opened_ways : (rule : PasidRule) (c : Config) → AllWays (opened rule c)
opened_ways rule c e = record { sent = grind arith; out = grind arith; response = grind arith }

pub always_ways : (rule : PasidRule) (c : Config) (ss : List Step) (e : ℕ) → Ways ((world_after rule c ss).part e)
always_ways rule c ss = run_ways ss (opened rule c) (opened_invariant rule c) (opened_ways rule c)
