-- A reset is one message on its way, down and then up, and the unit is in reset as long. While the reset-done is on its
-- way, the endpoint keeps and sends nothing, so nothing is in flight behind it when it arrives.
use Rattle.std.proofs.Common.{◌≡◌, ◌≢◌, ap, sym, ◌∙◌, ℕ, ◌+◌, ◌<◌, ◌≤◌, arith, true, false}
use Rattle.std.specs.Prelude.{Some, None}
use Rattle.std.proofs.lemmas.Bool.Decides.{nat_tests}
use Rattle.sva_model.specs.Message.{Code}
use Rattle.sva_model.specs.State.{Mappings, Endpoint, Subject}
use Rattle.sva_model.specs.State.PasidState.{Off}
use Rattle.sva_model.specs.State.UseState.{Running}
use Rattle.sva_model.specs.State.PageRequestState.{Arrived}
use Rattle.sva_model.specs.State.GroupState.{Closed}
use Rattle.sva_model.specs.State.OrderState.{Lapsed, Queued}
use Rattle.sva_model.specs.State.Subject.{StartOf, StopOf, FunctionReset, InvalidateOf, ResponseOf, ResetDone}
use Rattle.sva_model.specs.State.Phase.{Open, ResetSent, Cleared}
use Rattle.sva_model.specs.States.{is_open, is_out, is_taken, is_open_group}
use Rattle.sva_model.specs.Acts.{act_alone, sends, LocalAct}
use Rattle.sva_laws.proofs.Legal.{LegalLocalAct}

pub open_is : (p : Endpoint) → is_open p.phase ≡ true → p.phase ≡ Open
open_is p h = grind arith

pub closed_is : (p : Endpoint) → is_open p.phase ≡ false → p.phase ≢ Open
closed_is p h e = absurd (cc (sym (ap is_open e) ∙ h))

pub record Resets (n : ℕ) (p : Endpoint) : Type 0 where
  pub unsent : (c : ℕ) → n ≤ c → p.message c ≡ None
  -- the one message of the reset
  pub down : (c : ℕ) → p.message c ≡ Some FunctionReset → p.phase ≡ ResetSent c
  pub up : (c : ℕ) → p.message c ≡ Some ResetDone → p.phase ≡ Cleared c
  pub ordered : (c : ℕ) → p.phase ≡ ResetSent c → p.message c ≡ Some FunctionReset
  pub cleared : (c : ℕ) → p.phase ≡ Cleared c → p.message c ≡ Some ResetDone
  -- what stands behind it
  pub start_before : (c d b : ℕ) → p.phase ≡ ResetSent c → p.message d ≡ Some (StartOf b) → d < c
  pub stop_before : (c d b : ℕ) → p.phase ≡ ResetSent c → p.message d ≡ Some (StopOf b) → d < c
  pub invalidate_before : (c d k : ℕ) → p.phase ≡ ResetSent c → p.message d ≡ Some (InvalidateOf k) → d < c
  pub response_before : (c d g : ℕ) (code : Code) → p.phase ≡ ResetSent c → p.message d ≡ Some (ResponseOf g code) → d < c
  pub older : (c d : ℕ) (a : Subject) → p.phase ≡ Cleared c → p.message d ≡ Some a → d ≤ c
  pub no_start : (c d b : ℕ) → p.phase ≡ Cleared c → p.message d ≢ Some (StartOf b)
  pub no_stop : (c d b : ℕ) → p.phase ≡ Cleared c → p.message d ≢ Some (StopOf b)
  pub no_invalidate : (c d k : ℕ) → p.phase ≡ Cleared c → p.message d ≢ Some (InvalidateOf k)
  pub no_response : (c d g : ℕ) (code : Code) → p.phase ≡ Cleared c → p.message d ≢ Some (ResponseOf g code)
  -- what an endpoint that has reset itself keeps
  pub off : (c b : ℕ) → p.phase ≡ Cleared c → p.pasid_state b ≡ Off
  pub empty : (c r : ℕ) → p.phase ≡ Cleared c → p.held r ≡ None
  pub over : (c r : ℕ) → p.phase ≡ Cleared c → is_out (p.request r) ≡ false
  pub dead : (c u : ℕ) → p.phase ≡ Cleared c → p.use_state u ≢ Running
  pub finished : (c g : ℕ) → p.phase ≡ Cleared c → p.group g ≡ Closed
  pub untaken : (c k : ℕ) → p.phase ≡ Cleared c → is_taken (p.order_state k) ≡ false
  pub enabled : (c : ℕ) → p.phase ≡ Cleared c → p.is_disabled ≡ false
  pub lapsed : (k : ℕ) → p.order_state k ≡ Lapsed → is_open p.phase ≡ false
  -- what a unit in reset keeps
  pub unqueued : (k : ℕ) → is_open p.phase ≡ false → p.order_state k ≢ Queued
  pub unarrived : (r : ℕ) → is_open p.phase ≡ false → p.page_request r ≢ Arrived
  pub unfiled : (g : ℕ) → is_open p.phase ≡ false → is_open_group (p.host_group g) ≡ false

pub every : (ms : Mappings) (g n : ℕ) (p : Endpoint) (o : LocalAct) → LegalLocalAct ms g p o → Resets n p → Resets (n + sends o) (act_alone p n o)
every ms g n p o l re =
    record {
      unsent = λ c h. grind (arith, nat_tests, re.unsent c);
      down = λ c h. grind (arith, nat_tests, re.down c, re.unsent c);
      up = λ c h. grind (arith, nat_tests, re.up c, re.unsent c);
      ordered = λ c h. grind (arith, nat_tests, re.ordered c, re.unsent c);
      cleared = λ c h. grind (arith, nat_tests, re.cleared c, re.unsent c);
      start_before = λ c d b h i. grind (arith, nat_tests, re.start_before c d b, re.unsent d);
      stop_before = λ c d b h i. grind (arith, nat_tests, re.stop_before c d b, re.unsent d);
      invalidate_before = λ c d k h i. grind (arith, nat_tests, re.invalidate_before c d k, re.unsent d);
      response_before = λ c d x code h i. grind (arith, nat_tests, re.response_before c d x code, re.unsent d);
      older = λ c d a h i. grind (arith, nat_tests, re.older c d a, re.unsent d, re.untaken c);
      no_start = λ c d b h i. grind (arith, nat_tests, re.no_start c d b, re.unsent d, re.down, re.start_before);
      no_stop = λ c d b h i. grind (arith, nat_tests, re.no_stop c d b, re.unsent d, re.down, re.stop_before);
      no_invalidate = λ c d k h i. grind (arith, nat_tests, re.no_invalidate c d k, re.unsent d, re.down, re.invalidate_before);
      no_response = λ c d x code h i. grind (arith, nat_tests, re.no_response c d x code, re.unsent d, re.down, re.response_before);
      off = λ c b h. grind (arith, nat_tests, re.off c b, re.no_start c, re.no_stop c);
      empty = λ c r h. grind (arith, nat_tests, re.empty c r, re.over c r);
      over = λ c r h. grind (arith, nat_tests, re.over c r);
      dead = λ c u h. grind (arith, nat_tests, re.dead c u);
      finished = λ c x h. grind (arith, nat_tests, re.finished c x);
      untaken = λ c k h. grind (arith, nat_tests, re.untaken c k, re.no_invalidate c);
      enabled = λ c h. grind (arith, nat_tests, re.enabled c, re.no_response c);
      lapsed = λ k h. grind (arith, nat_tests, re.lapsed k);
      unqueued = λ k h. grind (arith, nat_tests, re.unqueued k);
      unarrived = λ r h. grind (arith, nat_tests, re.unarrived r);
      unfiled = λ x h. grind (arith, nat_tests, re.unfiled x);
    }
