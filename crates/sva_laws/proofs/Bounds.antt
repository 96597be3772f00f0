-- A record that isn't made yet is blank, and a message speaks of records that are made.
use Rattle.std.proofs.Common.{◌≡◌, ℕ, ◌<◌, ◌≤◌, arith}
use Rattle.std.specs.Prelude.{Option, Some, None}
use Rattle.std.proofs.lemmas.Bool.Decides.{nat_tests}
use Rattle.sva_model.specs.Message.{Code}
use Rattle.sva_model.specs.State.{Mappings, Endpoint}
use Rattle.sva_model.specs.State.Stage.{Unbound}
use Rattle.sva_model.specs.State.RequestState.{Over}
use Rattle.sva_model.specs.State.UseState.{Ended}
use Rattle.sva_model.specs.State.PageRequestState.{Dropped}
use Rattle.sva_model.specs.State.GroupState.{Closed}
use Rattle.sva_model.specs.State.HostGroupState.{NotFiled}
use Rattle.sva_model.specs.State.OrderState.{Void, Taken}
use Rattle.sva_model.specs.State.Subject.{CompletionOf, InvalidateOf, ResponseOf, RequestOf, PageRequestOf}
use Rattle.sva_model.specs.Acts.{act_alone, LocalAct}
use Rattle.sva_laws.proofs.Legal.{LegalLocalAct}
use Rattle.sva_laws.proofs.Resets.{Resets}

pub record Bounds (bindings : ℕ) (p : Endpoint) : Type 0 where
  pub stage : (b : ℕ) → bindings ≤ b → p.stage b ≡ Unbound
  pub request : (r : ℕ) → p.requests ≤ r → p.request r ≡ Over
  pub held : (r : ℕ) → p.requests ≤ r → p.held r ≡ None
  pub use_state : (u : ℕ) → p.uses ≤ u → p.use_state u ≡ Ended
  pub group : (g : ℕ) → p.groups ≤ g → p.group g ≡ Closed
  pub host_group : (g : ℕ) → p.groups ≤ g → p.host_group g ≡ NotFiled
  pub responses : (g : ℕ) → p.groups ≤ g → p.responses g ≡ 0
  pub page_request : (r : ℕ) → p.page_requests ≤ r → p.page_request r ≡ Dropped
  pub group_of : (r : ℕ) → r < p.page_requests → p.group_of r < p.groups
  pub order_state : (k : ℕ) → p.orders ≤ k → p.order_state k ≡ Void
  pub noted : (k n : ℕ) → p.order_state k ≡ Taken n → n ≤ p.uses
  pub asked : (c r : ℕ) → p.message c ≡ Some (RequestOf r) → r < p.requests
  pub answered : (c r : ℕ) (found : Option ℕ) → p.message c ≡ Some (CompletionOf r found) → r < p.requests
  pub sent : (c k : ℕ) → p.message c ≡ Some (InvalidateOf k) → k < p.orders
  pub requested : (c r : ℕ) → p.message c ≡ Some (PageRequestOf r) → r < p.page_requests
  pub responded : (c g : ℕ) (code : Code) → p.message c ≡ Some (ResponseOf g code) → g < p.groups

pub every : (ms : Mappings) (g n : ℕ) (p : Endpoint) (o : LocalAct) → LegalLocalAct ms g p o → Resets n p → Bounds g p → Bounds g (act_alone p n o)
every ms g n p o l re bo =
    record {
      stage = λ b h. grind (arith, nat_tests, bo.stage b);
      request = λ r h. grind (arith, nat_tests, bo.request r);
      held = λ r h. grind (arith, nat_tests, bo.held r);
      use_state = λ u h. grind (arith, nat_tests, bo.use_state u);
      group = λ x h. grind (arith, nat_tests, bo.group x);
      host_group = λ x h. grind (arith, nat_tests, bo.host_group x);
      responses = λ x h. grind (arith, nat_tests, bo.responses x);
      page_request = λ r h. grind (arith, nat_tests, bo.page_request r);
      group_of = λ r h. grind (arith, nat_tests, bo.group_of r);
      order_state = λ k h. grind (arith, nat_tests, bo.order_state k, bo.sent);
      noted = λ k m h. grind (arith, nat_tests, bo.noted k m);
      asked = λ c r h. grind (arith, nat_tests, bo.asked c r);
      answered = λ c r f h. grind (arith, nat_tests, bo.answered c r f);
      sent = λ c k h. grind (arith, nat_tests, bo.sent c k, bo.order_state k);
      requested = λ c r h. grind (arith, nat_tests, bo.requested c r);
      responded = λ c x code h. grind (arith, nat_tests, bo.responded c x code);
    }
