-- A label's row names the one record that bears it, and each record that bears one is named.
use Rattle.std.proofs.Common.{◌≡◌, ℕ, ◌<◌, ◌≤◌, Bool, true, false, arith}
use Rattle.std.specs.Prelude.{Some}
use Rattle.std.proofs.lemmas.Bool.Decides.{nat_tests}
use Rattle.sva_model.specs.State.{Mappings, Endpoint, UseState}
use Rattle.sva_model.specs.State.UseState.{Ended}
use Rattle.sva_model.specs.State.Subject.{InvalidateOf}
use Rattle.sva_model.specs.State.OrderState.{Sent}
use Rattle.sva_model.specs.States.{is_unreleased, is_out, is_busy, is_running}
use Rattle.sva_model.specs.Acts.{act_alone, LocalAct}
use Rattle.sva_laws.proofs.Legal.{LegalLocalAct}
use Rattle.sva_laws.proofs.Resets.{Resets}
use Rattle.sva_laws.proofs.Bounds.{Bounds}

abbrev pub has_slot : UseState → Bool
has_slot Ended = false
has_slot _ = true

pub running_slot : (s : UseState) → is_running s ≡ true → has_slot s ≡ true
running_slot s h = grind arith

pub record Labels (p : Endpoint) : Type 0 where
  pub pasid_bears : (t b : ℕ) → p.at_pasid t ≡ Some b → (p.pasid b ≡ t) × (is_unreleased (p.stage b) ≡ true)
  pub bears_pasid : (b : ℕ) → is_unreleased (p.stage b) ≡ true → p.at_pasid (p.pasid b) ≡ Some b
  pub pasid_low : (t b : ℕ) → p.at_pasid t ≡ Some b → (0 < t) × (t ≤ 32)
  pub one_space : (b d : ℕ) → is_unreleased (p.stage b) ≡ true → is_unreleased (p.stage d) ≡ true → p.space b ≡ p.space d → b ≡ d
  pub tag_bears : (t r : ℕ) → p.at_tag t ≡ Some r → (p.request_tag r ≡ t) × (is_out (p.request r) ≡ true)
  pub bears_tag : (r : ℕ) → is_out (p.request r) ≡ true → p.at_tag (p.request_tag r) ≡ Some r
  pub tag_low : (t r : ℕ) → p.at_tag t ≡ Some r → t < 32
  pub slot_bears : (t u : ℕ) → p.at_slot t ≡ Some u → (p.use_slot u ≡ t) × (has_slot (p.use_state u) ≡ true)
  pub bears_slot : (u : ℕ) → has_slot (p.use_state u) ≡ true → p.at_slot (p.use_slot u) ≡ Some u
  pub slot_low : (t u : ℕ) → p.at_slot t ≡ Some u → t < 16
  pub itag_bears : (t k : ℕ) → p.at_itag t ≡ Some k → (p.itag k ≡ t) × (is_busy (p.order_state k) ≡ true)
  pub bears_itag : (k : ℕ) → is_busy (p.order_state k) ≡ true → p.at_itag (p.itag k) ≡ Some k
  pub itag_low : (t k : ℕ) → p.at_itag t ≡ Some k → t < 32
  -- an invalidate in flight is of an order that was sent and not yet taken
  pub sent : (c k : ℕ) → p.message c ≡ Some (InvalidateOf k) → p.order_state k ≡ Sent
  pub sent_once : (c d k : ℕ) → p.message c ≡ Some (InvalidateOf k) → p.message d ≡ Some (InvalidateOf k) → c ≡ d

pub every : (ms : Mappings) (g n : ℕ) (p : Endpoint) (o : LocalAct) → LegalLocalAct ms g p o → Resets n p → Bounds g p → Labels p → Labels (act_alone p n o)
every ms g n p o l re bo la =
    record {
      pasid_bears = λ t b h. grind (arith, nat_tests, la.pasid_bears t b);
      bears_pasid = λ b h. grind (arith, nat_tests, la.bears_pasid b);
      pasid_low = λ t b h. grind (arith, nat_tests, la.pasid_low t b);
      one_space = λ b d h i e. grind (arith, nat_tests, la.one_space b d);
      tag_bears = λ t r h. grind (arith, nat_tests, la.tag_bears t r);
      bears_tag = λ r h. grind (arith, nat_tests, la.bears_tag r, la.tag_bears);
      tag_low = λ t r h. grind (arith, nat_tests, la.tag_low t r);
      slot_bears = λ t u h. grind (arith, nat_tests, la.slot_bears t u);
      bears_slot = λ u h. grind (arith, nat_tests, la.bears_slot u);
      slot_low = λ t u h. grind (arith, nat_tests, la.slot_low t u);
      itag_bears = λ t k h. grind (arith, nat_tests, la.itag_bears t k, la.sent);
      bears_itag = λ k h. grind (arith, nat_tests, la.bears_itag k, la.sent);
      itag_low = λ t k h. grind (arith, nat_tests, la.itag_low t k);
      sent = λ c k h. grind (arith, nat_tests, la.sent c k, la.sent_once c, re.older, re.up, re.unsent c, bo.sent c k);
      sent_once = λ c d k h i. grind (arith, nat_tests, la.sent_once c d k, la.sent c k, la.sent d k, re.unsent c, re.unsent d);
    }
