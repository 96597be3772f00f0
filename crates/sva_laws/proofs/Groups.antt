-- A group of page requests stands at the host under the binding that asked, which is still Live, Stopping or Draining
-- while the host has it open; it has one response.
use Rattle.std.proofs.Common.{◌≡◌, ◌≢◌, inr, refl, ap, sym, ◌∙◌, ℕ, ◌<◌, ◌≤◌, Bool, true, false, arith}
use Rattle.std.specs.Prelude.{Some, None}
use Rattle.std.proofs.lemmas.Bool.Decides.{nat_tests}
use Rattle.sva_model.specs.Message.{Code}
use Rattle.sva_model.specs.State.{Mappings, Endpoint, Stage, GroupState, HostGroupState}
use Rattle.sva_model.specs.State.Stage.{Unbound, Draining}
use Rattle.sva_model.specs.State.PasidState.{Off}
use Rattle.sva_model.specs.State.PageRequestState.{Arrived, Filed}
use Rattle.sva_model.specs.State.GroupState.{Collecting, Awaiting, Closed}
use Rattle.sva_model.specs.State.HostGroupState.{NotFiled, InHand, Replied, InHandDiscarded}
use Rattle.sva_model.specs.State.OrderState.{Done}
use Rattle.sva_model.specs.State.Subject.{FunctionReset, PageRequestOf, ResponseOf, MarkerOf, ResetDone}
use Rattle.sva_model.specs.State.Phase.{Open, Cleared}
use Rattle.sva_model.specs.States.{is_outstanding, is_open, is_open_group, is_before_invalidating, is_off, drains}
use Rattle.sva_model.specs.Acts.{act_alone, LocalAct}
use Rattle.sva_laws.specs.UnderWay.{is_answerable}
use Rattle.sva_laws.proofs.Legal.{LegalLocalAct}
use Rattle.sva_laws.proofs.Resets.{Resets}
use Rattle.sva_laws.proofs.Bounds.{Bounds}
use Rattle.sva_laws.proofs.Bindings.{Bindings, is_unmarked}
use Rattle.sva_laws.proofs.Orders.{Orders, is_active, is_queued_or_done}
use Rattle.sva_laws.proofs.PageRequests.{Queued, Lasts, HasJob, is_whole}
use Rattle.sva_laws.proofs.PageRequests.{arrived_made as request_made}

abbrev pub is_filed_group : HostGroupState → Bool
is_filed_group NotFiled = false
is_filed_group _ = true

pub open_filed : (h : HostGroupState) → is_open_group h ≡ true → is_filed_group h ≡ true
open_filed h e = grind arith

abbrev pub is_alive_group : GroupState → Bool
is_alive_group Collecting = true
is_alive_group Awaiting = true
is_alive_group _ = false

abbrev pub times_replied : HostGroupState → ℕ
times_replied Replied = 1
times_replied _ = 0

pub record Groups (p : Endpoint) : Type 0 where
  pub index_bears : (i x : ℕ) → p.at_index i ≡ Some x → (p.index x ≡ i) × (is_outstanding (p.group x) ≡ true)
  pub bears_index : (x : ℕ) → is_outstanding (p.group x) ≡ true → p.at_index (p.index x) ≡ Some x
  pub index_low : (i x : ℕ) → p.at_index i ≡ Some x → i < 32
  pub first : (x : ℕ) → x < p.groups → (p.first_request x < p.page_requests) × (p.group_of (p.first_request x) ≡ x)
  pub asker_bound : (x : ℕ) → x < p.groups → p.stage (p.asker x) ≢ Unbound
  pub alive : (x : ℕ) → is_alive_group (p.group x) ≡ true → is_off (p.pasid_state (p.asker x)) ≡ false
  pub under : (x : ℕ) → is_filed_group (p.host_group x) ≡ true → p.filed_under x ≡ p.asker x
  pub filed : (r : ℕ) → p.page_request r ≡ Filed → (is_filed_group (p.host_group (p.group_of r)) ≡ true) × (r < p.page_requests)
  pub open_group : (x : ℕ) → p.phase ≡ Open → is_open_group (p.host_group x) ≡ true → (is_outstanding (p.group x) ≡ true)
      × (is_before_invalidating (p.stage (p.filed_under x)) ≡ true)
  pub discarded : (x w : ℕ) → p.phase ≡ Open → p.host_group x ≡ InHandDiscarded w → is_active (p.stage (p.filed_under x)) ≡ false
  pub discarded_over : (x w : ℕ) → p.phase ≡ Open → p.host_group x ≡ InHandDiscarded w → is_outstanding (p.group x) ≡ false
  pub responses : (x : ℕ) → p.responses x ≡ times_replied (p.host_group x)
  pub response : (c x : ℕ) (code : Code) → p.message c ≡ Some (ResponseOf x code) → (is_answerable (p.group x) ≡ true) × (p.host_group x ≡ Replied)
      × (p.response_message x ≡ c)
  -- the askers of page requests that are in flight or arrived
  pub flight_stage : (c r : ℕ) → p.phase ≡ Open → p.message c ≡ Some (PageRequestOf r) → is_unmarked (p.stage (p.asker (p.group_of r))) ≡ true
  pub marker_after : (c d b r : ℕ) → p.message c ≡ Some (MarkerOf b) → p.message d ≡ Some (PageRequestOf r) → p.asker (p.group_of r) ≡ b → d < c
  pub arrived_stage : (r : ℕ) → p.page_request r ≡ Arrived → is_before_invalidating (p.stage (p.asker (p.group_of r))) ≡ true
  pub arrived_wait : (r w : ℕ) → p.page_request r ≡ Arrived → p.stage (p.asker (p.group_of r)) ≡ Draining w → p.order_state w ≢ Done

index_bears_kept : (ms : Mappings) (g n : ℕ) (p : Endpoint) (o : LocalAct) → LegalLocalAct ms g p o → (i x : ℕ)
    → (p.at_index i ≡ Some x → (p.index x ≡ i) × (is_outstanding (p.group x) ≡ true)) → (is_outstanding (p.group x) ≡ true → x < p.groups)
    → (act_alone p n o).at_index i ≡ Some x → ((act_alone p n o).index x ≡ i) × (is_outstanding ((act_alone p n o).group x) ≡ true)
index_bears_kept ms g n p o l i x old made h = grind (arith, nat_tests)

bears_index_kept : (ms : Mappings) (g n : ℕ) (p : Endpoint) (o : LocalAct) → LegalLocalAct ms g p o
    → ((c x : ℕ) (code : Code) → p.message c ≡ Some (ResponseOf x code) → is_outstanding (p.group x) ≡ true) → (x : ℕ)
    → ((i y : ℕ) → p.at_index i ≡ Some y → p.index y ≡ i) → ((y : ℕ) → is_outstanding (p.group y) ≡ true → p.at_index (p.index y) ≡ Some y)
    → (is_outstanding (p.group x) ≡ true → x < p.groups) → is_outstanding ((act_alone p n o).group x) ≡ true
    → (act_alone p n o).at_index ((act_alone p n o).index x) ≡ Some x
bears_index_kept ms g n p o l rs x ib old made h = grind (arith, nat_tests, old x)

index_low_kept : (ms : Mappings) (g n : ℕ) (p : Endpoint) (o : LocalAct) → LegalLocalAct ms g p o → (i x : ℕ) → (p.at_index i ≡ Some x → i < 32)
    → (act_alone p n o).at_index i ≡ Some x → i < 32
index_low_kept ms g n p o l i x old h = grind (arith, nat_tests)

first_kept : (ms : Mappings) (g n : ℕ) (p : Endpoint) (o : LocalAct) → LegalLocalAct ms g p o → (x : ℕ)
    → (x < p.groups → (p.first_request x < p.page_requests) × (p.group_of (p.first_request x) ≡ x)) → x < (act_alone p n o).groups
    → ((act_alone p n o).first_request x < (act_alone p n o).page_requests) × ((act_alone p n o).group_of ((act_alone p n o).first_request x) ≡ x)
first_kept ms g n p o l x old h = grind (arith, nat_tests)

asker_bound_kept : (ms : Mappings) (g n : ℕ) (p : Endpoint) (o : LocalAct) → LegalLocalAct ms g p o
    → ((b : ℕ) → is_off (p.pasid_state b) ≡ false → is_unmarked (p.stage b) ≡ true) → (x : ℕ) → (x < p.groups → p.stage (p.asker x) ≢ Unbound) → x
    < (act_alone p n o).groups → (act_alone p n o).stage ((act_alone p n o).asker x) ≢ Unbound
asker_bound_kept ms g n p o l on x old h = grind (arith, nat_tests)

alive_kept : (ms : Mappings) (g n : ℕ) (p : Endpoint) (o : LocalAct) → LegalLocalAct ms g p o → (x : ℕ) → (is_alive_group (p.group x) ≡ true → x < p.groups)
    → (is_alive_group (p.group x) ≡ true → is_off (p.pasid_state (p.asker x)) ≡ false) → is_alive_group ((act_alone p n o).group x) ≡ true
    → is_off ((act_alone p n o).pasid_state ((act_alone p n o).asker x)) ≡ false
alive_kept ms g n p o l x made old h = grind (arith, nat_tests)

under_kept : (ms : Mappings) (g n : ℕ) (p : Endpoint) (o : LocalAct) → LegalLocalAct ms g p o → (x : ℕ)
    → ((r : ℕ) → p.page_request r ≡ Arrived → p.group_of r < p.groups) → (is_filed_group (p.host_group x) ≡ true → x < p.groups)
    → (is_filed_group (p.host_group x) ≡ true → p.filed_under x ≡ p.asker x) → is_filed_group ((act_alone p n o).host_group x) ≡ true
    → (act_alone p n o).filed_under x ≡ (act_alone p n o).asker x
under_kept ms g n p o l x ar made old h = grind (arith, nat_tests)

filed_kept : (ms : Mappings) (g n : ℕ) (p : Endpoint) (o : LocalAct) → LegalLocalAct ms g p o → (r : ℕ) → (p.page_request r ≡ Arrived → r < p.page_requests)
    → (r < p.page_requests → p.group_of r < p.groups)
    → (p.page_request r ≡ Filed → (is_filed_group (p.host_group (p.group_of r)) ≡ true) × (r < p.page_requests)) → (act_alone p n o).page_request r ≡ Filed
    → (is_filed_group ((act_alone p n o).host_group ((act_alone p n o).group_of r)) ≡ true) × (r < (act_alone p n o).page_requests)
filed_kept ms g n p o l r ar bo old h = grind (arith, nat_tests)

responses_kept : (ms : Mappings) (g n : ℕ) (p : Endpoint) (o : LocalAct) → LegalLocalAct ms g p o → (x : ℕ)
    → (is_whole (p.host_group x) ≡ true → (r : ℕ) → p.group_of r ≡ x → p.page_request r ≢ Arrived) → p.responses x ≡ times_replied (p.host_group x)
    → (act_alone p n o).responses x ≡ times_replied ((act_alone p n o).host_group x)
responses_kept ms g n p o l x wh old = grind (arith, nat_tests)

flight_stage_kept : (ms : Mappings) (g n : ℕ) (p : Endpoint) (o : LocalAct) → LegalLocalAct ms g p o
    → ((b : ℕ) → is_off (p.pasid_state b) ≡ false → is_unmarked (p.stage b) ≡ true) → (c r : ℕ) → (n ≤ c → p.message c ≡ None)
    → (p.message c ≡ Some (PageRequestOf r) → r < p.page_requests) → (r < p.page_requests → p.group_of r < p.groups)
    → ((d b : ℕ) → p.message d ≡ Some (MarkerOf b) → p.message c ≡ Some (PageRequestOf r) → p.asker (p.group_of r) ≡ b → c < d)
    → ((d : ℕ) → p.message d ≡ Some ResetDone → p.message c ≡ Some (PageRequestOf r) → c < d)
    → (p.phase ≡ Open → p.message c ≡ Some (PageRequestOf r) → is_unmarked (p.stage (p.asker (p.group_of r))) ≡ true) → (act_alone p n o).phase ≡ Open
    → (act_alone p n o).message c ≡ Some (PageRequestOf r)
    → is_unmarked ((act_alone p n o).stage ((act_alone p n o).asker ((act_alone p n o).group_of r))) ≡ true
flight_stage_kept ms g n p o l on c r un made bo ma rd old h i = grind (arith, nat_tests)

marker_after_kept : (ms : Mappings) (g n : ℕ) (p : Endpoint) (o : LocalAct) → LegalLocalAct ms g p o → (c d b r : ℕ) → (n ≤ c → p.message c ≡ None)
    → (n ≤ d → p.message d ≡ None) → (p.message d ≡ Some (PageRequestOf r) → r < p.page_requests) → (r < p.page_requests → p.group_of r < p.groups)
    → (p.message c ≡ Some (MarkerOf b) → p.pasid_state b ≡ Off)
    → (p.message c ≡ Some (MarkerOf b) → p.message d ≡ Some (PageRequestOf r) → p.asker (p.group_of r) ≡ b → d < c) → (act_alone p n o).message c
    ≡ Some (MarkerOf b) → (act_alone p n o).message d ≡ Some (PageRequestOf r) → (act_alone p n o).asker ((act_alone p n o).group_of r) ≡ b → d < c
marker_after_kept ms g n p o l c d b r uc ud made bo off old h i e = grind (arith, nat_tests)

arrived_stage_kept : (ms : Mappings) (g n : ℕ) (p : Endpoint) (o : LocalAct) → LegalLocalAct ms g p o → (r : ℕ)
    → ((c : ℕ) → p.phase ≡ Open → p.message c ≡ Some (PageRequestOf r) → is_unmarked (p.stage (p.asker (p.group_of r))) ≡ true)
    → (p.page_request r ≡ Arrived → r < p.page_requests) → ((c : ℕ) → p.message c ≡ Some (PageRequestOf r) → r < p.page_requests)
    → (r < p.page_requests → p.group_of r < p.groups) → ((c : ℕ) → p.message c ≡ Some ResetDone → p.page_request r ≢ Arrived)
    → (p.page_request r ≡ Arrived → is_before_invalidating (p.stage (p.asker (p.group_of r))) ≡ true)
    → ((w : ℕ) → p.page_request r ≡ Arrived → p.stage (p.asker (p.group_of r)) ≡ Draining w → p.order_state w ≢ Done) → (act_alone p n o).page_request r
    ≡ Arrived → is_before_invalidating ((act_alone p n o).stage ((act_alone p n o).asker ((act_alone p n o).group_of r))) ≡ true
arrived_stage_kept ms g n p o l r fl made mm bo rd old wt h = grind (arith, nat_tests)

arrived_wait_kept : (ms : Mappings) (g n : ℕ) (p : Endpoint) (o : LocalAct) → LegalLocalAct ms g p o → (r w : ℕ)
    → ((c : ℕ) → p.phase ≡ Open → p.message c ≡ Some (PageRequestOf r) → is_unmarked (p.stage (p.asker (p.group_of r))) ≡ true)
    → (p.page_request r ≡ Arrived → r < p.page_requests) → ((c : ℕ) → p.message c ≡ Some (PageRequestOf r) → r < p.page_requests)
    → (r < p.page_requests → p.group_of r < p.groups) → ((c : ℕ) → p.message c ≡ Some ResetDone → p.page_request r ≢ Arrived)
    → (p.stage (p.asker (p.group_of r)) ≡ Draining w → (drains (p.order w) ≡ true) × (w < p.orders)
    × (p.phase ≡ Open → is_queued_or_done (p.order_state w) ≡ true))
    → (p.page_request r ≡ Arrived → p.stage (p.asker (p.group_of r)) ≡ Draining w → p.order_state w ≢ Done) → (act_alone p n o).page_request r ≡ Arrived
    → (act_alone p n o).stage ((act_alone p n o).asker ((act_alone p n o).group_of r)) ≡ Draining w → (act_alone p n o).order_state w ≢ Done
arrived_wait_kept ms g n p o l r w fl made mm bo rd dr old h i = grind (arith, nat_tests)

open_group_kept : (ms : Mappings) (g n : ℕ) (p : Endpoint) (o : LocalAct) → LegalLocalAct ms g p o
    → ((c x : ℕ) (code : Code) → p.message c ≡ Some (ResponseOf x code) → p.host_group x ≡ Replied)
    → ((r : ℕ) → p.phase ≡ Open → p.page_request r ≡ Arrived → (is_outstanding (p.group (p.group_of r)) ≡ true)
    × (is_before_invalidating (p.stage (p.asker (p.group_of r))) ≡ true)) → ((c : ℕ) → p.message c ≡ Some ResetDone → is_open p.phase ≡ false)
    → (x : ℕ) → (is_open p.phase ≡ false → is_open_group (p.host_group x) ≡ false) → (is_open_group (p.host_group x) ≡ true → x < p.groups)
    → (p.phase ≡ Open → is_open_group (p.host_group x) ≡ true → (is_outstanding (p.group x) ≡ true)
    × (is_before_invalidating (p.stage (p.filed_under x)) ≡ true)) → (act_alone p n o).phase ≡ Open → is_open_group ((act_alone p n o).host_group x) ≡ true
    → (is_outstanding ((act_alone p n o).group x) ≡ true) × (is_before_invalidating ((act_alone p n o).stage ((act_alone p n o).filed_under x)) ≡ true)
open_group_kept ms g n p o l rs ar cl x uf made old h i = grind (arith, nat_tests)

discarded_kept : (ms : Mappings) (g n : ℕ) (p : Endpoint) (o : LocalAct) → LegalLocalAct ms g p o → (x w : ℕ)
    → (p.host_group x ≡ InHandDiscarded w → p.stage (p.filed_under x) ≢ Unbound)
    → (is_whole (p.host_group x) ≡ true → (r : ℕ) → p.group_of r ≡ x → p.page_request r ≢ Arrived)
    → (p.phase ≡ Open → p.host_group x ≡ InHandDiscarded w → is_active (p.stage (p.filed_under x)) ≡ false) → (act_alone p n o).phase ≡ Open
    → (act_alone p n o).host_group x ≡ InHandDiscarded w → is_active ((act_alone p n o).stage ((act_alone p n o).filed_under x)) ≡ false
discarded_kept ms g n p o l x w bound wh old h i = grind (arith, nat_tests)

response_kept : (ms : Mappings) (g n : ℕ) (p : Endpoint) (o : LocalAct) → LegalLocalAct ms g p o → (c x : ℕ) (code : Code) → (n ≤ c → p.message c ≡ None)
    → (p.message c ≡ Some (ResponseOf x code) → x < p.groups) → ((r : ℕ) → p.host_group (p.group_of r) ≡ Replied → p.page_request r ≢ Arrived)
    → ((w : ℕ) → p.phase ≡ Open → p.host_group x ≡ InHand w → is_answerable (p.group x) ≡ true)
    → ((w : ℕ) → p.phase ≡ Open → p.host_group x ≡ InHandDiscarded w → is_before_invalidating (p.stage (p.filed_under x)) ≡ false)
    → ((d : ℕ) → p.message d ≡ Some FunctionReset → p.message c ≡ Some (ResponseOf x code) → c < d)
    → ((d : ℕ) (code' : Code) → p.message d ≡ Some (ResponseOf x code') → p.response_message x ≡ d)
    → (p.message c ≡ Some (ResponseOf x code) → (is_answerable (p.group x) ≡ true) × (p.host_group x ≡ Replied) × (p.response_message x ≡ c))
    → (act_alone p n o).message c ≡ Some (ResponseOf x code) → (is_answerable ((act_alone p n o).group x) ≡ true) × ((act_alone p n o).host_group x ≡ Replied)
    × ((act_alone p n o).response_message x ≡ c)
response_kept ms g n p o l c x code un made wh ih hj rd on old h = grind (arith, nat_tests)

-- what the others say, in the words of the clauses above

unmarked_on : (p : Endpoint) → Bindings p → (b : ℕ) → is_off (p.pasid_state b) ≡ false → is_unmarked (p.stage b) ≡ true
unmarked_on p bi b h = grind (arith, bi.on_stage b, bi.ending_stage b)

outstanding_made : (g : ℕ) (p : Endpoint) → Bounds g p → (x : ℕ) → is_outstanding (p.group x) ≡ true → x < p.groups
outstanding_made g p bo x h = grind (arith, bo.group x)

alive_made : (g : ℕ) (p : Endpoint) → Bounds g p → (x : ℕ) → is_alive_group (p.group x) ≡ true → x < p.groups
alive_made g p bo x h = grind (arith, bo.group x)

pub filed_made : (g : ℕ) (p : Endpoint) → Bounds g p → (x : ℕ) → is_filed_group (p.host_group x) ≡ true → x < p.groups
filed_made g p bo x h = grind (arith, bo.host_group x)

open_made : (g : ℕ) (p : Endpoint) → Bounds g p → (x : ℕ) → is_open_group (p.host_group x) ≡ true → x < p.groups
open_made g p bo x h = grind (arith, bo.host_group x)

pub answerable_outstanding : (s : GroupState) → is_answerable s ≡ true → is_outstanding s ≡ true
answerable_outstanding s h = grind arith

-- of a group that is whole, no request is still to be filed
pub whole_filed : (g : ℕ) (p : Endpoint) → Bounds g p → Lasts p → (x : ℕ) → is_whole (p.host_group x) ≡ true → (r : ℕ) → p.group_of r ≡ x
    → p.page_request r ≢ Arrived
whole_filed g p bo la x h r e a =
    let w : is_whole (p.host_group (p.group_of r)) ≡ true = ap (λ y. is_whole (p.host_group y)) e ∙ h in
    let f = la.whole r w (request_made g p bo r a) in
    absurd (cc)

replied_filed : (g : ℕ) (p : Endpoint) → Bounds g p → Lasts p → (r : ℕ) → p.host_group (p.group_of r) ≡ Replied → p.page_request r ≢ Arrived
replied_filed g p bo la r h = whole_filed g p bo la (p.group_of r) (ap is_whole h) r refl

-- the group of a job in hand awaits its response
in_hand_answerable : (p : Endpoint) → Lasts p → Groups p → (x w : ℕ) → p.phase ≡ Open → p.host_group x ≡ InHand w → is_answerable (p.group x) ≡ true
in_hand_answerable p la gr x w ph h =
    let u = la.whole_group x (ap is_whole h) in
    let o = gr.open_group x ph (ap is_open_group h) in
    grind (arith)

pub not_active : (s : Stage) → is_active s ≡ false → is_before_invalidating s ≡ false
not_active s h = grind arith

pub has_job : (p : Endpoint) → Groups p → HasJob p
has_job p gr x w ph h = not_active (p.stage (p.filed_under x)) (gr.discarded x w ph h)

pub response_whole : (p : Endpoint) → Groups p → (c x : ℕ) (code : Code) → p.message c ≡ Some (ResponseOf x code) → is_whole (p.host_group x) ≡ true
response_whole p gr c x code h = ap is_whole (gr.response c x code h).1

discarded_bound : (g : ℕ) (p : Endpoint) → Bounds g p → Groups p → (x w : ℕ) → p.host_group x ≡ InHandDiscarded w → p.stage (p.filed_under x) ≢ Unbound
discarded_bound g p bo gr x w h u =
    let f : is_filed_group (p.host_group x) ≡ true = ap is_filed_group h in
    gr.asker_bound x (filed_made g p bo x f) (ap p.stage (sym (gr.under x f)) ∙ u)

reset_closed : (n : ℕ) (p : Endpoint) → Resets n p → (c : ℕ) → p.message c ≡ Some ResetDone → is_open p.phase ≡ false
reset_closed n p re c h = ap is_open (re.up c h)

response_older : (n : ℕ) (p : Endpoint) → Resets n p → (c x : ℕ) (code : Code) (d : ℕ) → p.message d ≡ Some FunctionReset → p.message c
    ≡ Some (ResponseOf x code) → c < d
response_older n p re c x code d h i = re.response_before d c x code (re.down d h) i

flight_older : (n : ℕ) (p : Endpoint) → Resets n p → (c r d : ℕ) → p.message d ≡ Some ResetDone → p.message c ≡ Some (PageRequestOf r) → c < d
flight_older n p re c r d h i = let o = re.older d c (PageRequestOf r) (re.up d h) i in not_same c d o (λ e. absurd (cc))
  where
    not_same : (c d : ℕ) → c ≤ d → c ≢ d → c < d
    not_same c d a b = omega arith

none_arrived : (n : ℕ) (p : Endpoint) → Resets n p → (r c : ℕ) → p.message c ≡ Some ResetDone → p.page_request r ≢ Arrived
none_arrived n p re r c h = re.unarrived r (reset_closed n p re c h)

arrived_group : (p : Endpoint) → Lasts p → Groups p → (r : ℕ) → p.phase ≡ Open → p.page_request r ≡ Arrived
    → (is_outstanding (p.group (p.group_of r)) ≡ true) × (is_before_invalidating (p.stage (p.asker (p.group_of r))) ≡ true)
arrived_group p la gr r ph h = (la.out r ph (inr h), gr.arrived_stage r h)

drain_order : (p : Endpoint) → Orders p → (b w : ℕ) → p.stage b ≡ Draining w → (drains (p.order w) ≡ true) × (w < p.orders)
    × (p.phase ≡ Open → is_queued_or_done (p.order_state w) ≡ true)
drain_order p or b w h = let d = or.draining b w h in (d.0, d.1, or.draining_state b w h)

discarded_over_kept : (ms : Mappings) (g n : ℕ) (p : Endpoint) (o : LocalAct) → LegalLocalAct ms g p o → (x w : ℕ)
    → ((c : ℕ) → p.message c ≡ Some ResetDone → p.phase ≡ Cleared c) → ((c y : ℕ) → p.phase ≡ Cleared c → p.group y ≡ Closed)
    → (p.host_group x ≡ InHandDiscarded w → x < p.groups)
    → (p.phase ≡ Open → p.host_group x ≡ InHandDiscarded w → is_outstanding (p.group x) ≡ false) → (act_alone p n o).phase ≡ Open
    → (act_alone p n o).host_group x ≡ InHandDiscarded w → is_outstanding ((act_alone p n o).group x) ≡ false
discarded_over_kept ms g n p o l x w up fin made old h i = grind (arith, nat_tests)

discarded_made : (g : ℕ) (p : Endpoint) → Bounds g p → (x w : ℕ) → p.host_group x ≡ InHandDiscarded w → x < p.groups
discarded_made g p bo x w h = grind (arith, bo.host_group x)

pub every : (ms : Mappings) (g n : ℕ) (p : Endpoint) (o : LocalAct) → LegalLocalAct ms g p o → Resets n p → Bounds g p → Bindings p → Orders p → Queued p
    → Lasts p
    → Groups p → Groups (act_alone p n o)
every ms g n p o l re bo bi or qu la gr =
    record {
      index_bears = λ i x h. index_bears_kept ms g n p o l i x (gr.index_bears i x) (outstanding_made g p bo x) h;
      bears_index = λ x h. bears_index_kept ms g n p o l (λ c y code k. answerable_outstanding (p.group y) (gr.response c y code k).0) x
          (λ i y k. (gr.index_bears i y k).0) gr.bears_index (outstanding_made g p bo x) h;
      index_low = λ i x h. index_low_kept ms g n p o l i x (gr.index_low i x) h;
      first = λ x h. first_kept ms g n p o l x (gr.first x) h;
      asker_bound = λ x h. asker_bound_kept ms g n p o l (unmarked_on p bi) x (gr.asker_bound x) h;
      alive = λ x h. alive_kept ms g n p o l x (alive_made g p bo x) (gr.alive x) h;
      under = λ x h. under_kept ms g n p o l x (λ r a. bo.group_of r (request_made g p bo r a)) (filed_made g p bo x) (gr.under x) h;
      filed = λ r h. filed_kept ms g n p o l r (request_made g p bo r) (bo.group_of r) (gr.filed r) h;
      open_group = λ x h i. open_group_kept ms g n p o l (λ c y code k. (gr.response c y code k).1) (arrived_group p la gr) (reset_closed n p re) x
          (re.unfiled x) (open_made g p bo x) (gr.open_group x) h i;
      discarded = λ x w h i. discarded_kept ms g n p o l x w (discarded_bound g p bo gr x w) (whole_filed g p bo la x) (gr.discarded x w) h i;
      discarded_over = λ x w h i. discarded_over_kept ms g n p o l x w re.up re.finished (discarded_made g p bo x w) (gr.discarded_over x w) h i;
      responses = λ x. responses_kept ms g n p o l x (whole_filed g p bo la x) (gr.responses x);
      response = λ c x code h. response_kept ms g n p o l c x code (re.unsent c) (bo.responded c x code) (replied_filed g p bo la)
          (in_hand_answerable p la gr x) (has_job p gr x) (response_older n p re c x code) (λ d z k. (gr.response d x z k).2) (gr.response c x code) h;
      flight_stage = λ c r h i. flight_stage_kept ms g n p o l (unmarked_on p bi) c r (re.unsent c) (bo.requested c r) (bo.group_of r)
          (λ d b. gr.marker_after d c b r) (flight_older n p re c r) (gr.flight_stage c r) h i;
      marker_after = λ c d b r h i e. marker_after_kept ms g n p o l c d b r (re.unsent c) (re.unsent d) (bo.requested d r) (bo.group_of r)
          (bi.marker_off c b) (gr.marker_after c d b r) h i e;
      arrived_stage = λ r h. arrived_stage_kept ms g n p o l r (λ c. gr.flight_stage c r) (request_made g p bo r) (λ c. bo.requested c r)
          (bo.group_of r) (none_arrived n p re r) (gr.arrived_stage r) (gr.arrived_wait r) h;
      arrived_wait = λ r w h i. arrived_wait_kept ms g n p o l r w (λ c. gr.flight_stage c r) (request_made g p bo r) (λ c. bo.requested c r)
          (bo.group_of r) (none_arrived n p re r) (drain_order p or (p.asker (p.group_of r)) w) (gr.arrived_wait r w) h i;
    }
