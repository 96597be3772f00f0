-- A message in flight carries the labels of the records that it speaks of: what a record bears doesn't change while a
-- message speaks of it.
use Rattle.sva_model.specs.State.{PasidRule}
use Rattle.std.proofs.Common.{◌≡◌, ◌≢◌, ap, sym, ◌∙◌, ℕ, ◌<◌, Bool, true, false, arith}
use Rattle.std.specs.Prelude.{Option, Some, None, List, [], ◌∷◌}
use Rattle.std.proofs.lemmas.Bool.Decides.{nat_tests}
use Rattle.sva_step.specs.declared.limits.Config.{Config}
use Rattle.sva_step.specs.declared.steps.Step.{Step}
use Rattle.sva_model.specs.Words.{put}
use Rattle.sva_model.specs.Message.{Code}
use Rattle.sva_model.specs.Message.Message.{StartMessage, StopMessage, ResetMessage, CompletionMessage, InvalidateMessage, ResponseMessage, RequestMessage}
use Rattle.sva_model.specs.Message.Message.{PageRequestMessage, MarkerMessage, ResetDoneMessage}
use Rattle.sva_model.specs.State.{Mappings, Endpoint, World, Stage, opened}
use Rattle.sva_model.specs.State.Stage.{Unbound}
use Rattle.sva_model.specs.State.PageRequestState.{Arrived}
use Rattle.sva_model.specs.State.OrderState.{Sent}
use Rattle.sva_model.specs.State.Subject.{StartOf, StopOf, FunctionReset, CompletionOf, InvalidateOf, ResponseOf, RequestOf, PageRequestOf, MarkerOf, ResetDone}
use Rattle.sva_model.specs.Unmappings.{submitted, submitted_if, submits, bound, cookie_of}
use Rattle.sva_model.specs.StateChanges.{binding_of, extent_of, scope_of}
use Rattle.sva_model.specs.Acts.{Act, LocalAct, act, act_alone}
use Rattle.sva_model.specs.Acts.Act.{NewSpace, DropSpace, Map, Unmap, NewBinding, NewJob, Hold, LetGo, AtEndpoint}
use Rattle.sva_model.specs.Steps.{decide, next, run, after_acts, world_after}
use Rattle.sva_laws.specs.LabelLaws.{IsCarried}
use Rattle.sva_laws.proofs.Legal.{LegalLocalAct}
use Rattle.sva_laws.proofs.Bounds.{Bounds}
use Rattle.sva_laws.proofs.Bindings.{is_unmarked}
use Rattle.sva_laws.proofs.Orders.{is_active}
use Rattle.sva_laws.proofs.PageRequests.{is_whole}
use Rattle.sva_laws.proofs.Groups.{is_filed_group, whole_filed}
use Rattle.sva_laws.proofs.Found.{sent_undone, sent_busy}
use Rattle.sva_laws.proofs.Invariant.{PartInvariant, Invariant}
use Rattle.sva_laws.proofs.Completions.{Owed, AllOwed, act_owed, acts_owed, opened_owed}
use Rattle.sva_laws.proofs.Vectors.{owed_for_kept, owed_for_submitted}
use Rattle.sva_laws.proofs.Keeps.{Legal, act_keeps, put_keeps}
use Rattle.sva_laws.proofs.Passed.{LegalAll}
use Rattle.sva_laws.proofs.Runs.{step_legal, next_keeps, opened_invariant}

start_kept : (ms : Mappings) (g n : ℕ) (p : Endpoint) (o : LocalAct) → LegalLocalAct ms g p o → (c b : ℕ)
    → (p.message c ≡ Some (StartOf b) → p.stage b ≢ Unbound)
    → (p.message c ≡ Some (StartOf b) → p.carried c ≡ StartMessage (p.pasid b)) → (act_alone p n o).message c ≡ Some (StartOf b) → (act_alone p n o).carried c
    ≡ StartMessage ((act_alone p n o).pasid b)
start_kept ms g n p o l c b bound old h = grind (arith, nat_tests)

stop_kept : (ms : Mappings) (g n : ℕ) (p : Endpoint) (o : LocalAct) → LegalLocalAct ms g p o → (c b : ℕ) → (p.message c ≡ Some (StopOf b) → p.stage b ≢ Unbound)
    → (p.message c ≡ Some (StopOf b) → p.carried c ≡ StopMessage (p.pasid b)) → (act_alone p n o).message c ≡ Some (StopOf b) → (act_alone p n o).carried c
    ≡ StopMessage ((act_alone p n o).pasid b)
stop_kept ms g n p o l c b bound old h = grind (arith, nat_tests)

reset_kept : (ms : Mappings) (g n : ℕ) (p : Endpoint) (o : LocalAct) → LegalLocalAct ms g p o → (c : ℕ)
    → (p.message c ≡ Some FunctionReset → p.carried c ≡ ResetMessage) → (act_alone p n o).message c ≡ Some FunctionReset
    → (act_alone p n o).carried c ≡ ResetMessage
reset_kept ms g n p o l c old h = grind (arith, nat_tests)

reset_done_kept : (ms : Mappings) (g n : ℕ) (p : Endpoint) (o : LocalAct) → LegalLocalAct ms g p o → (c : ℕ)
    → (p.message c ≡ Some ResetDone → p.carried c ≡ ResetDoneMessage) → (act_alone p n o).message c ≡ Some ResetDone
    → (act_alone p n o).carried c ≡ ResetDoneMessage
reset_done_kept ms g n p o l c old h = grind (arith, nat_tests)

marker_kept : (ms : Mappings) (g n : ℕ) (p : Endpoint) (o : LocalAct) → LegalLocalAct ms g p o → (c b : ℕ)
    → (p.message c ≡ Some (MarkerOf b) → p.stage b ≢ Unbound) → (p.message c ≡ Some (MarkerOf b) → p.carried c ≡ MarkerMessage (p.pasid b))
    → (act_alone p n o).message c ≡ Some (MarkerOf b) → (act_alone p n o).carried c ≡ MarkerMessage ((act_alone p n o).pasid b)
marker_kept ms g n p o l c b bound old h = grind (arith, nat_tests)

invalidate_kept : (ms : Mappings) (g n : ℕ) (p : Endpoint) (o : LocalAct) → LegalLocalAct ms g p o → (c k : ℕ)
    → (p.message c ≡ Some (InvalidateOf k) → k < p.orders) → (p.message c ≡ Some (InvalidateOf k) → p.order_state k ≡ Sent)
    → (p.message c ≡ Some (InvalidateOf k) → p.stage (binding_of (p.order k)) ≢ Unbound)
    → (p.message c ≡ Some (InvalidateOf k) → p.carried c
    ≡ InvalidateMessage (p.itag k) (p.pasid (binding_of (p.order k))) (scope_of (extent_of (p.order k)))) → (act_alone p n o).message c
    ≡ Some (InvalidateOf k) → (act_alone p n o).carried c
    ≡ InvalidateMessage ((act_alone p n o).itag k) ((act_alone p n o).pasid (binding_of ((act_alone p n o).order k)))
    (scope_of (extent_of ((act_alone p n o).order k)))
invalidate_kept ms g n p o l c k made sent bound old h = grind (arith, nat_tests)

response_kept : (ms : Mappings) (g n : ℕ) (p : Endpoint) (o : LocalAct) → LegalLocalAct ms g p o → (c x : ℕ) (code : Code)
    → (p.message c ≡ Some (ResponseOf x code) → x < p.groups)
    → ((r : ℕ) → p.message c ≡ Some (ResponseOf x code) → p.group_of r ≡ x → p.page_request r ≢ Arrived)
    → (p.message c ≡ Some (ResponseOf x code) → p.stage (p.filed_under x) ≢ Unbound)
    → (p.message c ≡ Some (ResponseOf x code) → p.carried c ≡ ResponseMessage (p.pasid (p.filed_under x)) (p.index x) code) → (act_alone p n o).message c
    ≡ Some (ResponseOf x code)
    → (act_alone p n o).carried c ≡ ResponseMessage ((act_alone p n o).pasid ((act_alone p n o).filed_under x)) ((act_alone p n o).index x) code
response_kept ms g n p o l c x code made filed bound old h = grind (arith, nat_tests)

request_kept : (ms : Mappings) (g n : ℕ) (p : Endpoint) (o : LocalAct) → LegalLocalAct ms g p o → (c r : ℕ)
    → (p.message c ≡ Some (RequestOf r) → r < p.requests)
    → (p.message c ≡ Some (RequestOf r) → p.stage (p.request_binding r) ≢ Unbound)
    → (p.message c ≡ Some (RequestOf r) → p.carried c ≡ RequestMessage (p.request_tag r) (p.pasid (p.request_binding r)) (p.request_page r))
    → (act_alone p n o).message c ≡ Some (RequestOf r) → (act_alone p n o).carried c
    ≡ RequestMessage ((act_alone p n o).request_tag r) ((act_alone p n o).pasid ((act_alone p n o).request_binding r)) ((act_alone p n o).request_page r)
request_kept ms g n p o l c r made bound old h = grind (arith, nat_tests)

page_request_kept : (ms : Mappings) (g n : ℕ) (p : Endpoint) (o : LocalAct) → LegalLocalAct ms g p o → (c r : ℕ)
    → (p.message c ≡ Some (PageRequestOf r) → r < p.page_requests) → (r < p.page_requests → p.group_of r < p.groups)
    → (p.message c ≡ Some (PageRequestOf r) → p.stage (p.asker (p.group_of r)) ≢ Unbound)
    → (p.message c ≡ Some (PageRequestOf r) → p.carried c
    ≡ PageRequestMessage (p.pasid (p.asker (p.group_of r))) (p.index (p.group_of r)) (p.asked_page r) (p.asks_read r) (p.asks_write r) (p.is_last r))
    → (act_alone p n o).message c ≡ Some (PageRequestOf r) → (act_alone p n o).carried c
    ≡ PageRequestMessage ((act_alone p n o).pasid ((act_alone p n o).asker ((act_alone p n o).group_of r)))
    ((act_alone p n o).index ((act_alone p n o).group_of r))
    ((act_alone p n o).asked_page r) ((act_alone p n o).asks_read r) ((act_alone p n o).asks_write r) ((act_alone p n o).is_last r)
page_request_kept ms g n p o l c r made group bound old h = grind (arith, nat_tests)

-- a completion carries the frame and the write flag of the mapping that it found
completion_kept : (ms : Mappings) (g n : ℕ) (p : Endpoint) (o : LocalAct) → LegalLocalAct ms g p o → (c r m : ℕ)
    → (p.message c ≡ Some (CompletionOf r (Some m)) → r < p.requests) → ((d : ℕ) → p.message d ≡ Some (RequestOf r) → r < p.requests)
    → (p.message c ≡ Some (CompletionOf r (Some m)) → p.carried c ≡ CompletionMessage (p.request_tag r) (ms.frame m) true (ms.write m))
    → (act_alone p n o).message c ≡ Some (CompletionOf r (Some m)) → (act_alone p n o).carried c
    ≡ CompletionMessage ((act_alone p n o).request_tag r) (ms.frame m) true (ms.write m)
completion_kept ms g n p o l c r m made asked old h = grind (arith, nat_tests)

nothing_kept : (ms : Mappings) (g n : ℕ) (p : Endpoint) (o : LocalAct) → LegalLocalAct ms g p o → (c r : ℕ)
    → (p.message c ≡ Some (CompletionOf r None) → r < p.requests) → ((d : ℕ) → p.message d ≡ Some (RequestOf r) → r < p.requests)
    → (p.message c ≡ Some (CompletionOf r None) → p.carried c ≡ CompletionMessage (p.request_tag r) 0 false false) → (act_alone p n o).message c
    ≡ Some (CompletionOf r None) → (act_alone p n o).carried c ≡ CompletionMessage ((act_alone p n o).request_tag r) 0 false false
nothing_kept ms g n p o l c r made asked old h = grind (arith, nat_tests)

-- of whom a message speaks was bound

unmarked_bound : (s : Stage) → is_unmarked s ≡ true → s ≢ Unbound
unmarked_bound s h e = absurd (cc (sym (ap is_unmarked e) ∙ h))

active_bound : (s : Stage) → is_active s ≡ true → s ≢ Unbound
active_bound s h e = absurd (cc (sym (ap is_active e) ∙ h))

bound_as : (s t : Stage) → s ≡ t → t ≢ Unbound → s ≢ Unbound
bound_as s t e ne h = ne (sym e ∙ h)

pub every : (ms : Mappings) (x g n e : ℕ) (p : Endpoint) (o : LocalAct) → LegalLocalAct ms g p o → PartInvariant ms x g n e p → Owed n p → IsCarried ms p
    → IsCarried ms (act_alone p n o)
every ms x g n e p o l i ow ca =
    let bo = i.bounds in
    let bi = i.bindings in
    let gr = i.groups in
    record {
      start = λ c b h. start_kept ms g n p o l c b (λ k. unmarked_bound (p.stage b) (bi.start_stage c b k)) (ca.start c b) h;
      stop = λ c b h. stop_kept ms g n p o l c b (λ k. unmarked_bound (p.stage b) (ap is_unmarked (bi.stop_stage c b k))) (ca.stop c b) h;
      reset = λ c h. reset_kept ms g n p o l c (ca.reset c) h;
      completion = λ c r m h. completion_kept ms g n p o l c r m (bo.answered c r (Some m)) (λ d. bo.asked d r) (ca.completion c r m) h;
      no_translation = λ c r h. nothing_kept ms g n p o l c r (bo.answered c r None) (λ d. bo.asked d r) (ca.no_translation c r) h;
      invalidate = λ c k h. invalidate_kept ms g n p o l c k (bo.sent c k) (i.labels.sent c k) (λ m. order_bound k (i.labels.sent c k m))
          (ca.invalidate c k) h;
      response = λ c y code h. response_kept ms g n p o l c y code (bo.responded c y code)
          (λ r m f. whole_filed g p bo i.lasts y (ap is_whole (gr.response c y code m).1) r f) (λ m. group_bound c y code m) (ca.response c y code) h;
      request = λ c r h. request_kept ms g n p o l c r (bo.asked c r) (λ m. i.requests.bound r (bo.asked c r m)) (ca.request c r) h;
      invalidated = owed_for_kept ms g n p o l i.resets bo i.labels ow ca.invalidated;
      page_request = λ c r h. page_request_kept ms g n p o l c r (bo.requested c r) (bo.group_of r)
          (λ m. gr.asker_bound (p.group_of r) (bo.group_of r (bo.requested c r m))) (ca.page_request c r) h;
      marker = λ c b h. marker_kept ms g n p o l c b (λ k. unmarked_bound (p.stage b) (ap is_unmarked (bi.marker_stage c b k))) (ca.marker c b) h;
      reset_done = λ c h. reset_done_kept ms g n p o l c (ca.reset_done c) h;
    }
  where
    order_bound : (k : ℕ) → p.order_state k ≡ Sent → p.stage (binding_of (p.order k)) ≢ Unbound
    order_bound k s = active_bound (p.stage (binding_of (p.order k)))
        (i.orders.undone_stage k (sent_undone (p.order_state k) s) (i.orders.no_wait k (sent_busy (p.order_state k) s)))

    group_bound : (c y : ℕ) (code : Code) → p.message c ≡ Some (ResponseOf y code) → p.stage (p.filed_under y) ≢ Unbound
    group_bound c y code m =
        let f : is_filed_group (p.host_group y) ≡ true = ap is_filed_group (i.groups.response c y code m).1 in
        bound_as (p.stage (p.filed_under y)) (p.stage (p.asker y)) (ap p.stage (i.groups.under y f)) (i.groups.asker_bound y (i.bounds.responded c y code m))

-- a submission leaves the orders that were sent
submitted_invalidate : (g b q count order cookie c k : ℕ) (p : Endpoint) → (p.message c ≡ Some (InvalidateOf k) → k < p.orders)
    → (p.message c ≡ Some (InvalidateOf k) → p.carried c
    ≡ InvalidateMessage (p.itag k) (p.pasid (binding_of (p.order k))) (scope_of (extent_of (p.order k)))) → p.message c ≡ Some (InvalidateOf k)
    → p.carried c ≡ InvalidateMessage (p.itag k) (p.pasid (binding_of ((submitted p b q count order cookie).order k)))
    (scope_of (extent_of ((submitted p b q count order cookie).order k)))
submitted_invalidate g b q count order cookie c k p made old h = grind (arith, nat_tests)

submitted_carried : (ms : Mappings) (g : ℕ) (t : Bool) (p : Endpoint) (o : Option ℕ) (q count order cookie : ℕ) → Bounds g p → IsCarried ms p
    → IsCarried ms (submitted_if t p o q count order cookie)
submitted_carried ms g true p (Some b) q count order cookie bo ca =
    record {
      start = ca.start;
      stop = ca.stop;
      reset = ca.reset;
      completion = ca.completion;
      no_translation = ca.no_translation;
      invalidate = λ c k h. submitted_invalidate g b q count order cookie c k p (bo.sent c k) (ca.invalidate c k) h;
      response = ca.response;
      request = ca.request;
      invalidated = owed_for_submitted g b q count order cookie p bo ca.invalidated;
      page_request = ca.page_request;
      marker = ca.marker;
      reset_done = ca.reset_done;
    }
submitted_carried ms g true p None q count order cookie bo ca = ca
submitted_carried ms g false p o q count order cookie bo ca = ca

-- a mapping leads to the frame that it led to
with_mappings : (ms ns : Mappings) (p : Endpoint)
    → ((c r m : ℕ) → p.message c ≡ Some (CompletionOf r (Some m)) → p.carried c ≡ CompletionMessage (p.request_tag r) (ns.frame m) true (ns.write m))
    → IsCarried ms p → IsCarried ns p
with_mappings ms ns p done ca =
    record {
      start = ca.start;
      stop = ca.stop;
      reset = ca.reset;
      completion = done;
      no_translation = ca.no_translation;
      invalidate = ca.invalidate;
      response = ca.response;
      request = ca.request;
      invalidated = ca.invalidated;
      page_request = ca.page_request;
      marker = ca.marker;
      reset_done = ca.reset_done;
    }

mapped_completion : (p : Endpoint) (c r m made f : ℕ) (x : Bool) (frame : ℕ → ℕ) (write : ℕ → Bool)
    → (p.message c ≡ Some (CompletionOf r (Some m)) → m < made)
    → (p.message c ≡ Some (CompletionOf r (Some m)) → p.carried c ≡ CompletionMessage (p.request_tag r) (frame m) true (write m)) → p.message c
    ≡ Some (CompletionOf r (Some m)) → p.carried c ≡ CompletionMessage (p.request_tag r) (put frame made f m) true (put write made x m)
mapped_completion p c r m made f x frame write lt old h = grind (arith, nat_tests)

abbrev pub AllCarried : World → Type 0
AllCarried w = (e : ℕ) → IsCarried w.mappings (w.part e)

pub act_carried : (w : World) (a : Act) → Legal w a → Invariant w → AllOwed w → AllCarried w → AllCarried (act w a)
act_carried w NewSpace l i ow h = h
act_carried w (DropSpace s) l i ow h = λ e. with_mappings w.mappings (act w (DropSpace s)).mappings (w.part e) (h e).completion (h e)
act_carried w (Map s q f x) l i ow h =
    λ e.
    with_mappings w.mappings (act w (Map s q f x)).mappings (w.part e)
    (λ c r m k. mapped_completion (w.part e) c r m w.mappings.made f x w.mappings.frame w.mappings.write ((i.parts e).owners.flying_made c r m)
    ((h e).completion c r m) k)
    (h e)
act_carried w (Unmap s q count order) l i ow h =
    λ e.
    let ca = submitted_carried w.mappings w.bindings (submits w s e) (w.part e) (bound w e s) q count order (cookie_of w s e) (i.parts e).bounds (h e) in
    with_mappings w.mappings (act w (Unmap s q count order)).mappings ((act w (Unmap s q count order)).part e) ca.completion ca
act_carried w (NewBinding e) l i ow h = h
act_carried w (NewJob e g) l i ow h = h
act_carried w (Hold x j) l i ow h = h
act_carried w (LetGo x) l i ow h = h
act_carried w (AtEndpoint e o) l i ow h =
    put_keeps (λ k p. IsCarried w.mappings p) w.part e (act_alone (w.part e) w.messages o)
    (every w.mappings w.config.endpoints w.bindings w.messages e (w.part e) o l.1.0 (i.parts e) (ow e) (h e)) h

acts_carried : (acts : List Act) (w : World) → LegalAll w acts → Invariant w → AllOwed w → AllCarried w → AllCarried (after_acts w acts)
acts_carried [] w l i ow h = h
acts_carried (a ∷ acts) w l i ow h = acts_carried acts (act w a) l.1 (act_keeps w a l.0 i) (act_owed w a l.0 i ow) (act_carried w a l.0 i ow h)

run_carried : (ss : List Step) (w : World) → Invariant w → AllOwed w → AllCarried w → AllCarried (run w ss)
run_carried [] w i ow h = h
run_carried (s ∷ ss) w i ow h =
    run_carried ss (next w s) (next_keeps w s i) (acts_owed (decide w s).acts w (step_legal w s i) i ow)
    (acts_carried (decide w s).acts w (step_legal w s i) i ow h)

opened_carried : (rule : PasidRule) (c : Config) → AllCarried (opened rule c)
opened_carried rule c e =
    record {
      start = grind arith;
      stop = grind arith;
      reset = grind arith;
      completion = grind arith;
      no_translation = grind arith;
      invalidate = grind arith;
      response = grind arith;
      request = grind arith;
      invalidated = λ d names h. absurd (cc);
      page_request = grind arith;
      marker = grind arith;
      reset_done = grind arith;
    }

pub always_carried : (rule : PasidRule) (c : Config) (ss : List Step) (e : ℕ) → IsCarried (world_after rule c ss).mappings ((world_after rule c ss).part e)
always_carried rule c ss = run_carried ss (opened rule c) (opened_invariant rule c) (opened_owed rule c) (opened_carried rule c)
