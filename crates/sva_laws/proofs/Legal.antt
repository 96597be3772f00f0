-- What a step has tested when an act is done, by names: a clause for each act.
use Rattle.std.proofs.Common.{◌≡◌, ℕ, suc, ◌<◌, ◌≤◌, ◌≢◌, ◌⊎◌, true, false}
use Rattle.std.specs.Prelude.{Option, Some, None}
use Rattle.sva_model.specs.Message.{Code}
use Rattle.sva_model.specs.Message.Message.{CompletionMessage}
use Rattle.sva_model.specs.State.{Mappings, Endpoint, Subject}
use Rattle.sva_model.specs.State.Stage.{Unbound, Live, Stopping, Draining, Invalidating, Quiet, Lost}
use Rattle.sva_model.specs.State.PasidState.{On, Ending}
use Rattle.sva_model.specs.State.RequestState.{Out}
use Rattle.sva_model.specs.State.UseState.{Running}
use Rattle.sva_model.specs.State.PageRequestState.{Arrived}
use Rattle.sva_model.specs.State.GroupState.{Collecting}
use Rattle.sva_model.specs.State.HostGroupState.{Job, InHand, InHandDiscarded}
use Rattle.sva_model.specs.State.OrderState.{Queued, Done}
use Rattle.sva_model.specs.State.Subject.{StartOf, StopOf, FunctionReset, CompletionOf, InvalidateOf, ResponseOf, RequestOf, InvalidatedOf, PageRequestOf}
use Rattle.sva_model.specs.State.Subject.{MarkerOf, ResetDone}
use Rattle.sva_model.specs.State.Phase.{Open}
use Rattle.sva_model.specs.States.{is_open, is_unreleased, is_before_invalidating, is_off, is_out, is_open_group, is_taken, is_busy, is_wait, drains}
use Rattle.sva_model.specs.States.{uses_noted, covers}
use Rattle.sva_model.specs.Acts.{LocalAct}
use Rattle.sva_model.specs.Acts.LocalAct.{Bind, Stop, Drain, Invalidate, Quieten, Release, Send, Pass, File, Reset, Hand, Respond, Discard, Ask, Begin, End}
use Rattle.sva_model.specs.Acts.LocalAct.{Evict, Group, Request, Finish, Quit, Start_arrives, Stop_arrives, Reset_arrives, Keep, Forget, Take, Answered}
use Rattle.sva_model.specs.Acts.LocalAct.{Complete, Count, Arrive, Miss, Mark, Ignore, Reopen}
use Rattle.sva_model.specs.Labels.{outstanding, queue_length}
use Rattle.sva_laws.specs.LabelLaws.{IsVectorOf}

-- no older message down that orders something
pub record NoOlderDown (p : Endpoint) (c : ℕ) : Type 0 where
  pub no_start : (d b : ℕ) → d < c → p.message d ≢ Some (StartOf b)
  pub no_stop : (d b : ℕ) → d < c → p.message d ≢ Some (StopOf b)
  pub no_reset : (d : ℕ) → d < c → p.message d ≢ Some FunctionReset
  pub no_invalidate : (d k : ℕ) → d < c → p.message d ≢ Some (InvalidateOf k)
  pub no_response : (d g : ℕ) (code : Code) → d < c → p.message d ≢ Some (ResponseOf g code)

-- no older page request
abbrev pub NoOlderPageRequest : Endpoint → ℕ → Type 0
NoOlderPageRequest p c = (d r : ℕ) → d < c → p.message d ≢ Some (PageRequestOf r)

-- a message that is let go changes nothing that counts
abbrev pub IsIdle : Endpoint → Subject → Type 0
IsIdle p (CompletionOf r found) = is_out (p.request r) ≡ false
IsIdle p (RequestOf r) = is_open p.phase ≡ false
IsIdle p (InvalidatedOf names) = is_open p.phase ≡ false
IsIdle p (MarkerOf b) = is_open p.phase ≡ false
IsIdle p _ = ⊥

-- g is the number of bindings
abbrev pub LegalLocalAct : Mappings → (g : ℕ) → Endpoint → LocalAct → Type 0
LegalLocalAct ms g p (Bind b s t) =
    (b < g) × (p.phase ≡ Open) × (p.stage b ≡ Unbound) × (p.at_pasid t ≡ None) × (0 < t) × (t ≤ 32)
    × ((d : ℕ) → is_unreleased (p.stage d) ≡ true → p.space d ≢ s)
LegalLocalAct ms g p (Stop b) = (p.phase ≡ Open) × (p.stage b ≡ Live)
LegalLocalAct ms g p (Drain b cookie) = (p.phase ≡ Open) × (p.stage b ≡ Stopping true) × (queue_length p < 64)
LegalLocalAct ms g p (Invalidate b cookie) =
    (p.phase ≡ Open) × ((w : ℕ) × (p.stage b ≡ Draining w) × (p.order_state w ≡ Done)) × (suc (queue_length p) < 64)
    × ((x : ℕ) → is_open_group (p.host_group x) ≡ true → p.filed_under x ≢ b)
LegalLocalAct ms g p (Quieten b) =
    (p.stage b ≡ Lost) ⊎ ((k w : ℕ) × (p.phase ≡ Open) × (p.stage b ≡ Invalidating k w) × (p.order_state w ≡ Done))
LegalLocalAct ms g p (Release b) = p.stage b ≡ Quiet
LegalLocalAct ms g p (Send k t) = (p.phase ≡ Open) × (p.order_state k ≡ Queued) × (is_wait (p.order k) ≡ false) × (p.at_itag t ≡ None) × (t < 32)
LegalLocalAct ms g p (Pass k) =
    (p.phase ≡ Open) × (p.order_state k ≡ Queued) × (is_wait (p.order k) ≡ true) × ((j : ℕ) → j < k → p.order_state j ≢ Queued)
    × ((j : ℕ) → is_busy (p.order_state j) ≡ false)
    × ((r : ℕ) → drains (p.order k) ≡ true → p.page_request r ≢ Arrived)
LegalLocalAct ms g p (File r) = (p.phase ≡ Open) × (p.page_request r ≡ Arrived) × ((x : ℕ) → p.page_request x ≡ Arrived → p.arrived_as r ≤ p.arrived_as x)
LegalLocalAct ms g p Reset = p.phase ≡ Open
LegalLocalAct ms g p (Hand x w) = p.host_group x ≡ Job
LegalLocalAct ms g p (Respond x code) = (p.phase ≡ Open) × ((w : ℕ) × ((p.host_group x ≡ InHand w) ⊎ (p.host_group x ≡ InHandDiscarded w)))
    × (is_before_invalidating (p.stage (p.filed_under x)) ≡ true)
LegalLocalAct ms g p (Discard x) =
    ((w : ℕ) × ((p.host_group x ≡ InHand w) ⊎ (p.host_group x ≡ InHandDiscarded w)))
    × (p.phase ≡ Open → is_before_invalidating (p.stage (p.filed_under x)) ≡ false)
LegalLocalAct ms g p (Ask b q t) = (p.pasid_state b ≡ On) × (p.at_tag t ≡ None) × (t < 32)
LegalLocalAct ms g p (Begin r m t) = (p.pasid_state (p.request_binding r) ≡ On) × (p.held r ≡ Some m) × (p.at_slot t ≡ None) × (t < 16)
LegalLocalAct ms g p (End u) = p.at_slot (p.use_slot u) ≡ Some u
LegalLocalAct ms g p (Evict r) = (m : ℕ) × (p.held r ≡ Some m)
LegalLocalAct ms g p (Group b i q r x l) = (p.pasid_state b ≡ On) × (p.at_index i ≡ None) × (i < 32) × (outstanding p < 32)
LegalLocalAct ms g p (Request y q r x l) = (p.group y ≡ Collecting) × (is_off (p.pasid_state (p.asker y)) ≡ false) × (outstanding p < 32)
LegalLocalAct ms g p (Finish names vector count) =
    ((k : ℕ) × (names k ≡ true))
    × ((k : ℕ) → names k ≡ true → is_taken (p.order_state k) ≡ true)
    × ((k u : ℕ) → names k ≡ true → u < uses_noted (p.order_state k) → p.use_state u ≡ Running
    → covers (p.order k) (p.use_binding u) (ms.page (p.use_mapping u)) ≡ false)
    × (0 < count) × (count ≤ 8) × IsVectorOf p names vector
LegalLocalAct ms g p (Quit b) =
    (p.pasid_state b ≡ Ending)
    × ((x : ℕ) → p.group x ≡ Collecting → p.asker x ≢ b)
    × ((r : ℕ) → is_out (p.request r) ≡ true → p.request_binding r ≢ b)
    × ((u : ℕ) → p.use_state u ≡ Running → p.use_binding u ≢ b)
LegalLocalAct ms g p (Start_arrives c b) = (p.message c ≡ Some (StartOf b)) × NoOlderDown p c
LegalLocalAct ms g p (Stop_arrives c b) = (p.message c ≡ Some (StopOf b)) × NoOlderDown p c
LegalLocalAct ms g p (Reset_arrives c) = (p.message c ≡ Some FunctionReset) × NoOlderDown p c
LegalLocalAct ms g p (Keep c r m) = (p.message c ≡ Some (CompletionOf r (Some m))) × (p.request r ≡ Out)
LegalLocalAct ms g p (Forget c r) = (found : Option ℕ) × (p.message c ≡ Some (CompletionOf r found)) × (is_out (p.request r) ≡ true)
LegalLocalAct ms g p (Take c k) = p.message c ≡ Some (InvalidateOf k)
LegalLocalAct ms g p (Answered c x code) = p.message c ≡ Some (ResponseOf x code)
LegalLocalAct ms g p (Complete c r None answer) = (p.message c ≡ Some (RequestOf r)) × (p.phase ≡ Open)
    × (answer ≡ CompletionMessage (p.request_tag r) 0 false false)
LegalLocalAct ms g p (Complete c r (Some m) answer) =
    (p.message c ≡ Some (RequestOf r)) × (p.phase ≡ Open) × (p.stage (p.request_binding r) ≡ Live)
    × (ms.at (p.space (p.request_binding r)) (p.request_page r) ≡ Some m)
    × (answer ≡ CompletionMessage (p.request_tag r) (ms.frame m) true (ms.write m))
LegalLocalAct ms g p (Count c names) = (p.message c ≡ Some (InvalidatedOf names)) × (p.phase ≡ Open)
LegalLocalAct ms g p (Arrive c r) = (p.message c ≡ Some (PageRequestOf r)) × (p.phase ≡ Open) × (p.is_last r ≡ true → NoOlderPageRequest p c)
LegalLocalAct ms g p (Miss c r) = (p.message c ≡ Some (PageRequestOf r)) × (is_open p.phase ≡ false)
LegalLocalAct ms g p (Mark c b) = (p.message c ≡ Some (MarkerOf b)) × (p.phase ≡ Open) × NoOlderPageRequest p c
LegalLocalAct ms g p (Ignore c) = (a : Subject) × (p.message c ≡ Some a) × IsIdle p a
LegalLocalAct ms g p (Reopen c) = (p.message c ≡ Some ResetDone) × ((d : ℕ) → d < c → p.message d ≡ None)
