-- What an act of an endpoint leaves of its device is what the act's move leaves of what is kept of the device.
use Rattle.std.proofs.Common.{◌≡◌, refl, ap, sym, ◌∙◌, ℕ, ◌+◌, Bool, true, false}
use Rattle.std.specs.Prelude.{Option, Some, None, map}
use Rattle.sva_model.specs.Words.{count_below}
use Rattle.sva_model.specs.Message.{Message}
use Rattle.sva_model.specs.Message.Message.{StartMessage, StopMessage, ResetMessage, CompletionMessage, InvalidateMessage, ResponseMessage, RequestMessage}
use Rattle.sva_model.specs.Message.Message.{InvalidatedMessage, PageRequestMessage, MarkerMessage, ResetDoneMessage}
use Rattle.sva_model.specs.State.{Mappings, Endpoint, World}
use Rattle.sva_model.specs.State.PasidState.{Off, On, Ending}
use Rattle.sva_model.specs.States.{is_unreleased, is_off}
use Rattle.sva_model.specs.Unmappings.{bound, submits, submitted, submitted_if}
use Rattle.sva_model.specs.Acts.{Act, LocalAct, act, act_alone}
use Rattle.sva_model.specs.Acts.LocalAct.{Bind, Stop, Drain, Invalidate, Quieten, Release, Send, Pass, File, Reset, Hand, Respond, Discard, Ask, Begin, End}
use Rattle.sva_model.specs.Acts.LocalAct.{Evict, Group, Request, Finish, Quit, Start_arrives, Stop_arrives, Reset_arrives, Keep, Forget, Take, Answered}
use Rattle.sva_model.specs.Acts.LocalAct.{Complete, Count, Arrive, Miss, Mark, Ignore, Reopen}
use Rattle.sva_model.specs.Wire.{DeviceWire, device_wire}
use Rattle.sva_laws.proofs.Legal.{LegalLocalAct}
use Rattle.sva_laws.proofs.Bounds.{Bounds}
use Rattle.sva_laws.proofs.Bindings.{unmarked_unreleased}
use Rattle.sva_laws.proofs.Labels.{Labels}
use Rattle.sva_laws.proofs.Invariant.{PartInvariant}
use Rattle.sva_labels.specs.Moves.{stale_of}
use Rattle.sva_refinement.proofs.Named.{count_move, own_move}
use Rattle.sva_refinement.proofs.Kept.{device_moved}
use Rattle.sva_refinement.proofs.DevicePasids.{unreleased_unless, pasids_bound, pasids_released, pasids_put, pasids_cleared}
use Rattle.sva_refinement.proofs.DeviceTags.{tags_bound, tags_asked, tags_kept, tags_forgotten, tags_taken, tags_cleared}
use Rattle.sva_refinement.proofs.DeviceCache.{cache_bound, cache_asked, cache_evicted, cache_taken, cache_kept, cache_cleared}
use Rattle.sva_refinement.proofs.DeviceSlots.{slots_bound, slots_begun, slots_ended, slots_cleared}
use Rattle.sva_refinement.proofs.DeviceOrders.{taken_bound, taken_drained, taken_invalidated, taken_submitted, taken_passed, taken_reset, taken_sent}
use Rattle.sva_refinement.proofs.DeviceOrders.{taken_begun, taken_counted, taken_reopened}
use Rattle.sva_refinement.proofs.DeviceFinished.{taken_finished, taken_taken, taken_ended, taken_cleared}
use Rattle.sva_refinement.proofs.DeviceGroups.{groups_bound, groups_opened, groups_requested, groups_quit, groups_answered, groups_cleared}

-- a message that counts completions, or is let go, changes nothing that the device keeps
count_leaves : (first e c : ℕ) (d : DeviceWire) (m : Message) → device_moved d (count_move first e c m) ≡ d
count_leaves first e c d (StartMessage t) = refl
count_leaves first e c d (StopMessage t) = refl
count_leaves first e c d ResetMessage = refl
count_leaves first e c d (CompletionMessage tag f r x) = refl
count_leaves first e c d (InvalidateMessage itag t scope) = refl
count_leaves first e c d (ResponseMessage t i code) = refl
count_leaves first e c d (RequestMessage tag t q) = refl
count_leaves first e c d (InvalidatedMessage vector field) = refl
count_leaves first e c d (PageRequestMessage t i q r x l) = refl
count_leaves first e c d (MarkerMessage t) = refl
count_leaves first e c d ResetDoneMessage = refl

pub device_square :
    (first : ℕ) (ms : Mappings) (x g n e : ℕ) (p : Endpoint) (o : LocalAct) → LegalLocalAct ms g p o → PartInvariant ms x g n e p
    → device_wire ms (act_alone p n o) ≡ device_moved (device_wire ms p) (own_move first e ms p o)
device_square first ms x g n e p (Bind b s t) l i =
    let pasids = pasids_bound ms g n p b s t l i.bindings in
    let tags = tags_bound ms g n p b s t l i.bounds i.labels i.requests in
    let cache = cache_bound ms g n p b s t l i.requests in
    let slots = slots_bound ms g n p b s t l i.owners in
    let taken = taken_bound ms g n p b s t l i.orders in
    let groups = groups_bound ms g n p b s t l i.bounds i.groups in
    λ j. record { pasids = pasids j; tags = tags j; cache = cache j; slots = slots j; taken = taken j; groups = groups j; is_disabled = p.is_disabled }
device_square first ms x g n e p (Stop b) l i = refl
device_square first ms x g n e p (Drain b cookie) l i =
    let taken = taken_drained ms g n p b cookie i.bounds i.labels in
    λ j. record (device_wire ms p) { taken = taken j }
device_square first ms x g n e p (Invalidate b cookie) l i =
    let taken = taken_invalidated ms g n p b cookie i.bounds i.labels in
    λ j. record (device_wire ms p) { taken = taken j }
device_square first ms x g n e p (Quieten b) l i = refl
device_square first ms x g n e p (Release b) l i =
    let pasids = pasids_released ms g n p b l i.bindings i.labels in
    λ j. record (device_wire ms p) { pasids = pasids j }
device_square first ms x g n e p (Send k t) l i =
    let taken = taken_sent ms g n p k t l i.labels in
    λ j. record (device_wire ms p) { taken = taken j }
device_square first ms x g n e p (Pass k) l i =
    let taken = taken_passed ms g n p k l i.labels in
    λ j. record (device_wire ms p) { taken = taken j }
device_square first ms x g n e p (File r) l i = refl
device_square first ms x g n e p Reset l i =
    let taken = taken_reset ms n p i.labels in
    λ j. record (device_wire ms p) { taken = taken j }
device_square first ms x g n e p (Hand y worker) l i = refl
device_square first ms x g n e p (Respond y code) l i = refl
device_square first ms x g n e p (Discard y) l i = refl
device_square first ms x g n e p (Ask b q t) l i =
    let tags = tags_asked n p g b q t i.bounds i.labels in
    let cache = cache_asked ms g n p b q t i.bounds in
    λ j. record (device_wire ms p) { tags = tags j; cache = cache j }
device_square first ms x g n e p (Begin r m t) l i =
    let slots = slots_begun ms g n p r m t l i.bounds i.labels i.owners in
    let taken = taken_begun ms g n p r m t l i.bounds i.labels in
    λ j. record (device_wire ms p) { slots = slots j; taken = taken j }
device_square first ms x g n e p (End u) l i =
    let slots = slots_ended ms n p u i.labels in
    let taken = taken_ended ms n p u i.labels in
    λ j. record (device_wire ms p) { slots = slots j; taken = taken j }
device_square first ms x g n e p (Evict r) l i =
    let cache = cache_evicted ms g n p r l i.labels i.requests i.owners in
    λ j. record (device_wire ms p) { cache = cache j }
device_square first ms x g n e p (Group b y q r w a) l i =
    let groups = groups_opened ms g n p b y q r w a i.bounds i.groups in
    λ j. record (device_wire ms p) { groups = groups j }
device_square first ms x g n e p (Request y q r w a) l i =
    let groups = groups_requested ms g n p y q r w a l i.groups in
    λ j. record (device_wire ms p) { groups = groups j }
device_square first ms x g n e p (Finish names vector count) l i =
    let taken = taken_finished ms g n p names vector count l i.labels in
    λ j. record (device_wire ms p) { taken = taken j }
device_square first ms x g n e p (Quit b) l i =
    let groups = groups_quit ms g n p b l i.bindings i.labels i.groups in
    (λ j. record (device_wire ms (act_alone p n (Quit b))) { groups = groups j })
    ∙ sym (pasids_put p b Off (record (device_wire ms p) { groups = map (stale_of (p.pasid b)) (device_wire ms p).groups }) i.labels
    (unreleased_unless p b i.bindings (ap is_off l.0)) refl)
device_square first ms x g n e p (Start_arrives c b) l i =
    sym (pasids_put p b On (device_wire ms p) i.labels (unmarked_unreleased (p.stage b) (i.bindings.start_stage c b l.0)) refl)
device_square first ms x g n e p (Stop_arrives c b) l i =
    sym (pasids_put p b Ending (device_wire ms p) i.labels (ap is_unreleased (i.bindings.stop_stage c b l.0)) refl)
device_square first ms x g n e p (Reset_arrives c) l i =
    let pasids = pasids_cleared n p c in
    let tags = tags_cleared n p c in
    let cache = cache_cleared ms n p c in
    let slots = slots_cleared ms n p c in
    let taken = taken_cleared ms n p c in
    let groups = groups_cleared n p c in
    λ j. record { pasids = pasids j; tags = tags j; cache = cache j; slots = slots j; taken = taken j; groups = groups j; is_disabled = false }
device_square first ms x g n e p (Keep c r m) l i =
    let tags = tags_kept ms g n p c r m l i.labels in
    let cache = cache_kept ms g n p c r m l i.bounds i.bindings i.labels i.requests i.owners in
    λ j. record (device_wire ms p) { tags = tags j; cache = cache j }
device_square first ms x g n e p (Forget c r) l i =
    let tags = tags_forgotten ms g n p c r l i.labels in
    λ j. record (device_wire ms p) { tags = tags j }
device_square first ms x g n e p (Take c k) l i =
    let tags = tags_taken ms g n p c k l i.bindings i.labels i.requests i.orders in
    let cache = cache_taken ms g n p c k l i.labels i.orders i.owners in
    let taken = taken_taken ms g n p c k l i.bounds i.labels i.orders i.owners in
    λ j. record (device_wire ms p) { tags = tags j; cache = cache j; taken = taken j }
device_square first ms x g n e p (Answered c y code) l i =
    let groups = groups_answered n p c y code i.groups in
    λ j. record (device_wire ms (act_alone p n (Answered c y code))) { groups = groups j }
device_square first ms x g n e p (Complete c r found answer) l i = refl
device_square first ms x g n e p (Count c names) l i =
    let taken = taken_counted ms n p c names in
    (λ j. record (device_wire ms p) { taken = taken j }) ∙ sym (count_leaves first e c (device_wire ms p) (p.carried c))
device_square first ms x g n e p (Arrive c r) l i = refl
device_square first ms x g n e p (Miss c r) l i = refl
device_square first ms x g n e p (Mark c b) l i = refl
device_square first ms x g n e p (Ignore c) l i = refl
device_square first ms x g n e p (Reopen c) l i =
    let taken = taken_reopened ms g n p c l i.resets in
    λ j. record (device_wire ms p) { taken = taken j }

-- Invalidations of ranges with the wait behind them, as an unmapping submits them, leave the device as it is.
pub device_submitted :
    (ms : Mappings) (g : ℕ) (p : Endpoint) (b q count order cookie : ℕ) → Bounds g p → Labels p
    → device_wire ms (submitted p b q count order cookie) ≡ device_wire ms p
device_submitted ms g p b q count order cookie bo la =
    let taken = taken_submitted ms g p b q count order cookie bo la in
    λ j. record (device_wire ms p) { taken = taken j }

pub device_submitted_if :
    (t : Bool) (ms : Mappings) (g : ℕ) (p : Endpoint) (o : Option ℕ) (q count order cookie : ℕ) → Bounds g p → Labels p
    → device_wire ms (submitted_if t p o q count order cookie) ≡ device_wire ms p
device_submitted_if true ms g p (Some b) q count order cookie bo la = device_submitted ms g p b q count order cookie bo la
device_submitted_if true ms g p None q count order cookie bo la = refl
device_submitted_if false ms g p o q count order cookie bo la = refl

-- so an unmapping leaves every device as it is
pub device_unmapped :
    (w : World) (s q count order e : ℕ) → Bounds w.bindings (w.part e) → Labels (w.part e)
    → device_wire (act w (Act.Unmap s q count order)).mappings ((act w (Act.Unmap s q count order)).part e) ≡ device_wire w.mappings (w.part e)
device_unmapped w s q count order e bo la =
    device_submitted_if (submits w s e) w.mappings w.bindings (w.part e) (bound w e s) q count order (w.cookies + count_below e (submits w s)) bo la
