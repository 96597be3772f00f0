-- Each act of one endpoint leaves its unit as the move does that it is.
use Rattle.std.proofs.Common.{◌≡◌, ◌≢◌, refl, ap, sym, ℕ, ◌<◌}
use Rattle.sva_model.specs.State.{Mappings, Endpoint}
use Rattle.sva_model.specs.State.OrderState.{Queued}
use Rattle.sva_model.specs.Acts.{LocalAct, act_alone}
use Rattle.sva_model.specs.Wire.{number, unit_wire}
use Rattle.sva_laws.specs.LabelLaws.{IsCarried}
use Rattle.sva_laws.proofs.Legal.{LegalLocalAct}
use Rattle.sva_laws.proofs.Invariant.{PartInvariant}
use Rattle.sva_laws.proofs.Cookies.{HasCookie}
use Rattle.sva_laws.proofs.Completions.{Owed}
use Rattle.sva_refinement.proofs.Kept.{unit_moved}
use Rattle.sva_refinement.proofs.Named.{own_move}
use Rattle.sva_refinement.proofs.UnitQueue.{unit_bind, unit_drain, unit_invalidate, unit_send, unit_pass}
use Rattle.sva_refinement.proofs.UnitStates.{unit_reset, unit_reset_arrives, unit_take, unit_finish, unit_reopen}
use Rattle.sva_refinement.proofs.UnitCounts.{unit_count}

-- the order that is sent is the first in the queue
abbrev pub SendsFirst : Endpoint → LocalAct → Type 0
SendsFirst p (LocalAct.Send k t) = (j : ℕ) → j < k → p.order_state j ≢ Queued
SendsFirst p _ = Unit {0}

pub unit_acts :
    (ms : Mappings) (x g n e first cookies : ℕ) (p : Endpoint) (o : LocalAct) → LegalLocalAct ms g p o → HasCookie cookies o → SendsFirst p o
    → PartInvariant ms x g n e p → Owed n p → IsCarried ms p
    → unit_wire first (act_alone p n o) ≡ unit_moved (number first cookies) (unit_wire first p) (own_move first e ms p o)
unit_acts ms x g n e first cookies p (LocalAct.Bind b s t) l c f i ow ca = unit_bind ms g first n (number first cookies) e p b s t l i.orders
unit_acts ms x g n e first cookies p (LocalAct.Stop b) l c f i ow ca = refl
unit_acts ms x g n e first cookies p (LocalAct.Drain b cookie) l c f i ow ca =
    unit_drain ms g first n (number first cookies) e p b cookie i.bounds i.labels (ap (number first) (sym c))
unit_acts ms x g n e first cookies p (LocalAct.Invalidate b cookie) l c f i ow ca =
    unit_invalidate ms g first n (number first cookies) e p b cookie i.bounds i.labels (ap (number first) (sym c))
unit_acts ms x g n e first cookies p (LocalAct.Quieten b) l c f i ow ca = refl
unit_acts ms x g n e first cookies p (LocalAct.Release b) l c f i ow ca = refl
unit_acts ms x g n e first cookies p (LocalAct.Send k t) l c f i ow ca = unit_send ms g first n (number first cookies) e p k t l f i.bounds i.labels
unit_acts ms x g n e first cookies p (LocalAct.Pass k) l c f i ow ca = unit_pass ms g first n (number first cookies) e p k l i.bounds
unit_acts ms x g n e first cookies p (LocalAct.File r) l c f i ow ca = refl
unit_acts ms x g n e first cookies p LocalAct.Reset l c f i ow ca = unit_reset ms first n (number first cookies) e p
unit_acts ms x g n e first cookies p (LocalAct.Hand y w) l c f i ow ca = refl
unit_acts ms x g n e first cookies p (LocalAct.Respond y code) l c f i ow ca = refl
unit_acts ms x g n e first cookies p (LocalAct.Discard y) l c f i ow ca = refl
unit_acts ms x g n e first cookies p (LocalAct.Ask b q t) l c f i ow ca = refl
unit_acts ms x g n e first cookies p (LocalAct.Begin r m t) l c f i ow ca = refl
unit_acts ms x g n e first cookies p (LocalAct.End u) l c f i ow ca = refl
unit_acts ms x g n e first cookies p (LocalAct.Evict r) l c f i ow ca = refl
unit_acts ms x g n e first cookies p (LocalAct.Group b y q r w z) l c f i ow ca = refl
unit_acts ms x g n e first cookies p (LocalAct.Request y q r w z) l c f i ow ca = refl
unit_acts ms x g n e first cookies p (LocalAct.Finish names vector count) l c f i ow ca =
    unit_finish ms g first n (number first cookies) e p names vector count l
unit_acts ms x g n e first cookies p (LocalAct.Quit b) l c f i ow ca = refl
unit_acts ms x g n e first cookies p (LocalAct.Start_arrives m b) l c f i ow ca = refl
unit_acts ms x g n e first cookies p (LocalAct.Stop_arrives m b) l c f i ow ca = refl
unit_acts ms x g n e first cookies p (LocalAct.Reset_arrives m) l c f i ow ca = unit_reset_arrives ms g first n (number first cookies) e p m l i.resets
unit_acts ms x g n e first cookies p (LocalAct.Keep m r y) l c f i ow ca = refl
unit_acts ms x g n e first cookies p (LocalAct.Forget m r) l c f i ow ca = refl
unit_acts ms x g n e first cookies p (LocalAct.Take m k) l c f i ow ca = unit_take ms g first n (number first cookies) e p m k l i.labels
unit_acts ms x g n e first cookies p (LocalAct.Answered m y code) l c f i ow ca = refl
unit_acts ms x g n e first cookies p (LocalAct.Complete m r found answer) l c f i ow ca = refl
unit_acts ms x g n e first cookies p (LocalAct.Count m names) l c f i ow ca =
    unit_count ms g first n (number first cookies) e p m names l i.labels ca.invalidated ow.completing
unit_acts ms x g n e first cookies p (LocalAct.Arrive m r) l c f i ow ca = refl
unit_acts ms x g n e first cookies p (LocalAct.Miss m r) l c f i ow ca = refl
unit_acts ms x g n e first cookies p (LocalAct.Mark m b) l c f i ow ca = refl
unit_acts ms x g n e first cookies p (LocalAct.Ignore m) l c f i ow ca = refl
unit_acts ms x g n e first cookies p (LocalAct.Reopen m) l c f i ow ca = unit_reopen ms g first n (number first cookies) e p m l i.resets
