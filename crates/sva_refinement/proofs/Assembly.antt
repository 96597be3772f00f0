-- Acts one after another, as the whole host is seen, are the moves that they are, one after another; and so a step by labels is the
-- step by names, where its causes refuse alike and its result is the outcome's.
use Rattle.std.proofs.Common.{◌≡◌, ◌≢◌, ◌⊎◌, inl, inr, refl, ap, sym, ◌∙◌, ℕ, suc, ◌<◌, ◌≤◌, Bool, true, false, arith}
use Rattle.std.specs.Prelude.{Option, Some, None, List, [], ◌∷◌}
use Rattle.std.proofs.lemmas.Bool.Decides.{nat_tests}
use Rattle.sva_step.specs.declared.steps.Step.{Step}
use Rattle.sva_model.specs.Words.{put}
use Rattle.sva_model.specs.State.{Endpoint, JobName, World}
use Rattle.sva_model.specs.State.HostGroupState.{Job}
use Rattle.sva_model.specs.Unmappings.{submitted_if, submits, bound, cookie_of}
use Rattle.sva_model.specs.Acts.{Act, LocalAct, act_alone, act}
use Rattle.sva_model.specs.Acts.Act.{NewSpace, DropSpace, Map, Unmap, NewBinding, NewJob, Hold, LetGo, AtEndpoint}
use Rattle.sva_model.specs.Refusals.{refusals}
use Rattle.sva_model.specs.Outcomes.{outcome}
use Rattle.sva_model.specs.Steps.{decide, reply, next, after_acts}
use Rattle.sva_model.specs.Wire.{wire}
use Rattle.sva_labels.proofs.Words.{put-same, put-other, ℕ_cases}
use Rattle.sva_laws.proofs.Jobs.{is_past}
use Rattle.sva_laws.proofs.Fronts.{AllFronts, act_fronts}
use Rattle.sva_laws.proofs.Debts.{AllDebts, act_debts}
use Rattle.sva_laws.proofs.Completions.{AllOwed, act_owed}
use Rattle.sva_laws.proofs.Carried.{AllCarried, act_carried}
use Rattle.sva_laws.proofs.Invariant.{Invariant}
use Rattle.sva_laws.proofs.Keeps.{Legal, SuitsWorld, act_keeps, put_keeps}
use Rattle.sva_laws.proofs.Cookies.{HasCookie}
use Rattle.sva_laws.proofs.Passed.{Passed, LegalAll}
use Rattle.sva_laws.proofs.Rooms.{by_passed}
use Rattle.sva_labels.specs.Moves.{moved, all_moved}
use Rattle.sva_labels.specs.Host.{reply_of, next_of}
use Rattle.sva_refinement.proofs.Named.{act_move, act_moves}
use Rattle.sva_refinement.proofs.Device.{device_square}
use Rattle.sva_refinement.proofs.HostGroups.{host_groups_in_turn}
use Rattle.sva_refinement.proofs.PlacesMoved.{places_moved}
use Rattle.sva_refinement.proofs.Alike.{SaysAlike, reply_alike, moves_alike}
use Rattle.sva_refinement.proofs.SentTo.{AreSentTo, act_sent}
use Rattle.sva_refinement.proofs.HostGroupsFiled.{AllFilings, filed_made, act_filings}
use Rattle.sva_refinement.proofs.SpaceActs.{new_space, map_page, drop_space}
use Rattle.sva_refinement.proofs.Unmapping.{unmap_pages}
use Rattle.sva_refinement.proofs.UnitActs.{SendsFirst, unit_acts}
use Rattle.sva_refinement.proofs.PageQueue.{page_queue_acts}
use Rattle.sva_refinement.proofs.JobActs.{FilesOpen, JobsPast}
use Rattle.sva_refinement.proofs.Squares.{InTurn, HasTables, PartMoves, files_open, square}
use Rattle.sva_refinement.proofs.WorldActs.{binding_named, job_named, job_held, job_let_go}

-- What holds of a world between the acts of a step.
pub record Stands (w : World) : Type 0 where
  pub invariant : Invariant w
  pub fronts : AllFronts w
  pub debts : AllDebts w
  pub owed : AllOwed w
  pub carried : AllCarried w
  pub sent : AreSentTo w
  pub filings : AllFilings w
  pub past : JobsPast w
  pub few : w.config.endpoints ≤ 8

-- What an act has beside what is legal: its turn.
abbrev pub IsReady : World → Act → Type 0
IsReady w (NewJob e g) = (w.part e).host_group g ≡ Job
IsReady w (AtEndpoint e o) = InTurn w e o × SendsFirst (w.part e) o
IsReady w _ = Unit {0}

abbrev pub AreReady : World → List Act → Type 0
AreReady w [] = Unit {0}
AreReady w (a ∷ acts) = IsReady w a × AreReady (act w a) acts

-- It stays so through each act.

past_kept : (p : Endpoint) (n : ℕ) (o : LocalAct) (g : ℕ) → FilesOpen p o → is_past (p.host_group g) ≡ true → is_past ((act_alone p n o).host_group g) ≡ true
past_kept p n o g f h = grind (arith, nat_tests)

submitted_past :
    (t : Bool) (p : Endpoint) (o : Option ℕ) (q count order cookie g : ℕ) → is_past (p.host_group g) ≡ true
    → is_past ((submitted_if t p o q count order cookie).host_group g) ≡ true
submitted_past true p (Some b) q count order cookie g h = h
submitted_past true p None q count order cookie g h = h
submitted_past false p o q count order cookie g h = h

act_past : (w : World) (a : Act) → IsReady w a → JobsPast w → JobsPast (act w a)
act_past w NewSpace r h = h
act_past w (DropSpace s) r h = h
act_past w (Map s q f x) r h = h
act_past w (Unmap s q count order) r h =
    λ j l.
    submitted_past (submits w s (w.job j).endpoint) (w.part (w.job j).endpoint) (bound w (w.job j).endpoint s) q count order
    (cookie_of w s (w.job j).endpoint) (w.job j).group (h j l)
act_past w (NewBinding e) r h = h
act_past w (NewJob e g) r h = λ j l. go j l (ℕ_cases j w.jobs)
  where
    new : JobName
    new = record { endpoint = e; group = g }

    go :
        (j : ℕ) → j < suc w.jobs → (j ≡ w.jobs) ⊎ (j ≢ w.jobs)
        → is_past ((w.part (put w.job w.jobs new j).endpoint).host_group (put w.job w.jobs new j).group) ≡ true
    go j l (inl k) = ap (λ x. is_past ((w.part x.endpoint).host_group x.group)) (ap (put w.job w.jobs new) k ∙ put-same w.job w.jobs new) ∙ ap is_past r
    go j l (inr ne) = ap (λ x. is_past ((w.part x.endpoint).host_group x.group)) (put-other w.job w.jobs new j ne) ∙ h j (omega arith)
act_past w (Hold x j) r h = h
act_past w (LetGo x) r h = h
act_past w (AtEndpoint e o) r h =
    λ j l.
    put_keeps (λ x p. is_past ((w.part x).host_group (w.job j).group) ≡ true → is_past (p.host_group (w.job j).group) ≡ true) w.part e
    (act_alone (w.part e) w.messages o)
    (past_kept (w.part e) w.messages o (w.job j).group (files_open w e o r.0))
    (λ x k. k)
    (w.job j).endpoint (h j l)

act_few : (w : World) (a : Act) → w.config.endpoints ≤ 8 → (act w a).config.endpoints ≤ 8
act_few w NewSpace h = h
act_few w (DropSpace s) h = h
act_few w (Map s q f x) h = h
act_few w (Unmap s q count order) h = h
act_few w (NewBinding e) h = h
act_few w (NewJob e g) h = h
act_few w (Hold x j) h = h
act_few w (LetGo x) h = h
act_few w (AtEndpoint e o) h = h

pub act_stands : (w : World) (a : Act) → Legal w a → IsReady w a → Stands w → Stands (act w a)
act_stands w a l r s =
    record {
      invariant = act_keeps w a l s.invariant;
      fronts = act_fronts w a l s.invariant s.fronts;
      debts = act_debts w a l s.invariant s.fronts s.debts;
      owed = act_owed w a l s.invariant s.owed;
      carried = act_carried w a l s.invariant s.owed s.carried;
      sent = act_sent w a l s.invariant s.sent;
      filings = act_filings w a l s.invariant s.filings;
      past = act_past w a r s.past;
      few = act_few w a s.few;
    }

-- The endpoint's part, keeper by keeper.

has_cookie : (w : World) (e : ℕ) (o : LocalAct) → SuitsWorld w e o → HasCookie w.cookies o
has_cookie w e (LocalAct.Drain b cookie) s = s
has_cookie w e (LocalAct.Invalidate b cookie) s = s
has_cookie w e _ s = tt

pub part_moves : (w : World) (e : ℕ) (o : LocalAct) → Stands w → Legal w (AtEndpoint e o) → IsReady w (AtEndpoint e o) → PartMoves w e o
part_moves w e o s l r =
    let p = w.part e in
    let i = s.invariant.parts e in
    let device = device_square w.config.first w.mappings w.config.endpoints w.bindings w.messages e p o l.1.0 i in
    let unit =
    unit_acts w.mappings w.config.endpoints w.bindings w.messages e w.config.first w.cookies p o l.1.0 (has_cookie w e o l.1.1) r.1 i (s.owed e)
    (s.carried e) in
    let queue = page_queue_acts w.mappings w.config.endpoints w.bindings w.messages e w.config.first p o l.1.0 i in
    let groups = host_groups_in_turn w.mappings w.config.endpoints w.bindings w.messages e w.config.first p o l.1.0 i (files_open w e o r.0) (s.filings e) in
    λ k. record { device = device k; unit = unit k; page_queue = queue k; host_groups = groups k }

-- Each act is its move.

has_tables : (w : World) → Stands w → HasTables w
has_tables w s = record { sent = s.sent; filed = λ e k l. filed_made w.bindings (w.part e) (s.invariant.parts e).bounds (s.filings e) k l; past = s.past }

pub act_square : (w : World) (a : Act) → Stands w → Legal w a → IsReady w a → wire (act w a) ≡ moved (wire w) (act_move w a)
act_square w NewSpace s l r = new_space w s.invariant
act_square w (DropSpace x) s l r = drop_space w x s.invariant
act_square w (Map x q f b) s l r = map_page w x q f b s.invariant
act_square w (Unmap x q count order) s l r = unmap_pages w x q count order s.invariant s.fronts s.debts s.few
act_square w (NewBinding e) s l r = binding_named w e s.invariant
act_square w (NewJob e g) s l r = job_named w e g s.invariant r
act_square w (Hold x j) s l r = job_held w x j
act_square w (LetGo x) s l r = job_let_go w x
act_square w (AtEndpoint e o) s l r =
    square w e o s.invariant (has_tables w s) l r.0 (part_moves w e o s l r) (places_moved w e o l s.invariant s.fronts s.debts s.few)

-- One after another.
pub acts_square :
    (acts : List Act) (w : World) → Stands w → LegalAll w acts → AreReady w acts
    → wire (after_acts w acts) ≡ all_moved (wire w) (act_moves w acts)
acts_square [] w s l r = refl
acts_square (a ∷ acts) w s l r =
    acts_square acts (act w a) (act_stands w a l.0 r.0 s) l.1 r.1 ∙ ap (λ x. all_moved x (act_moves (act w a) acts)) (act_square w a s l.0 r.0)

-- A step by labels: the same answer, and what is left is the next world's.
abbrev pub IsByLabels : World → Step → Type 0
IsByLabels w s = (reply w s ≡ reply_of (wire w) s) × (wire (next w s) ≡ next_of (wire w) s)

pub step_by_labels : (w : World) (s : Step) → Stands w → SaysAlike w s → LegalAll w (decide w s).acts → AreReady w (decide w s).acts → IsByLabels w s
step_by_labels w s st says l r = (
  sym (reply_alike w s says),
  acts_square (decide w s).acts w st l r ∙ sym (ap (all_moved (wire w)) (moves_alike w s says)),
)

-- what holds of the acts of an outcome holds of those that are done
pub decided : (P : List Act → Type 0) (w : World) (s : Step) → P [] → (Passed (refusals w s) → P (outcome w s).acts) → P (decide w s).acts
decided P w s none h = by_passed P (refusals w s) (outcome w s) none h
