-- To be safe says enough of a world that is shown.
use Rattle.std.proofs.Common.{◌≡◌, ◌≢◌, ◌⊎◌, inl, inr, refl, ap, sym, subst, ◌∙◌, ℕ, suc, ◌<◌, ◌≤◌, Bool, true, false, arith}
use Rattle.std.specs.Prelude.{◌||◌, not, List, Option, Some, option_map, Contains, slice_get}
use Rattle.std.proofs.lemmas.Option.{slice_get_within}
use Rattle.sva_model.specs.Message.{Code}
use Rattle.sva_model.specs.Words.{tabulate}
use Rattle.sva_model.specs.State.{PasidState, Subject, Endpoint, World}
use Rattle.sva_model.specs.State.Stage.{Live, Stopping}
use Rattle.sva_model.specs.State.PasidState.{Off, On, Ending}
use Rattle.sva_model.specs.State.RequestState.{Out}
use Rattle.sva_model.specs.State.PageRequestState.{Arrived}
use Rattle.sva_model.specs.State.HostGroupState.{PartFiled}
use Rattle.sva_model.specs.State.Phase.{Open, Cleared}
use Rattle.sva_model.specs.State.Subject.{StartOf, StopOf, CompletionOf, ResponseOf, PageRequestOf, MarkerOf}
use Rattle.sva_model.specs.States.{is_unreleased, is_out, is_open, is_collecting, is_free}
use Rattle.sva_model.specs.Labels.{oldest_arrived}
use Rattle.sva_model.specs.Claims.{Usable, IsBearer, asker_of}
use Rattle.sva_labels.proofs.Lists.{tabulate_length}
use Rattle.sva_search.proofs.Once.{contains_at}
use Rattle.sva_open.specs.declared.frames.Tenure.{Tenure}
use Rattle.sva_open.specs.declared.frames.Translation.{Translation}
use Rattle.sva_open.specs.declared.works.Request.{Request}
use Rattle.sva_open.specs.declared.works.Group.{Group}
use Rattle.sva_open.specs.declared.messages.Sent.{Sent as Flying}
use Rattle.sva_open.specs.declared.settings.Settings.{Settings}
use Rattle.sva_open.specs.World.{Part, is_off as is_row_off}
use Rattle.sva_open.specs.Safe.{EndsItsGroup, EndsNone, IsCurrent, IsPresent, IsRight, IsOwned, IsSafePart, IsSafe}
use Rattle.sva_open_laws.specs.AsOpen.{open_of, part_of, translation_of, owner_of, request_of, group_of, sent_of, arrived_of, filed_of, row_at}
use Rattle.sva_open_laws.specs.AsOpen.{is_doomed, is_filed, entry_of, entered_of, state_of, state_by, user_by, time_by, is_part_filed}
use Rattle.sva_open_laws.specs.Shown.{IsShown, IsOfOne, IsInRow, ShowsAll, SafeSaysEnough}
use Rattle.sva_open_laws.specs.Shown.IsShown.{held as shows_held, in_use as shows_used, under_way as shows_coming}
use Rattle.sva_open_laws.proofs.Gathered.{in_one, in_select, inside, mapped_some, tabulate_get}

-- ---- what is usable

current_of : (settings : Settings) (frames : List Tenure) (part : Part) (freed domains : List ℕ) (t : Translation)
    → IsSafePart settings frames freed domains part → IsShown part t → IsCurrent frames t.target × IsPresent part t.pasid t.owner
current_of settings frames part freed domains t s (shows_held h) = ((s.held t h).frame, (s.held t h).owner)
current_of settings frames part freed domains t s (shows_used h) = ((s.in_use t h).frame, (s.in_use t h).owner)
current_of settings frames part freed domains t s (shows_coming q tag one h is at same) =
    let own = subst (λ z. IsRight settings frames part one z) is (s.flight one h) in
    let good = ap (λ (z : Request). z.is_doomed) same in (
      (own q at).frame good,
      subst (λ (z : Request). IsPresent part z.pasid z.owner) same (s.asked q (contains_at part.requests tag (Some q) at) good),
    )

-- ---- one endpoint

safe_at : (w : World) (e : ℕ) → ShowsAll w → IsSafe (open_of w) → e < w.config.endpoints
    → IsSafePart (open_of w).settings (open_of w).frames (open_of w).freed (open_of w).domains (part_of w e (w.part e))
safe_at w e sh s l = s.parts (part_of w e (w.part e)) (contains_at (open_of w).parts e (part_of w e (w.part e)) (sh.part e l))

bears : (w : World) (e b : ℕ) → ShowsAll w → IsOfOne w e b → IsPresent (part_of w e (w.part e)) ((w.part e).pasid b) (owner_of (w.part e) b)
    → IsBearer (w.part e) b
bears w e b sh of there = (sh.owner e b of.1).0 there

usable_well : (w : World) (e b q m : ℕ) → ShowsAll w → IsSafe (open_of w) → Usable w e b q m
    → (is_unreleased ((w.part e).stage b) ≡ true) × (w.mappings.latest (w.mappings.frame m) ≡ Some m) × (is_free w (w.mappings.frame m) ≡ false)
usable_well w e b q m sh s u =
    let x = sh.usable e b q m u in
    let p = safe_at w e sh s x.0.0 in
    let t = translation_of w.mappings (w.part e) b q m in
    let g = current_of (open_of w).settings (open_of w).frames (part_of w e (w.part e)) (open_of w).freed (open_of w).domains t p x.2 in
    let c = (sh.current m x.1).0 g.0 in
    ((bears w e b sh x.0 g.1).unreleased, c.0, c.1)

asked_well : (w : World) (e r : ℕ) → ShowsAll w → IsSafe (open_of w) → (w.part e).request r ≡ Out → IsBearer (w.part e) ((w.part e).request_binding r)
asked_well w e r sh s h =
    let p = w.part e in
    let x = sh.out e r (ap is_out h) in
    bears w e (p.request_binding r) sh x.0
    ((safe_at w e sh s x.0.0).asked (request_of p r) (contains_at (part_of w e p).requests (p.request_tag r) (Some (request_of p r)) x.1) (ap is_doomed h))

-- ---- rows

row_safe : (w : World) (e t : ℕ) → ShowsAll w → IsSafe (open_of w) → e < w.config.endpoints → t ≤ 32
    → IsOwned (open_of w).freed (row_at w.bindings (w.part e) t)
row_safe w e t sh s l low =
    (safe_at w e sh s l).rows (row_at w.bindings (w.part e) t)
    (contains_at (part_of w e (w.part e)).rows t (row_at w.bindings (w.part e) t) (tabulate_get 33 (row_at w.bindings (w.part e)) t (omega (arith, low))))

row_bears : (w : World) (e b : ℕ) → ShowsAll w → IsOfOne w e b → (w.part e).pasid b ≤ 32
    → owner_of (w.part e) b ≡ (row_at w.bindings (w.part e) ((w.part e).pasid b)).owner → IsBearer (w.part e) b
row_bears w e b sh of low same =
    bears w e b sh of (record {
      row = row_at w.bindings (w.part e) ((w.part e).pasid b);
      found = tabulate_get 33 (row_at w.bindings (w.part e)) ((w.part e).pasid b) (omega (arith, low));
      same = same;
    })

noted_well : (w : World) (e b : ℕ) → ShowsAll w → IsSafe (open_of w) → (w.part e).stage b ≡ Stopping true → IsBearer (w.part e) b
noted_well w e b sh s h =
    let p = w.part e in
    let x = sh.noted e b h in
    row_bears w e b sh x.0 x.1 ((row_safe w e (p.pasid b) sh s x.0.0 x.1).answer (owner_of p b) (ap (option_map (owner_of p)) x.2))

entered_well : (w : World) (e b : ℕ) → ShowsAll w → IsSafe (open_of w) → (w.part e).stage b ≡ Live
    → IsBearer (w.part e) b × (w.is_live ((w.part e).space b) ≡ true)
entered_well w e b sh s h = (row_bears w e b sh x.0.0 x.0.1 (row.entry (entry_of p b) entry), lives (w.is_live (p.space b)) refl)
  where
    p : Endpoint
    p = w.part e

    x : IsInRow w e b (entered_of w.bindings p (p.pasid b)) × (p.space b < w.spaces)
    x = sh.entered e b h

    row : IsOwned (open_of w).freed (row_at w.bindings p (p.pasid b))
    row = row_safe w e (p.pasid b) sh s x.0.0.0 x.0.1

    entry : (row_at w.bindings p (p.pasid b)).entry ≡ Some (entry_of p b)
    entry = ap (option_map (entry_of p)) x.0.2

    lives : (z : Bool) → w.is_live (p.space b) ≡ z → w.is_live (p.space b) ≡ true
    lives true l = l
    lives false l = absurd (row.walked (entry_of p b) entry (in_select w.spaces (λ y. not (w.is_live y)) (p.space b) x.1 (ap not l)))

on_row : (s : PasidState) → s ≢ Off → is_row_off (state_by s) ≡ false
on_row Off h = absurd (h refl)
on_row On h = refl
on_row Ending h = refl

started_well : (w : World) (e b : ℕ) → ShowsAll w → IsSafe (open_of w) → (w.part e).pasid_state b ≢ Off → IsBearer (w.part e) b
started_well w e b sh s h =
    let p = w.part e in
    let x = sh.started e b h in
    row_bears w e b sh x.0 x.1
    (sym (ap (user_by p) x.2)
    ∙ (row_safe w e (p.pasid b) sh s x.0.0 x.1).user (ap (λ z. is_row_off (state_of p z)) x.2 ∙ on_row (p.pasid_state b) h))

-- ---- what is in flight

flies : (w : World) (e c : ℕ) (s : Subject) (one : Flying) → ShowsAll w → IsSafe (open_of w) → (w.part e).message c ≡ Some s
    → Contains (sent_of w.mappings (w.part e) s) one → IsRight (open_of w).settings (open_of w).frames (part_of w e (w.part e)) one one.message
flies w e c s one sh safe h k = let x = sh.flight e c s h in (safe_at w e sh safe x.0).flight one (x.2 one k)

start_well : (w : World) (e c b : ℕ) → ShowsAll w → IsSafe (open_of w) → (w.part e).message c ≡ Some (StartOf b) → IsBearer (w.part e) b
start_well w e c b sh s h = bears w e b sh (sh.flight e c (StartOf b) h).1 (flies w e c (StartOf b) _ sh s h (in_one _) refl)

stop_well : (w : World) (e c b : ℕ) → ShowsAll w → IsSafe (open_of w) → (w.part e).message c ≡ Some (StopOf b) → IsBearer (w.part e) b
stop_well w e c b sh s h = bears w e b sh (sh.flight e c (StopOf b) h).1 (flies w e c (StopOf b) _ sh s h (in_one _) refl)

marker_well : (w : World) (e c b : ℕ) → ShowsAll w → IsSafe (open_of w) → (w.part e).phase ≡ Open → (w.part e).message c ≡ Some (MarkerOf b)
    → IsBearer (w.part e) b
marker_well w e c b sh s ph h =
    bears w e b sh (sh.flight e c (MarkerOf b) h).1 (flies w e c (MarkerOf b) _ sh s h (in_one _) (ap is_open ph))

in_flight_well : (w : World) (e c r : ℕ) → ShowsAll w → IsSafe (open_of w) → (w.part e).phase ≡ Open → (w.part e).message c ≡ Some (PageRequestOf r)
    → IsBearer (w.part e) (asker_of (w.part e) r)
in_flight_well w e c r sh s ph h =
    bears w e (asker_of (w.part e) r) sh (sh.flight e c (PageRequestOf r) h).1 (flies w e c (PageRequestOf r) _ sh s h (in_one _) (ap is_open ph))

no_later : (n : ℕ) → n ≡ suc n → ⊥
no_later n h = omega arith

completion_well : (w : World) (e c r o d : ℕ) (f : Option ℕ) → ShowsAll w → IsSafe (open_of w) → (w.part e).message c ≡ Some (CompletionOf r f)
    → is_out ((w.part e).request o) ≡ true → (w.part e).request_tag o ≡ (w.part e).request_tag r → (w.part e).phase ≢ Cleared d
completion_well w e c r o d f sh s h out same cleared =
    let p = w.part e in
    let at = subst (λ z. slice_get (part_of w e p).requests z ≡ Some (Some (request_of p o))) same (sh.out e o out).1 in
    let own = flies w e c (CompletionOf r f) _ sh s h (in_one _) (request_of p o) at in
    no_later p.resets (own.time ∙ ap (λ z. time_by z p.resets) cleared)

page_well : (w : World) (e c r o : ℕ) (f : Option ℕ) → ShowsAll w → IsSafe (open_of w) → (w.part e).message c ≡ Some (CompletionOf r f)
    → is_out ((w.part e).request o) ≡ true → (w.part e).request_tag o ≡ (w.part e).request_tag r → (w.part e).request_page r ≡ (w.part e).request_page o
page_well w e c r o f sh s h out same =
    let p = w.part e in
    let at = subst (λ z. slice_get (part_of w e p).requests z ≡ Some (Some (request_of p o))) same (sh.out e o out).1 in
    let own = flies w e c (CompletionOf r f) _ sh s h (in_one _) (request_of p o) at in
    own.same

-- which group has an index
at_its_index : (p : Endpoint) (t : ℕ) (g : Group) → slice_get (tabulate 32 (λ x. option_map (group_of p) (p.at_index x))) t ≡ Some (Some g)
    → (k : ℕ) × (p.at_index t ≡ Some k) × (group_of p k ≡ g)
at_its_index p t g h =
    let all : ℕ → Option Group = λ x. option_map (group_of p) (p.at_index x) in
    let low : t < 32 = subst (λ z. t < z) (tabulate_length 32 all) (slice_get_within (tabulate 32 all) t (Some g) h) in
    mapped_some (group_of p) (p.at_index t) g (inside (sym (tabulate_get 32 all t low) ∙ h))

collects_not : (b : Bool) → not b ≡ true → b ≡ false
collects_not false h = refl
collects_not true h = absurd (cc)

-- on a platform that doesn't allow a response that ends none, of an endpoint that isn't gone
ends_one : (settings : Settings) (part : Part) (one : Flying) (index : ℕ) (filed : Bool)
    → (settings.allows_no_group || part.is_gone) ≡ false
    → ((filed ≡ true) × EndsItsGroup part one index) ⊎ EndsNone settings part index → (filed ≡ true) × EndsItsGroup part one index
ends_one settings part one index filed never (inl own) = own
ends_one settings part one index filed never (inr none) = absurd (cc (sym never ∙ none.allowed))

response_well : (w : World) (e c g : ℕ) (code : Code) → ShowsAll w → IsSafe (open_of w) → (w.part e).message c ≡ Some (ResponseOf g code)
    → ((w.part e).at_index ((w.part e).index g) ≡ Some g) × (is_collecting ((w.part e).group g) ≡ false)
    × (is_filed ((w.part e).host_group g) ≡ true)
response_well w e c g code sh s h =
    let p = w.part e in
    let met = flies w e c (ResponseOf g code) _ sh s h (in_one _) in
    let own = ends_one (open_of w).settings (part_of w e p) _ (p.index g) _ refl met in
    let x = at_its_index p (p.index g) own.1.group own.1.found in
    let same : g ≡ x.0 = own.1.number ∙ ap (λ (z : Group). z.number) (sym x.2) in
    let done : not (is_collecting (p.group x.0)) ≡ true = ap (λ (z : Group). z.is_finished) x.2 ∙ own.1.finished in (
      x.1 ∙ ap Some (sym same),
      collects_not (is_collecting (p.group g)) (ap (λ z. not (is_collecting (p.group z))) same ∙ done),
      own.0,
    )

-- ---- page requests

arrived_well : (w : World) (e r : ℕ) → ShowsAll w → IsSafe (open_of w) → (w.part e).page_request r ≡ Arrived → IsBearer (w.part e) (asker_of (w.part e) r)
arrived_well w e r sh s h =
    let x = sh.arrived e r h in
    bears w e (asker_of (w.part e) r) sh x.0 ((safe_at w e sh s x.0.0).arrived (arrived_of e (w.part e) r) x.1 refl)

joined_well : (w : World) (e g : ℕ) → ShowsAll w → IsSafe (open_of w) → (w.part e).page_request (oldest_arrived (w.part e)) ≡ Arrived
    → (w.part e).host_group g ≡ PartFiled → (w.part e).pasid ((w.part e).filed_under g) ≡ (w.part e).pasid (asker_of (w.part e) (oldest_arrived (w.part e)))
    → (w.part e).index g ≡ (w.part e).index ((w.part e).group_of (oldest_arrived (w.part e))) → g ≡ (w.part e).group_of (oldest_arrived (w.part e))
joined_well w e g sh s h k pasid index =
    let p = w.part e in
    let x = sh.arrived e (oldest_arrived p) h in
    (safe_at w e sh s x.0.0).joined (arrived_of e p (oldest_arrived p)) (filed_of p g) (sh.oldest e h) refl (sh.filed e g k) (not_whole k) pasid index
  where
    not_whole : (w.part e).host_group g ≡ PartFiled → (filed_of (w.part e) g).is_whole ≡ false
    not_whole k = ap (λ z. not (is_part_filed z)) k

-- ---- the whole

pub enough : SafeSaysEnough
enough w e sh s =
    record {
      usable = λ b q m u. usable_well w e b q m sh s u;
      asked = λ r h. asked_well w e r sh s h;
      start = λ c b h. start_well w e c b sh s h;
      stop = λ c b h. stop_well w e c b sh s h;
      started = λ b h. started_well w e b sh s h;
      completion = λ c r o d f h out same. completion_well w e c r o d f sh s h out same;
      page = λ c r o f h out same. page_well w e c r o f sh s h out same;
      response = λ c g code h. response_well w e c g code sh s h;
      in_flight = λ c r ph h. in_flight_well w e c r sh s ph h;
      marker = λ c b ph h. marker_well w e c b sh s ph h;
      arrived = λ r h. arrived_well w e r sh s h;
      noted = λ b h. noted_well w e b sh s h;
      joined = λ g h k pasid index. joined_well w e g sh s h k pasid index;
      entered = λ b h. entered_well w e b sh s h;
    }
