-- What filing does to the unfinished groups of a name, and what that keeps over every history.
use Rattle.std.proofs.Common.{◌≡◌, ℕ, ◌≤◌, Bool, true, false, ◌&&◌, not, cond, eqb, List, [], ◌∷◌, ◌++◌, filter, count_by, Option, Some, None, unwrap_or}
use Rattle.std.proofs.Common.{refl, sym, ap, ◌∙◌, subst, arith}
use Rattle.std.proofs.lemmas.Bool.{and_parts, or_parts, true≢false, false_from_ne_true}
use Rattle.std.proofs.lemmas.List.Sums.{sum_by-cons}
use Rattle.std.specs.List.{find, list_any}
use Rattle.sva_msg.specs.declared.messages.PageRequest.{PageRequest}
use Rattle.sva_prq.specs.declared.jobs.Ask.{Ask}
use Rattle.sva_prq.specs.Job.{ask_of}
use Rattle.sva_prq.specs.Groups.{OpenGroup, is_collecting, is_of_other_unit, has_job, new_group, with_request, filed_among, unfinished_asks, serial_for}
use Rattle.sva_prq.specs.GroupCalls.{GroupCall, Reserve, File, Answered, DropUnit, groups_after, asks_filed, JobsHoldTheirRequests, UnfinishedGroupsDiffer}
use Rattle.sva_prq.proofs.Searches.{find-none}
use Rattle.sva_prq.proofs.Tests.{is_same, Same, same_parts, same_self, unfinished_name, unfinished_part, name_as, filed_any, answered_find, filter_find}
use Rattle.sva_prq.proofs.Tests.{filter_find_none, AtMostOne, AtMostOne-filter, AtMostOne-answered}

module _ (n u b : ℕ) (request : PageRequest) (unit binding index : ℕ) where
  -- a request of another name changes nothing of the unfinished group of this name
  other_written : is_same u b request.index unit binding index ≡ false → (g : OpenGroup) → is_collecting u b request.index g ≡ true
      → (is_collecting unit binding index (with_request g request) ≡ false) × (is_collecting unit binding index g ≡ false)
  other_written apart g h =
      let fails = name_as u b request.index unit binding index g h ∙ apart in
      (ap (λ t. t && not request.last) fails, ap (λ t. t && not g.last) fails)

  any-filed_other : is_same u b request.index unit binding index ≡ false → (gs : List OpenGroup)
      → list_any (is_collecting unit binding index) (filed_among n u b request gs) ≡ list_any (is_collecting unit binding index) gs
  any-filed_other apart gs =
      filed_any (is_collecting unit binding index) false n u b request (other_written apart) (ap (λ t. t && not request.last) apart) gs

  find-filed_other : is_same u b request.index unit binding index ≡ false → (gs : List OpenGroup)
      → find (is_collecting unit binding index) (filed_among n u b request gs) ≡ find (is_collecting unit binding index) gs
  find-filed_other apart [] =
      ap (λ t. cond (t && not request.last) (Some (with_request (new_group n u b request.index) request)) None) apart
  find-filed_other apart (g ∷ gs) =
      let p = is_collecting unit binding index in
      (elim (is_collecting u b request.index g)
      as (λ t. is_collecting u b request.index g ≡ t
      → find p (cond t (with_request g request ∷ gs) (g ∷ filed_among n u b request gs)) ≡ cond (p g) (Some g) (find p gs)) [
        | true ↦ λ e.
            let both = other_written apart g e in
            ap (λ t. cond t (Some (with_request g request)) (find p gs)) both.0
            ∙ ap (λ t. cond t (Some g) (find p gs)) (sym both.1)
        | false ↦ λ e. ap (cond (p g) (Some g)) (find-filed_other apart gs)
      ]) refl

  -- a test for this name is one for the request's, where the names are the same
  same_test : is_same u b request.index unit binding index ≡ true → (g : OpenGroup) → is_collecting unit binding index g ≡ is_collecting u b request.index g
  same_test h g =
      let name = same_parts u b request.index unit binding index h in
      λ j. is_collecting (sym name.units j) (sym name.bindings j) (sym name.indexes j) g

  AtMostOne-filed_other : is_same u b request.index unit binding index ≡ false → (gs : List OpenGroup)
      → AtMostOne (is_collecting unit binding index) gs → AtMostOne (is_collecting unit binding index) (filed_among n u b request gs)
  AtMostOne-filed_other apart [] h = (λ _. refl, tt)
  AtMostOne-filed_other apart (g ∷ gs) h =
      let p = is_collecting unit binding index in
      (elim (is_collecting u b request.index g)
      as (λ t. is_collecting u b request.index g ≡ t
      → AtMostOne p (cond t (with_request g request ∷ gs) (g ∷ filed_among n u b request gs))) [
        | true ↦ λ e. (λ passes. absurd (true≢false (sym passes ∙ (other_written apart g e).0)), h.1)
        | false ↦ λ e. (λ passes. any-filed_other apart gs ∙ h.0 passes, AtMostOne-filed_other apart gs h.1)
      ]) refl

  AtMostOne-filed_same : is_same u b request.index unit binding index ≡ true → (gs : List OpenGroup) → AtMostOne (is_collecting unit binding index) gs
      → AtMostOne (is_collecting unit binding index) (filed_among n u b request gs)
  AtMostOne-filed_same h [] one = (λ _. refl, tt)
  AtMostOne-filed_same h (g ∷ gs) one =
      let p = is_collecting unit binding index in
      (elim (is_collecting u b request.index g)
      as (λ t. is_collecting u b request.index g ≡ t
      → AtMostOne p (cond t (with_request g request ∷ gs) (g ∷ filed_among n u b request gs))) [
        | true ↦ λ e. (λ _. one.0 (same_test h g ∙ e), one.1)
        | false ↦ λ e. (λ passes. absurd (true≢false (sym passes ∙ same_test h g ∙ e)), AtMostOne-filed_same h gs one.1)
      ]) refl

  AtMostOne-filed : (gs : List OpenGroup) → AtMostOne (is_collecting unit binding index) gs
      → AtMostOne (is_collecting unit binding index) (filed_among n u b request gs)
  AtMostOne-filed gs one =
      (elim (is_same u b request.index unit binding index)
      as (λ t. is_same u b request.index unit binding index ≡ t → AtMostOne (is_collecting unit binding index) (filed_among n u b request gs)) [
        | true ↦ λ e. AtMostOne-filed_same e gs one
        | false ↦ λ e. AtMostOne-filed_other e gs one
      ]) refl

-- after every history at most one group of a name is unfinished
pub one_unfinished : (history : List GroupCall) (unit binding index : ℕ) → AtMostOne (is_collecting unit binding index) (groups_after history).groups
one_unfinished [] unit binding index = tt
one_unfinished (Reserve _ ∷ earlier) unit binding index = one_unfinished earlier unit binding index
one_unfinished (File u b request ∷ earlier) unit binding index =
    AtMostOne-filed (groups_after earlier).next u b request unit binding index (groups_after earlier).groups (one_unfinished earlier unit binding index)
one_unfinished (Answered job ∷ earlier) unit binding index =
    AtMostOne-answered _ job.serial (groups_after earlier).groups (one_unfinished earlier unit binding index)
one_unfinished (DropUnit u ∷ earlier) unit binding index =
    AtMostOne-filter _ (is_of_other_unit u) (groups_after earlier).groups (one_unfinished earlier unit binding index)

count-none : (p : OpenGroup → Bool) (gs : List OpenGroup) → list_any p gs ≡ false → count_by p gs ≡ 0
count-none p [] none = refl
count-none p (g ∷ gs) none =
    let parts = or_parts (p g) (list_any p gs) none in
    let zero : ◌≡◌ {A = ℕ} (cond (p g) 1 0) 0 = ap (λ t. cond t 1 0) parts.0 in
    omega (arith, zero, count-none p gs parts.1, sum_by-cons (λ (h : OpenGroup). cond (p h) 1 0) g gs)

pub count-one : (p : OpenGroup → Bool) (gs : List OpenGroup) → AtMostOne p gs → count_by p gs ≤ 1
count-one p [] one = omega arith
count-one p (g ∷ gs) one =
    let cons = sum_by-cons (λ (h : OpenGroup). cond (p h) 1 0) g gs in
    (elim (p g) as (λ t. p g ≡ t → count_by p (g ∷ gs) ≤ 1) [
      | true ↦ λ e.
          let single : ◌≡◌ {A = ℕ} (cond (p g) 1 0) 1 = ap (λ t. cond t 1 0) e in
          omega (arith, cons, single, count-none p gs (one.0 e))
      | false ↦ λ e.
          let zero : ◌≡◌ {A = ℕ} (cond (p g) 1 0) 0 = ap (λ t. cond t 1 0) e in
          omega (arith, cons, zero, count-one p gs one.1)
    ]) refl

pub unfinished_groups_differ : UnfinishedGroupsDiffer
unfinished_groups_differ history unit binding index =
    count-one _ (groups_after history).groups (one_unfinished history unit binding index)

-- the asks of the unfinished group of a name, once a request of that name is filed
module _ (n u b : ℕ) (request : PageRequest) where
  picked : (l : Bool) (w : OpenGroup) (rest : Option OpenGroup) (asks : List Ask) → w.asks ≡ asks → rest ≡ None
      → (unwrap_or (cond (true && not l) (Some w) rest) (new_group 0 u b request.index)).asks ≡ cond l [] asks
  picked true w rest asks same none = ap (λ o. (unwrap_or o (new_group 0 u b request.index)).asks) none
  picked false w rest asks same none = same

  asks-filed_same : (gs : List OpenGroup) → AtMostOne (is_collecting u b request.index) gs
      → unfinished_asks u b request.index (filed_among n u b request gs) ≡ cond request.last [] (unfinished_asks u b request.index gs ++ ask_of request ∷ [])
  asks-filed_same [] one =
      ap (λ t. (unwrap_or (cond (t && not request.last) (Some (with_request (new_group n u b request.index) request)) None)
      (new_group 0 u b request.index)).asks) (same_self u b request.index)
      ∙ picked request.last (with_request (new_group n u b request.index) request) None (ask_of request ∷ []) refl refl
  asks-filed_same (g ∷ gs) one =
      let p = is_collecting u b request.index in
      let new = new_group 0 u b request.index in
      (elim (p g)
      as (λ t. p g ≡ t
      → (unwrap_or (find p (cond t (with_request g request ∷ gs) (g ∷ filed_among n u b request gs))) new).asks
      ≡ cond request.last [] ((unwrap_or (cond t (Some g) (find p gs)) new).asks ++ ask_of request ∷ [])) [
        | true ↦ λ e.
            ap (λ t. (unwrap_or (cond (t && not request.last) (Some (with_request g request)) (find p gs)) new).asks) (and_parts _ _ e).0
            ∙ picked request.last (with_request g request) (find p gs) (g.asks ++ ask_of request ∷ []) refl (find-none p gs (one.0 e))
        | false ↦ λ e.
            ap (λ t. (unwrap_or (cond t (Some g) (find p (filed_among n u b request gs))) new).asks) e
            ∙ asks-filed_same gs one.1
      ]) refl

  asks-filed : (unit binding index : ℕ) (gs : List OpenGroup) → AtMostOne (is_collecting u b request.index) gs
      → Same u b request.index unit binding index
      → unfinished_asks unit binding index (filed_among n u b request gs)
      ≡ cond request.last [] (unfinished_asks unit binding index gs ++ ask_of request ∷ [])
  asks-filed unit binding index gs one name =
      subst (λ x. unfinished_asks x binding index (filed_among n u b request gs) ≡ cond request.last []
      (unfinished_asks x binding index gs ++ ask_of request ∷ [])) name.units
      (subst (λ x. unfinished_asks u x index (filed_among n u b request gs) ≡ cond request.last []
      (unfinished_asks u x index gs ++ ask_of request ∷ [])) name.bindings
      (subst (λ x. unfinished_asks u b x (filed_among n u b request gs) ≡ cond request.last [] (unfinished_asks u b x gs ++ ask_of request ∷ [])) name.indexes
      (asks-filed_same gs one)))

-- a group of another unit, and one whose job is made
unit_kept : (u unit binding index : ℕ) → eqb unit u ≡ false → (g : OpenGroup) → is_collecting unit binding index g ≡ true → is_of_other_unit u g ≡ true
unit_kept u unit binding index apart g passes =
    ap not (ap (λ x. eqb x u) (unfinished_name unit binding index g passes).units ∙ apart)

unit_gone : (u unit binding index : ℕ) → eqb unit u ≡ true → (g : OpenGroup) → is_collecting unit binding index g ≡ true → is_of_other_unit u g ≡ false
unit_gone u unit binding index same g passes =
    ap not (ap (λ x. eqb x u) (unfinished_name unit binding index g passes).units ∙ same)

whole_fails : (serial unit binding index : ℕ) (g : OpenGroup) → has_job serial g ≡ true → is_collecting unit binding index g ≡ false
whole_fails serial unit binding index g whole =
    false_from_ne_true _ (λ passes. true≢false (sym (and_parts _ _ whole).1 ∙ unfinished_part unit binding index g passes))

-- looking back over the history gives the asks of the unfinished group
pub asks_look_back : (history : List GroupCall) (unit binding index : ℕ)
    → unfinished_asks unit binding index (groups_after history).groups ≡ asks_filed unit binding index history
asks_look_back [] unit binding index = refl
asks_look_back (Reserve _ ∷ earlier) unit binding index = asks_look_back earlier unit binding index
asks_look_back (File u b request ∷ earlier) unit binding index =
    let n = (groups_after earlier).next in
    let gs = (groups_after earlier).groups in
    (elim (is_same u b request.index unit binding index)
    as (λ t. is_same u b request.index unit binding index ≡ t
    → unfinished_asks unit binding index (filed_among n u b request gs)
    ≡ cond t (cond request.last [] (asks_filed unit binding index earlier ++ ask_of request ∷ [])) (asks_filed unit binding index earlier)) [
      | true ↦ λ e.
          asks-filed n u b request unit binding index gs (one_unfinished earlier u b request.index) (same_parts u b request.index unit binding index e)
          ∙ ap (λ xs. cond request.last [] (xs ++ ask_of request ∷ [])) (asks_look_back earlier unit binding index)
      | false ↦ λ e.
          ap (λ o. (unwrap_or o (new_group 0 unit binding index)).asks) (find-filed_other n u b request unit binding index e gs)
          ∙ asks_look_back earlier unit binding index
    ]) refl
asks_look_back (Answered job ∷ earlier) unit binding index =
    ap (λ o. (unwrap_or o (new_group 0 unit binding index)).asks)
    (answered_find (is_collecting unit binding index) job.serial (whole_fails job.serial unit binding index) (groups_after earlier).groups)
    ∙ asks_look_back earlier unit binding index
asks_look_back (DropUnit u ∷ earlier) unit binding index =
    let gs = (groups_after earlier).groups in
    let p = is_collecting unit binding index in
    (elim (eqb unit u)
    as (λ t. eqb unit u ≡ t
    → unfinished_asks unit binding index (filter (is_of_other_unit u) gs) ≡ cond t [] (asks_filed unit binding index earlier)) [
      | true ↦ λ e.
          ap (λ o. (unwrap_or o (new_group 0 unit binding index)).asks) (filter_find_none p (is_of_other_unit u) (unit_gone u unit binding index e) gs)
      | false ↦ λ e.
          ap (λ o. (unwrap_or o (new_group 0 unit binding index)).asks) (filter_find p (is_of_other_unit u) (unit_kept u unit binding index e) gs)
          ∙ asks_look_back earlier unit binding index
    ]) refl

pub jobs_hold_their_requests : JobsHoldTheirRequests
jobs_hold_their_requests history unit binding request =
    λ j. cond request.last (Some (record {
      unit = unit;
      binding = binding;
      index = request.index;
      asks = asks_look_back history unit binding request.index j ++ ask_of request ∷ [];
      serial = serial_for (groups_after history) unit binding request.index;
    })) None
