-- What the host has filed of the group of a page request that has arrived, looked up in what it keeps.
use Rattle.std.proofs.Common.{◌≡◌, ◌⊎◌, inl, inr, refl, ap, sym, ◌∙◌, ℕ, ◌<◌, Bool, true, arith}
use Rattle.std.specs.Prelude.{Option, Some, None, option_map, ◌&&◌, not, ◌==◌, [], ◌∷◌, ◌++◌}
use Rattle.std.specs.List as lists
use Rattle.std.proofs.lemmas.Bool.{and_from, eq-eqb, eqb-true, false_from_ne_true}
use Rattle.sva_model.specs.Words.{find}
use Rattle.sva_model.specs.State.{Endpoint}
use Rattle.sva_model.specs.State.PageRequestState.{Arrived}
use Rattle.sva_model.specs.State.HostGroupState.{NotFiled, PartFiled}
use Rattle.sva_model.specs.State.Phase.{Open}
use Rattle.sva_model.specs.States.{is_open_group, is_outstanding}
use Rattle.sva_model.specs.Acts.{LocalAct, act_alone}
use Rattle.sva_model.specs.State.{Mappings}
use Rattle.sva_model.specs.Wire.{number, ask_wire, asks_wire, begins_open, is_part, host_group_wire, host_groups_wire}
use Rattle.sva_labels.proofs.Words.{find_passes, find_some}
use Rattle.sva_laws.proofs.Groups.{is_filed_group}
use Rattle.sva_laws.proofs.Invariant.{PartInvariant}
use Rattle.sva_laws.proofs.OnTheWay.{OnTheWay}
use Rattle.sva_labels.proofs.Tests.{all_three, first_holds, same_inside, second_holds}
use Rattle.sva_labels.proofs.Lists.{none_below}
use Rattle.sva_labels.specs.Moves.{is_begun}
use Rattle.sva_labels.specs.Outcomes.{asks_of}
use Rattle.sva_refinement.proofs.HostGroupsAct.{filed_group, asks_seen}
use Rattle.sva_refinement.proofs.HostGroupsFile.{arrived_in, asks_filed}
use Rattle.sva_refinement.proofs.HostGroupsFiled.{Filings}
use Rattle.sva_refinement.proofs.LookedGroups.{Begun, begun}
use Rattle.sva_refinement.proofs.LookedLists.{find_seen}
use Rattle.sva_refinement.proofs.Picked.{if_passes}
use Rattle.sva_refinement.proofs.SaysUnits.{none_picked}

-- nothing stands filed of a group of which nothing is filed
none_filed :
    (p : Endpoint) (g : ℕ) → Filings p → ((r : ℕ) → is_filed_group (p.host_group g) ≡ true → p.group_of r ≡ g → ⊥)
    → ((k : ℕ) → k < p.filings → p.group_of (p.filing k) ≡ g → is_filed_group (p.host_group g) ≡ true) → asks_wire p g ≡ []
none_filed p g fi never filed =
    asks_seen p g
    ∙ none_picked (λ k. ask_wire p (p.filing k)) p.filings (λ k. filed_group p k == g)
    (none_below p.filings (λ k. filed_group p k == g)
    (λ k l. false_from_ne_true (filed_group p k == g) (λ t. let e = eqb-true (filed_group p k) g t in never (p.filing k) (filed k l e) e)))

-- an open group of the same index is this one
pub one_group :
    (ms : Mappings) (x g n e : ℕ) (p : Endpoint) (y z : ℕ) → PartInvariant ms x g n e p → p.phase ≡ Open → is_outstanding (p.group y) ≡ true
    → is_open_group (p.host_group z) ≡ true → p.index z ≡ p.index y → z ≡ y
one_group ms x g n e p y z i ph out op h =
    let a : p.at_index (p.index y) ≡ Some y = i.groups.bears_index y out in
    let b : p.at_index (p.index z) ≡ Some z = i.groups.bears_index z (i.groups.open_group z ph op).0 in
    let c : p.at_index (p.index z) ≡ p.at_index (p.index y) = ap p.at_index h in
    same_inside (sym b ∙ c ∙ a)

pub asks_there :
    (ms : Mappings) (x g n e first : ℕ) (p : Endpoint) (r : ℕ) → PartInvariant ms x g n e p → OnTheWay p → Filings p → p.phase ≡ Open
    → p.page_request r ≡ Arrived
    → asks_of (lists.find (is_begun (number first (p.asker (p.group_of r))) (p.index (p.group_of r))) (host_groups_wire first p)) ≡ asks_wire p (p.group_of r)
asks_there ms x g n e first p r i on fi ph ar =
    ap asks_of
    (find_seen (λ k. host_group_wire first p (filed_group p k)) (is_begun (number first (p.asker (p.group_of r))) (p.index (p.group_of r))) p.filings
    (begins_open p))
    ∙ go (find p.filings
    (λ k. begins_open p k && is_begun (number first (p.asker (p.group_of r))) (p.index (p.group_of r)) (host_group_wire first p (filed_group p k)))) refl
  where
    out : is_outstanding (p.group (p.group_of r)) ≡ true
    out = i.lasts.out r ph (inr ar)

    not_filed : p.host_group (p.group_of r) ≡ NotFiled → is_filed_group (p.host_group (p.group_of r)) ≡ true → ⊥
    not_filed h k = absurd (cc (sym (ap is_filed_group h) ∙ k))

    filed : (k : ℕ) → k < p.filings → p.group_of (p.filing k) ≡ p.group_of r → is_filed_group (p.host_group (p.group_of r)) ≡ true
    filed k l c = ap (λ z. is_filed_group (p.host_group z)) (sym c) ∙ (i.groups.filed (p.filing k) (fi.filed k l)).0

    passes :
        (b : Begun p (p.group_of r)) → p.host_group (p.group_of r) ≡ PartFiled
        → (begins_open p b.filing && is_begun (number first (p.asker (p.group_of r))) (p.index (p.group_of r))
        (host_group_wire first p (filed_group p b.filing))) ≡ true
    passes b h =
        and_from (begins_open p b.filing)
        (is_begun (number first (p.asker (p.group_of r))) (p.index (p.group_of r)) (host_group_wire first p (filed_group p b.filing))) b.first
        (ap (λ z. is_begun (number first (p.asker (p.group_of r))) (p.index (p.group_of r)) (host_group_wire first p z)) b.its
        ∙ all_three (number first (p.filed_under (p.group_of r)) == number first (p.asker (p.group_of r)))
        (p.index (p.group_of r) == p.index (p.group_of r)) (is_part (p.host_group (p.group_of r)))
        (eq-eqb (number first (p.filed_under (p.group_of r))) (number first (p.asker (p.group_of r)))
        (ap (number first) (i.groups.under (p.group_of r) (ap is_filed_group h))))
        (eq-eqb (p.index (p.group_of r)) (p.index (p.group_of r)) refl)
        (ap is_part h))

    its_group :
        (k : ℕ)
        → (begins_open p k && is_begun (number first (p.asker (p.group_of r))) (p.index (p.group_of r)) (host_group_wire first p (filed_group p k))) ≡ true
        → filed_group p k ≡ p.group_of r
    its_group k h =
        let opens =
        first_holds (is_open_group (p.host_group (filed_group p k))) _
        (first_holds (begins_open p k)
        (is_begun (number first (p.asker (p.group_of r))) (p.index (p.group_of r)) (host_group_wire first p (filed_group p k))) h) in
        let index =
        eqb-true (p.index (filed_group p k)) (p.index (p.group_of r))
        (middle (number first (p.filed_under (filed_group p k)) == number first (p.asker (p.group_of r)))
        (p.index (filed_group p k) == p.index (p.group_of r)) (not (is_part (p.host_group (filed_group p k))))
        (second_holds (begins_open p k)
        (is_begun (number first (p.asker (p.group_of r))) (p.index (p.group_of r)) (host_group_wire first p (filed_group p k))) h)) in
        one_group ms x g n e p (p.group_of r) (filed_group p k) i ph out opens index
      where
        middle : (a b c : Bool) → (a && b && not c) ≡ true → b ≡ true
        middle a b c h = grind arith

    none_there :
        find p.filings
        (λ k. begins_open p k && is_begun (number first (p.asker (p.group_of r))) (p.index (p.group_of r)) (host_group_wire first p (filed_group p k))) ≡ None
        → (p.host_group (p.group_of r) ≡ NotFiled) ⊎ (p.host_group (p.group_of r) ≡ PartFiled) → [] ≡ asks_wire p (p.group_of r)
    none_there h (inl c) = sym (none_filed p (p.group_of r) fi (λ z k d. not_filed c k) filed)
    none_there h (inr c) =
        let b = begun p (p.group_of r) fi (ap is_open_group c) in
        absurd (cc
        (sym (find_some p.filings
        (λ k. begins_open p k && is_begun (number first (p.asker (p.group_of r))) (p.index (p.group_of r))
        (host_group_wire first p (filed_group p k))) b.filing b.made (passes b c)) ∙ h))

    go :
        (o : Option ℕ)
        → find p.filings
        (λ k. begins_open p k && is_begun (number first (p.asker (p.group_of r))) (p.index (p.group_of r)) (host_group_wire first p (filed_group p k))) ≡ o
        → asks_of (option_map (λ k. host_group_wire first p (filed_group p k)) o) ≡ asks_wire p (p.group_of r)
    go None h = none_there h (arrived_in ms x g n e p r i on ph ar)
    go (Some k) h =
        ap (asks_wire p)
        (its_group k
        (find_passes p.filings
        (λ k. begins_open p k && is_begun (number first (p.asker (p.group_of r))) (p.index (p.group_of r))
        (host_group_wire first p (filed_group p k))) k h).1)

-- and with the request itself, which is filed last
pub asks_then :
    (ms : Mappings) (x g n e first : ℕ) (p : Endpoint) (r : ℕ) → PartInvariant ms x g n e p → OnTheWay p → Filings p → p.phase ≡ Open
    → p.page_request r ≡ Arrived
    → asks_of (lists.find (is_begun (number first (p.asker (p.group_of r))) (p.index (p.group_of r))) (host_groups_wire first p)) ++ ask_wire p r ∷ []
    ≡ asks_wire (act_alone p n (LocalAct.File r)) (p.group_of r)
asks_then ms x g n e first p r i on fi ph ar =
    ap (λ xs. xs ++ ask_wire p r ∷ []) (asks_there ms x g n e first p r i on fi ph ar)
    ∙ ap (λ b. asks_wire p (p.group_of r) ++ if_passes b (ask_wire p r)) (sym (eq-eqb (p.group_of r) (p.group_of r) refl))
    ∙ sym (asks_filed p n r (p.group_of r))
