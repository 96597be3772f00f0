-- The groups that the host has open, where a page request is filed in one, and where one is answered. At an open unit no two
-- of them have the same index.
use Rattle.std.proofs.Common.{◌≡◌, ◌≢◌, ◌⊎◌, inl, inr, refl, ap, ap₂, sym, ◌∙◌, ℕ, ◌<◌, ◌≤◌, Bool, true, false, arith, append-nil}
use Rattle.std.specs.Prelude.{◌&&◌, not, ◌==◌, Some, List, [], ◌∷◌, ◌++◌, filter}
use Rattle.std.proofs.lemmas.Bool.{and_left, cases_lt, eq-eqb, eqb-true, ne_eqb}
use Rattle.sva_model.specs.Words.{put, any_below, lowest}
use Rattle.sva_model.specs.Message.{Code}
use Rattle.sva_model.specs.State.{HostGroupState, Mappings, Endpoint, Stage}
use Rattle.sva_model.specs.State.PageRequestState.{Arrived, Dropped}
use Rattle.sva_model.specs.State.HostGroupState.{NotFiled, PartFiled, Job, InHand, Replied, Discarded, InHandDiscarded}
use Rattle.sva_model.specs.State.Phase.{Open}
use Rattle.sva_model.specs.States.{is_open_group, is_outstanding, is_before_invalidating}
use Rattle.sva_model.specs.StateChanges.{filed_as}
use Rattle.sva_model.specs.Acts.{LocalAct, act_alone}
use Rattle.sva_model.specs.Wire.{number, ask_wire, asks_wire, page_request_wire, host_group_wire, host_groups_wire, group_job, begins_open, is_part}
use Rattle.sva_model.specs.Wire.{AskWire, HostGroupWire}
use Rattle.sva_labels.proofs.Lists.{none_below}
use Rattle.sva_labels.proofs.Words.{put-same, put-other, ℕ_cases, any_below-false, any_below-intro, lowest_below}
use Rattle.sva_laws.proofs.Legal.{LegalLocalAct}
use Rattle.sva_laws.proofs.Orders.{is_active}
use Rattle.sva_laws.proofs.PageRequests.{is_whole}
use Rattle.sva_laws.proofs.Groups.{Groups, is_filed_group}
use Rattle.sva_laws.proofs.Invariant.{PartInvariant}
use Rattle.sva_laws.proofs.OnTheWay.{OnTheWay}
use Rattle.sva_labels.proofs.Tests.{all_three, first_alone, first_holds}
use Rattle.sva_labels.specs.Moves.{filed, is_begun, is_of_job}
use Rattle.sva_refinement.proofs.Picked.{if_passes, picked_next, picked_same, picked_none, picked_filter}
use Rattle.sva_refinement.proofs.UnitQueue.{old_put}
use Rattle.sva_refinement.proofs.HostGroupsFiled.{Filings}
use Rattle.sva_refinement.proofs.HostGroupsLists.{begun_by, added_to, filed_new, filed_into, begins_same}
use Rattle.sva_refinement.proofs.HostGroupsAct.{filed_group, opens, asks_seen, rest_of}

-- two open groups with the same index are one
same_index : (p : Endpoint) → Groups p → p.phase ≡ Open → (g h : ℕ) → is_outstanding (p.group g) ≡ true → opens p h ≡ true → p.index h ≡ p.index g → h ≡ g
same_index p gr ph g h og oh e =
    let a : p.at_index (p.index g) ≡ Some g = gr.bears_index g og in
    let b : p.at_index (p.index h) ≡ Some h = gr.bears_index h (gr.open_group h ph oh).0 in
    let c : p.at_index (p.index h) ≡ p.at_index (p.index g) = ap p.at_index e in
    cc

-- A group is answered.

none_of : (a b : Bool) → b ≡ false → not (a && b) ≡ true
none_of a b h = grind arith

one_of : (a b : Bool) → a ≡ true → b ≡ true → not (a && b) ≡ false
one_of a b h i = grind arith

in_hand_of :
    (s : HostGroupState) (t : Stage) → (w : ℕ) × ((s ≡ InHand w) ⊎ (s ≡ InHandDiscarded w))
    → ((w : ℕ) → s ≡ InHandDiscarded w → is_active t ≡ false) → is_before_invalidating t ≡ true → is_open_group s ≡ true
in_hand_of s t (w, inl h) d b = ap is_open_group h
in_hand_of s t (w, inr h) d b = absurd (inactive t (d w h) b)
  where
    inactive : (t : Stage) → is_active t ≡ false → is_before_invalidating t ≢ true
    inactive t h b = grind arith

pub groups_respond :
    (ms : Mappings) (y g first n e : ℕ) (p : Endpoint) (x : ℕ) (code : Code) → LegalLocalAct ms g p (LocalAct.Respond x code) → PartInvariant ms y g n e p
    → host_groups_wire first (act_alone p n (LocalAct.Respond x code)) ≡ filter (λ z. not (is_of_job (group_job first e p x) z)) (host_groups_wire first p)
groups_respond ms y g first n e p x code l i =
    picked_filter p.filings (λ k. host_group_wire first p (filed_group p k)) (λ k. host_group_wire first q (filed_group p k)) (begins_open p)
    (begins_open q) (λ z. not (is_of_job (group_job first e p x) z))
    (λ k m b. passes k b (ℕ_cases (filed_group p k) x))
    (λ k m b. fails k b (ℕ_cases (filed_group p k) x))
    (λ k m b. entry k b (ℕ_cases (filed_group p k) x))
  where
    q : Endpoint
    q = act_alone p n (LocalAct.Respond x code)

    older : ℕ → Bool
    older k = not (any_below k (λ j. filed_group p j == filed_group p k))

    out : is_outstanding (p.group x) ≡ true
    out = (i.groups.open_group x l.0 (in_hand_of (p.host_group x) (p.stage (p.filed_under x)) l.1 (λ w h. i.groups.discarded x w l.0 h) l.2)).0

    gone : (k : ℕ) → filed_group p k ≡ x → is_open_group (put p.host_group x Replied (filed_group p k)) ≡ false
    gone k c = ap (λ z. is_open_group (put p.host_group x Replied z)) c ∙ ap is_open_group (put-same p.host_group x Replied)

    stays : (k : ℕ) → filed_group p k ≢ x → begins_open q k ≡ begins_open p k
    stays k ne = ap (λ z. is_open_group z && older k) (put-other p.host_group x Replied (filed_group p k) ne)

    passes :
        (k : ℕ) → begins_open p k ≡ true → (filed_group p k ≡ x) ⊎ (filed_group p k ≢ x)
        → begins_open q k ≡ not (is_of_job (group_job first e p x) (host_group_wire first p (filed_group p k)))
    passes k b (inl c) =
        and_left (is_open_group (put p.host_group x Replied (filed_group p k))) (older k) (gone k c)
        ∙ sym (one_of (number first (p.filed_under (filed_group p k)) == number first (p.filed_under x)) (p.index (filed_group p k) == p.index x)
        (eq-eqb (number first (p.filed_under (filed_group p k))) (number first (p.filed_under x)) (ap (λ z. number first (p.filed_under z)) c))
        (eq-eqb (p.index (filed_group p k)) (p.index x) (ap p.index c)))
    passes k b (inr ne) =
        stays k ne ∙ b
        ∙ sym (none_of (number first (p.filed_under (filed_group p k)) == number first (p.filed_under x)) (p.index (filed_group p k) == p.index x)
        (ne_eqb (p.index (filed_group p k)) (p.index x)
        (λ s. ne (same_index p i.groups l.0 x (filed_group p k) out (first_holds (opens p (filed_group p k)) (older k) b) s))))

    fails : (k : ℕ) → begins_open p k ≡ false → (filed_group p k ≡ x) ⊎ (filed_group p k ≢ x) → begins_open q k ≡ false
    fails k b (inl c) = and_left (is_open_group (put p.host_group x Replied (filed_group p k))) (older k) (gone k c)
    fails k b (inr ne) = stays k ne ∙ b

    entry :
        (k : ℕ) → begins_open q k ≡ true → (filed_group p k ≡ x) ⊎ (filed_group p k ≢ x)
        → host_group_wire first q (filed_group p k) ≡ host_group_wire first p (filed_group p k)
    entry k b (inl c) = absurd (cc (sym (and_left (is_open_group (put p.host_group x Replied (filed_group p k))) (older k) (gone k c)) ∙ b))
    entry k b (inr ne) =
        ap (λ (s : HostGroupState). record (host_group_wire first p (filed_group p k)) { is_whole = not (is_part s) })
        (put-other p.host_group x Replied (filed_group p k) ne)

-- A page request is filed. At an open unit its group isn't whole, and no reset has dropped it.

pub arrived_in :
    (ms : Mappings) (x g n e : ℕ) (p : Endpoint) (r : ℕ) → PartInvariant ms x g n e p → OnTheWay p → p.phase ≡ Open → p.page_request r ≡ Arrived
    → (p.host_group (p.group_of r) ≡ NotFiled) ⊎ (p.host_group (p.group_of r) ≡ PartFiled)
arrived_in ms x g n e p r i on ph a = go (p.host_group (p.group_of r)) refl
  where
    made : (p.page_requests ≤ r → p.page_request r ≡ Dropped) → r < p.page_requests
    made d = grind (arith)

    out : is_outstanding (p.group (p.group_of r)) ≡ true
    out = i.lasts.out r ph (inr a)

    not_whole : is_whole (p.host_group (p.group_of r)) ≢ true
    not_whole h = absurd (cc (sym a ∙ i.lasts.whole r h (made (i.bounds.page_request r))))

    go : (s : HostGroupState) → p.host_group (p.group_of r) ≡ s → (p.host_group (p.group_of r) ≡ NotFiled) ⊎ (p.host_group (p.group_of r) ≡ PartFiled)
    go NotFiled h = inl h
    go PartFiled h = inr h
    go Job h = absurd (not_whole (ap is_whole h))
    go (InHand w) h = absurd (not_whole (ap is_whole h))
    go Replied h = absurd (not_whole (ap is_whole h))
    go Discarded h = absurd (cc (sym out ∙ on.discarded (p.group_of r) ph h))
    go (InHandDiscarded w) h = absurd (cc (sym out ∙ i.groups.discarded_over (p.group_of r) w ph h))

-- what is asked in a group once a request is filed
pub asks_filed : (p : Endpoint) (n r h : ℕ) → asks_wire (act_alone p n (LocalAct.File r)) h ≡ asks_wire p h ++ if_passes (p.group_of r == h) (ask_wire p r)
asks_filed p n r h =
    asks_seen (act_alone p n (LocalAct.File r)) h
    ∙ picked_next (λ k. ask_wire p (put p.filing p.filings r k)) p.filings (λ k. p.group_of (put p.filing p.filings r k) == h)
    ∙ ap₂ (λ xs ys. xs ++ ys)
    (
    picked_same p.filings (λ k. ask_wire p (put p.filing p.filings r k)) (λ k. ask_wire p (p.filing k))
    (λ k. p.group_of (put p.filing p.filings r k) == h) (λ k. filed_group p k == h)
    (λ k l. ap (λ z. p.group_of z == h) (old_put p.filing p.filings k r l))
    (λ k l t. ap (ask_wire p) (old_put p.filing p.filings k r l))
    ∙ sym (asks_seen p h)
    )
    (ap (λ z. if_passes (p.group_of z == h) (ask_wire p z)) (put-same p.filing p.filings r))

filed_is_open : (b : Bool) → is_open_group (filed_as b) ≡ true
filed_is_open true = refl
filed_is_open false = refl

filed_whole : (b : Bool) → not (is_part (filed_as b)) ≡ b
filed_whole true = refl
filed_whole false = refl

begun_not : (a b c : Bool) → b ≡ false → (a && b && c) ≡ false
begun_not a b c h = grind arith

-- an open group by its fields
abbrev pub entry_of : (binding index : ℕ) → List AskWire → Bool → HostGroupWire
entry_of b i asks whole = record { binding = b; index = i; asks = asks; is_whole = whole }

module _ (ms : Mappings) (x g n e first : ℕ) (p : Endpoint) (r : ℕ) (l : LegalLocalAct ms g p (LocalAct.File r)) (i : PartInvariant ms x g n e p)
    (fi : Filings p) where
  abbrev after : Endpoint
  after = act_alone p n (LocalAct.File r)

  abbrev own_group : ℕ
  own_group = p.group_of r

  abbrev bound : ℕ
  bound = number first (p.asker own_group)

  out : is_outstanding (p.group own_group) ≡ true
  out = i.lasts.out r l.0 (inr l.1)

  old_group : (k : ℕ) → k < p.filings → filed_group after k ≡ filed_group p k
  old_group k m = ap p.group_of (old_put p.filing p.filings k r m)

  new_group : filed_group after p.filings ≡ own_group
  new_group = ap p.group_of (put-same p.filing p.filings r)

  -- the entry of another group is as it was
  other_entry : (h : ℕ) → h ≢ own_group → host_group_wire first after h ≡ host_group_wire first p h
  other_entry h ne =
      λ j.
      record {
        binding = number first (put-other p.filed_under own_group (p.asker own_group) h ne j);
        index = p.index h;
        asks =
            (asks_filed p n r h ∙ ap (λ z. asks_wire p h ++ if_passes z (ask_wire p r)) (ne_eqb own_group h (λ s. ne (sym s)))
            ∙ append-nil (asks_wire p h)) j;
        is_whole = not (is_part (put-other p.host_group own_group (filed_as (p.is_last r)) h ne j));
      }

  -- the entry of its own group
  own_entry : host_group_wire first after own_group ≡ entry_of bound (p.index own_group) (asks_wire p own_group ++ ask_wire p r ∷ []) (p.is_last r)
  own_entry =
      λ j.
      record {
        binding = number first (put-same p.filed_under own_group (p.asker own_group) j);
        index = p.index own_group;
        asks = (asks_filed p n r own_group ∙ ap (λ z. asks_wire p own_group ++ if_passes z (ask_wire p r)) (eq-eqb own_group own_group refl)) j;
        is_whole = (ap (λ s. not (is_part s)) (put-same p.host_group own_group (filed_as (p.is_last r))) ∙ filed_whole (p.is_last r)) j;
      }

  other_opens : (h : ℕ) → h ≢ own_group → opens after h ≡ opens p h
  other_opens h ne = ap is_open_group (put-other p.host_group own_group (filed_as (p.is_last r)) h ne)

  own_opens : opens after own_group ≡ true
  own_opens = ap is_open_group (put-same p.host_group own_group (filed_as (p.is_last r))) ∙ filed_is_open (p.is_last r)

  -- an open group that isn't its own isn't the one that is begun
  not_begun : (h : ℕ) → opens p h ≡ true → h ≢ own_group → is_begun bound (p.index own_group) (host_group_wire first p h) ≡ false
  not_begun h o ne =
      begun_not (number first (p.filed_under h) == bound) (p.index h == p.index own_group) (not (not (is_part (p.host_group h))))
      (ne_eqb (p.index h) (p.index own_group) (λ s. ne (same_index p i.groups l.0 own_group h out o s)))

  begins_old : (k : ℕ) → k < p.filings → ((filed_group p k ≡ own_group) → opens p own_group ≡ true) → begins_open after k ≡ begins_open p k
  begins_old k m o =
      begins_same (opens p) (opens after) (filed_group p) (filed_group after) k (λ j t. old_group j (omega (arith, m, t)))
      (go (ℕ_cases (filed_group p k) own_group))
    where
      go : (filed_group p k ≡ own_group) ⊎ (filed_group p k ≢ own_group) → opens after (filed_group p k) ≡ opens p (filed_group p k)
      go (inl c) = ap (opens after) c ∙ own_opens ∙ sym (ap (opens p) c ∙ o c)
      go (inr ne) = other_opens (filed_group p k) ne

  -- nothing of its group was filed: it begins one at the end
  first_of : p.host_group own_group ≡ NotFiled → host_groups_wire first after ≡ filed bound (page_request_wire p r) (host_groups_wire first p)
  first_of h =
      picked_next (λ k. host_group_wire first after (filed_group after k)) p.filings (begins_open after)
      ∙ ap₂ (λ xs ys. xs ++ ys)
      (
      picked_same p.filings (λ k. host_group_wire first after (filed_group after k)) (λ k. host_group_wire first p (filed_group p k))
      (begins_open after) (begins_open p)
      (λ k m. begins_old k m (λ c. absurd (apart k m c)))
      (λ k m b. ap (host_group_wire first after) (old_group k m) ∙ other_entry (filed_group p k) (apart k m))
      )
      (ap₂ (λ b z. if_passes b z) begins_new
      (ap (host_group_wire first after) new_group ∙ own_entry
      ∙ ap (λ (xs : List AskWire). record (begun_by bound (page_request_wire p r)) { asks = xs ++ ask_wire p r ∷ [] }) none_asked))
      ∙ sym (filed_new bound (page_request_wire p r) p.filings (λ k. host_group_wire first p (filed_group p k)) (begins_open p)
      (λ k m b. not_begun (filed_group p k) (first_holds (opens p (filed_group p k)) (not (any_below k (λ j. filed_group p j == filed_group p k))) b)
      (apart k m)))
    where
      apart : (k : ℕ) → k < p.filings → filed_group p k ≢ own_group
      apart k m c = absurd (cc (sym (ap is_filed_group (ap p.host_group c ∙ h)) ∙ (i.groups.filed (p.filing k) (fi.filed k m)).0))

      begins_new : begins_open after p.filings ≡ true
      begins_new =
          first_alone (opens after (filed_group after p.filings)) (any_below p.filings (λ j. filed_group after j == filed_group after p.filings))
          (ap (opens after) new_group ∙ own_opens)
          (none_below p.filings (λ j. filed_group after j == filed_group after p.filings)
          (λ j m. ap₂ (λ a b. a == b) (old_group j m) new_group ∙ ne_eqb (filed_group p j) own_group (apart j m)))

      none_asked : asks_wire p own_group ≡ []
      none_asked =
          asks_seen p own_group
          ∙ picked_none p.filings (λ k. ask_wire p (p.filing k)) (λ k. filed_group p k == own_group) (λ k m. ne_eqb (filed_group p k) own_group (apart k m))

  -- some of its group was filed: it is added to that
  more_of :
      p.host_group own_group ≡ PartFiled → (k : ℕ) × (k < p.filings) × (filed_group p k ≡ own_group)
      → host_groups_wire first after ≡ filed bound (page_request_wire p r) (host_groups_wire first p)
  more_of h (j, m, c) =
      picked_next (λ k. host_group_wire first after (filed_group after k)) p.filings (begins_open after)
      ∙ ap₂ (λ xs ys. xs ++ ys)
      (
      picked_same p.filings (λ k. host_group_wire first after (filed_group after k)) (λ k. host_group_wire first after (filed_group p k))
      (begins_open after) (begins_open p)
      (λ k t. begins_old k t (λ s. ap is_open_group h))
      (λ k t b. ap (host_group_wire first after) (old_group k t))
      )
      (ap (λ b. if_passes b (host_group_wire first after (filed_group after p.filings))) begins_no_new)
      ∙ filed_into bound (page_request_wire p r) p.filings least (λ k. host_group_wire first p (filed_group p k))
      (λ k. host_group_wire first after (filed_group p k)) (begins_open p) [] least_low begins_least begun_least least_entry others
      ∙ ap (filed bound (page_request_wire p r)) (append-nil (host_groups_wire first p))
    where
      least : ℕ
      least = lowest p.filings (λ k. filed_group p k == own_group)

      at_least : (least < p.filings) × ((filed_group p least == own_group) ≡ true) × ((k : ℕ) → k < least → (filed_group p k == own_group) ≡ false)
      at_least = lowest_below p.filings (λ k. filed_group p k == own_group) j m (eq-eqb (filed_group p j) own_group c)

      least_low : least < p.filings
      least_low = at_least.0

      least_group : filed_group p least ≡ own_group
      least_group = eqb-true (filed_group p least) own_group at_least.1

      begins_least : begins_open p least ≡ true
      begins_least =
          first_alone (opens p (filed_group p least)) (any_below least (λ k. filed_group p k == filed_group p least))
          (ap (opens p) least_group ∙ ap is_open_group h)
          (none_below least (λ k. filed_group p k == filed_group p least) (λ k t. ap (λ z. filed_group p k == z) least_group ∙ at_least.2 k t))

      under : p.filed_under own_group ≡ p.asker own_group
      under = i.groups.under own_group (ap is_filed_group h)

      begun_least : is_begun bound (p.index own_group) (host_group_wire first p (filed_group p least)) ≡ true
      begun_least =
          ap (λ z. is_begun bound (p.index own_group) (host_group_wire first p z)) least_group
          ∙ all_three (number first (p.filed_under own_group) == bound) (p.index own_group == p.index own_group) (is_part (p.host_group own_group))
          (eq-eqb (number first (p.filed_under own_group)) bound (ap (number first) under)) (eq-eqb (p.index own_group) (p.index own_group) refl)
          (ap is_part h)

      least_entry : host_group_wire first after (filed_group p least) ≡ added_to (page_request_wire p r) (host_group_wire first p (filed_group p least))
      least_entry =
          ap (host_group_wire first after) least_group
          ∙ own_entry
          ∙ ap (λ (b : ℕ). entry_of b (p.index own_group) (asks_wire p own_group ++ ask_wire p r ∷ []) (p.is_last r)) (sym (ap (number first) under))
          ∙ sym (ap (λ z. added_to (page_request_wire p r) (host_group_wire first p z)) least_group)

      -- only the oldest filing of the group begins it
      others :
          (k : ℕ) → k < p.filings → k ≢ least → begins_open p k ≡ true
          → (is_begun bound (p.index own_group) (host_group_wire first p (filed_group p k)) ≡ false)
          × (host_group_wire first after (filed_group p k) ≡ host_group_wire first p (filed_group p k))
      others k t ne b = (
        not_begun (filed_group p k)
            (first_holds (opens p (filed_group p k)) (not (any_below k (λ z. filed_group p z == filed_group p k))) b) apart,
        other_entry (filed_group p k) apart,
      )
        where
          apart : filed_group p k ≢ own_group
          apart s = below (cases_lt k least)
            where
              below : (k < least) ⊎ (least ≤ k) → ⊥
              below (inl u) = absurd (cc (sym (at_least.2 k u) ∙ eq-eqb (filed_group p k) own_group s))
              below (inr u) =
                  absurd (cc
                  (sym (any_below-false k (λ z. filed_group p z == filed_group p k)
                  (rest_of (opens p (filed_group p k)) (any_below k (λ z. filed_group p z == filed_group p k)) b) least (omega (arith, u, ne)))
                  ∙ eq-eqb (filed_group p least) (filed_group p k) (least_group ∙ sym s)))

      begins_no_new : begins_open after p.filings ≡ false
      begins_no_new =
          not_first (opens after (filed_group after p.filings)) (any_below p.filings (λ k. filed_group after k == filed_group after p.filings))
          (any_below-intro p.filings (λ k. filed_group after k == filed_group after p.filings) least least_low
          (eq-eqb (filed_group after least) (filed_group after p.filings) (old_group least least_low ∙ least_group ∙ sym new_group)))
        where
          not_first : (a b : Bool) → b ≡ true → (a && not b) ≡ false
          not_first a b s = grind arith

  pub groups_file :
      (p.host_group (p.group_of r) ≡ NotFiled) ⊎ (p.host_group (p.group_of r) ≡ PartFiled)
      → host_groups_wire first (act_alone p n (LocalAct.File r))
      ≡ filed (number first (p.asker (p.group_of r))) (page_request_wire p r) (host_groups_wire first p)
  groups_file (inl h) = first_of h
  groups_file (inr h) = more_of h (fi.begun own_group (ap is_filed_group h))
