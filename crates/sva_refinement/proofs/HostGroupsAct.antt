-- The groups that the host has open, where one is filed, answered or dropped, and where the endpoint begins one.
use Rattle.std.proofs.Common.{◌≡◌, ◌≢◌, ◌⊎◌, inl, inr, refl, ap, sym, ◌∙◌, ℕ, ◌<◌, Bool, true, false, arith}
use Rattle.std.specs.Prelude.{◌&&◌, not, ◌==◌, [], map}
use Rattle.std.proofs.lemmas.Bool.{and_left}
use Rattle.sva_model.specs.Words.{put, select, any_below}
use Rattle.sva_model.specs.State.{HostGroupState, Mappings, Endpoint}
use Rattle.sva_model.specs.State.HostGroupState.{InHand, Discarded, InHandDiscarded}
use Rattle.sva_model.specs.State.Phase.{Open}
use Rattle.sva_model.specs.States.{is_open, is_open_group}
use Rattle.sva_model.specs.StateChanges.{discarded}
use Rattle.sva_model.specs.Acts.{LocalAct, act_alone}
use Rattle.sva_model.specs.Wire.{number, ask_wire, asks_wire, host_group_wire, host_groups_wire, begins_open, is_part}
use Rattle.sva_labels.proofs.Words.{put-same, put-other, ℕ_cases}
use Rattle.sva_laws.proofs.Legal.{LegalLocalAct}
use Rattle.sva_laws.proofs.Bounds.{Bounds}
use Rattle.sva_laws.proofs.Invariant.{PartInvariant}
use Rattle.sva_labels.proofs.Tests.{first_holds}
use Rattle.sva_refinement.proofs.Picked.{picked_same, picked_none}
use Rattle.sva_refinement.proofs.Selected.{map_twice}
use Rattle.sva_refinement.proofs.UnitQueue.{old_put}
use Rattle.sva_refinement.proofs.HostGroupsFiled.{Filings, filed_made}
use Rattle.sva_refinement.proofs.HostGroupsLists.{begins_same}

-- the group of a filing
abbrev pub filed_group : Endpoint → (filing : ℕ) → ℕ
filed_group p k = p.group_of (p.filing k)

abbrev pub opens : Endpoint → (group : ℕ) → Bool
opens p g = is_open_group (p.host_group g)

-- what the requests of a group ask, filing by filing
pub asks_seen : (p : Endpoint) (g : ℕ) → asks_wire p g ≡ map (λ k. ask_wire p (p.filing k)) (select p.filings (λ k. filed_group p k == g))
asks_seen p g = map_twice (ask_wire p) p.filing (select p.filings (λ k. filed_group p k == g))

-- Two parts with the same filings.

pub record FiledAlike (p q : Endpoint) : Type 0 where
  pub filings : q.filings ≡ p.filings
  pub filing : (k : ℕ) → k < p.filings → q.filing k ≡ p.filing k
  pub group_of : (k : ℕ) → k < p.filings → q.group_of (p.filing k) ≡ p.group_of (p.filing k)
  pub ask : (k : ℕ) → k < p.filings → ask_wire q (p.filing k) ≡ ask_wire p (p.filing k)
  pub same_opens : (k : ℕ) → k < p.filings → opens q (filed_group p k) ≡ opens p (filed_group p k)
  pub under : (k : ℕ) → k < p.filings → opens p (filed_group p k) ≡ true → q.filed_under (filed_group p k) ≡ p.filed_under (filed_group p k)
  pub index : (k : ℕ) → k < p.filings → opens p (filed_group p k) ≡ true → q.index (filed_group p k) ≡ p.index (filed_group p k)
  pub part : (k : ℕ) → k < p.filings → opens p (filed_group p k) ≡ true → is_part (q.host_group (filed_group p k)) ≡ is_part (p.host_group (filed_group p k))

filed_group_same : (p q : Endpoint) → FiledAlike p q → (k : ℕ) → k < p.filings → filed_group q k ≡ filed_group p k
filed_group_same p q a k l = ap q.group_of (a.filing k l) ∙ a.group_of k l

asks_same : (p q : Endpoint) → FiledAlike p q → (g : ℕ) → asks_wire q g ≡ asks_wire p g
asks_same p q a g =
    asks_seen q g
    ∙ ap (λ z. map (λ k. ask_wire q (q.filing k)) (select z (λ k. filed_group q k == g))) a.filings
    ∙ picked_same p.filings (λ k. ask_wire q (q.filing k)) (λ k. ask_wire p (p.filing k)) (λ k. filed_group q k == g) (λ k. filed_group p k == g)
    (λ k l. ap (λ z. z == g) (filed_group_same p q a k l))
    (λ k l h. ap (ask_wire q) (a.filing k l) ∙ a.ask k l)
    ∙ sym (asks_seen p g)

begins_alike : (p q : Endpoint) → FiledAlike p q → (k : ℕ) → k < p.filings → begins_open q k ≡ begins_open p k
begins_alike p q a k l =
    begins_same (opens p) (opens q) (filed_group p) (filed_group q) k (λ j m. filed_group_same p q a j (omega (arith, l, m))) (a.same_opens k l)

pub rest_of : (b c : Bool) → (b && not c) ≡ true → c ≡ false
rest_of b c h = grind arith

pub groups_alike : (first : ℕ) (p q : Endpoint) → FiledAlike p q → host_groups_wire first q ≡ host_groups_wire first p
groups_alike first p q a =
    ap (λ z. map (λ k. host_group_wire first q (filed_group q k)) (select z (begins_open q))) a.filings
    ∙ picked_same p.filings (λ k. host_group_wire first q (filed_group q k)) (λ k. host_group_wire first p (filed_group p k)) (begins_open q) (begins_open p)
    (begins_alike p q a)
    (λ k l h. ap (host_group_wire first q) (filed_group_same p q a k l)
    ∙ entry k l (first_holds (opens p (filed_group p k)) (not (any_below k (λ j. filed_group p j == filed_group p k))) (sym (begins_alike p q a k l) ∙ h)))
  where
    entry : (k : ℕ) → k < p.filings → opens p (filed_group p k) ≡ true → host_group_wire first q (filed_group p k) ≡ host_group_wire first p (filed_group p k)
    entry k l h =
        λ i.
        record {
          binding = number first (a.under k l h i);
          index = a.index k l h i;
          asks = asks_same p q a (filed_group p k) i;
          is_whole =
              not (a.part k l h i);
        }

-- the endpoint makes a page request: of what is filed nothing changes

pub groups_group :
    (g first n : ℕ) (p : Endpoint) (b i q : ℕ) (r x l : Bool) → Bounds g p → Filings p
    → host_groups_wire first (act_alone p n (LocalAct.Group b i q r x l)) ≡ host_groups_wire first p
groups_group g first n p b i q r x l bo fi =
    groups_alike first p (act_alone p n (LocalAct.Group b i q r x l))
    (record {
      filings = refl;
      filing = λ k m. refl;
      group_of = λ k m. old_put p.group_of p.page_requests (p.filing k) p.groups (made k m);
      ask =
          λ k m.
          λ j.
          record {
            page = old_put p.asked_page p.page_requests (p.filing k) q (made k m) j;
            read =
                old_put p.asks_read p.page_requests (p.filing k) r (made k m) j;
            write = old_put p.asks_write p.page_requests (p.filing k) x (made k m) j;
          };
      same_opens = λ k m. refl;
      under = λ k m h. refl;
      index = λ k m h. old_put p.index p.groups (filed_group p k) i (bo.group_of (p.filing k) (made k m));
      part = λ k m h. refl;
    })
  where
    made : (k : ℕ) → k < p.filings → p.filing k < p.page_requests
    made = filed_made g p bo fi

pub groups_request :
    (g first n : ℕ) (p : Endpoint) (w q : ℕ) (r x l : Bool) → Bounds g p → Filings p
    → host_groups_wire first (act_alone p n (LocalAct.Request w q r x l)) ≡ host_groups_wire first p
groups_request g first n p w q r x l bo fi =
    groups_alike first p (act_alone p n (LocalAct.Request w q r x l))
    (record {
      filings = refl;
      filing = λ k m. refl;
      group_of = λ k m. old_put p.group_of p.page_requests (p.filing k) w (made k m);
      ask =
          λ k m.
          λ j.
          record {
            page = old_put p.asked_page p.page_requests (p.filing k) q (made k m) j;
            read =
                old_put p.asks_read p.page_requests (p.filing k) r (made k m) j;
            write = old_put p.asks_write p.page_requests (p.filing k) x (made k m) j;
          };
      same_opens = λ k m. refl;
      under = λ k m h. refl;
      index = λ k m h. refl;
      part = λ k m h. refl;
    })
  where
    made : (k : ℕ) → k < p.filings → p.filing k < p.page_requests
    made = filed_made g p bo fi

-- another state of one group, by which it is open as before, and whole as before

pub groups_state :
    (first : ℕ) (p : Endpoint) (g : ℕ) (s : HostGroupState) → is_open_group s ≡ is_open_group (p.host_group g)
    → (is_open_group (p.host_group g) ≡ true → is_part s ≡ is_part (p.host_group g))
    → host_groups_wire first (record p { host_group = put p.host_group g s }) ≡ host_groups_wire first p
groups_state first p g s o w =
    groups_alike first p (record p { host_group = put p.host_group g s })
    (record {
      filings = refl;
      filing = λ k m. refl;
      group_of = λ k m. refl;
      ask = λ k m. refl;
      same_opens = λ k m. same (filed_group p k) (ℕ_cases (filed_group p k) g);
      under = λ k m h. refl;
      index = λ k m h. refl;
      part = λ k m h. whole (filed_group p k) h (ℕ_cases (filed_group p k) g);
    })
  where
    same : (x : ℕ) → (x ≡ g) ⊎ (x ≢ g) → is_open_group (put p.host_group g s x) ≡ is_open_group (p.host_group x)
    same x (inl e) =
        ap (λ z. is_open_group (put p.host_group g s z)) e ∙ ap is_open_group (put-same p.host_group g s) ∙ o
        ∙ ap (λ z. is_open_group (p.host_group z)) (sym e)
    same x (inr ne) = ap is_open_group (put-other p.host_group g s x ne)

    whole : (x : ℕ) → is_open_group (p.host_group x) ≡ true → (x ≡ g) ⊎ (x ≢ g) → is_part (put p.host_group g s x) ≡ is_part (p.host_group x)
    whole x h (inl e) =
        ap (λ z. is_part (put p.host_group g s z)) e
        ∙ ap is_part (put-same p.host_group g s)
        ∙ w (sym (ap (λ z. is_open_group (p.host_group z)) e) ∙ h)
        ∙ ap (λ z. is_part (p.host_group z)) (sym e)
    whole x h (inr ne) = ap is_part (put-other p.host_group g s x ne)

-- a job goes to a worker

pub groups_hand :
    (ms : Mappings) (g first n : ℕ) (p : Endpoint) (x w : ℕ) → LegalLocalAct ms g p (LocalAct.Hand x w)
    → host_groups_wire first (act_alone p n (LocalAct.Hand x w)) ≡ host_groups_wire first p
groups_hand ms g first n p x w l = groups_state first p x (InHand w) (sym (ap is_open_group l)) (λ h. sym (ap is_part l))

-- a worker's answer goes nowhere: the group isn't open

pub groups_discard :
    (ms : Mappings) (y g first n e : ℕ) (p : Endpoint) (x : ℕ) → LegalLocalAct ms g p (LocalAct.Discard x) → PartInvariant ms y g n e p
    → host_groups_wire first (act_alone p n (LocalAct.Discard x)) ≡ host_groups_wire first p
groups_discard ms y g first n e p x l i = go l.0
  where
    shut : (b : Bool) → is_open p.phase ≡ b → (w : ℕ) → p.host_group x ≢ InHand w
    shut false c w h = absurd (cc (sym (i.resets.unfiled x c) ∙ ap is_open_group h))
    shut true c w h = let ph = is_opened c in absurd (cc (sym (l.1 ph) ∙ (i.groups.open_group x ph (ap is_open_group h)).1))
      where
        is_opened : is_open p.phase ≡ true → p.phase ≡ Open
        is_opened c = grind arith

    go :
        (w : ℕ) × ((p.host_group x ≡ InHand w) ⊎ (p.host_group x ≡ InHandDiscarded w))
        → host_groups_wire first (act_alone p n (LocalAct.Discard x)) ≡ host_groups_wire first p
    go (w, inl h) = absurd (shut (is_open p.phase) refl w h)
    go (w, inr h) = groups_state first p x Discarded (sym (ap is_open_group h)) (λ o. sym (ap is_part h))

-- a reset drops all

dropped : (s : HostGroupState) → is_open_group (discarded s) ≡ false
dropped s = grind arith

pub groups_reset : (first n : ℕ) (p : Endpoint) → host_groups_wire first (act_alone p n LocalAct.Reset) ≡ []
groups_reset first n p =
    picked_none p.filings (λ k. host_group_wire first (act_alone p n LocalAct.Reset) (filed_group p k)) (begins_open (act_alone p n LocalAct.Reset))
    (λ k l. and_left (is_open_group (discarded (p.host_group (filed_group p k)))) (not (any_below k (λ j. filed_group p j == filed_group p k)))
    (dropped (p.host_group (filed_group p k))))
