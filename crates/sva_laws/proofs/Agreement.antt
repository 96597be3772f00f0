-- From the invariant to what is claimed: usable translations, matched page requests, frames in one place.
use Rattle.std.proofs.Common.{◌≡◌, ◌≢◌, ◌⊎◌, inl, inr, refl, ap, sym, subst, ◌∙◌, ℕ, suc, ◌+◌, ◌<◌, ◌≤◌, Bool, true, false, arith}
use Rattle.std.specs.Prelude.{Option, Some, None}
use Rattle.std.proofs.lemmas.Bool.Decides.{nat_tests}
use Rattle.sva_model.specs.Words.{all_below}
use Rattle.sva_model.specs.State.{Owed, MappingState, PasidState, Endpoint, World, Stage, HostGroupState}
use Rattle.sva_model.specs.State.Owed.{Nothing, Ranges, Pasid, NextReset}
use Rattle.sva_model.specs.State.MappingState.{Unmade, Present, Gone}
use Rattle.sva_model.specs.State.Stage.{Stopping, Invalidating}
use Rattle.sva_model.specs.State.PasidState.{Off, On, Ending}
use Rattle.sva_model.specs.State.Phase.{Open}
use Rattle.sva_model.specs.State.OrderState.{Done}
use Rattle.sva_model.specs.States.{is_unreleased, is_open, is_done, answered, place, place_at}
use Rattle.sva_model.specs.States.{place_by, place_of_gone}
use Rattle.sva_model.specs.States.Place.{Mapped, Withheld}
use Rattle.sva_model.specs.Claims.{Usable, IsPresent, IsAt, IsMapped, IsBearer, HasSentMarker, IsMatched, asker_of}
use Rattle.sva_model.specs.Claims.Usable.{cached, in_use, under_way}
use Rattle.sva_labels.proofs.Words.{all_below-false}
use Rattle.sva_laws.proofs.Bindings.{Bindings, is_unmarked, before_unreleased, unmarked_not_invalidating, unmarked_unreleased}
use Rattle.sva_laws.proofs.Labels.{Labels}
use Rattle.sva_laws.proofs.Orders.{is_active, active_unreleased}
use Rattle.sva_laws.proofs.Owners.{blocks, asker_stage}
use Rattle.sva_laws.proofs.Safe.{StrikesFirst, Pending, IsSafe, owed_of}
use Rattle.sva_laws.proofs.Groups.{is_filed_group, times_replied, answerable_outstanding, open_filed}
use Rattle.sva_laws.proofs.Invariant.{Invariant}
use Rattle.sva_laws.proofs.Passed.{unreleased_bound}

-- Owners.

active_owner : (w : World) (e b q m : ℕ) → Invariant w → Usable w e b q m → is_active ((w.part e).stage b) ≡ true
active_owner w e b q m i (cached r k h) = (i.parts e).owners.held r k h
active_owner w e b q m i (in_use u h) = (i.parts e).owners.running u h
active_owner w e b q m i (under_way c r k h o) =
    unmarked_active ((w.part e).stage ((w.part e).request_binding r)) (asker_stage (w.part e) r (i.parts e).bindings (i.parts e).requests o)
  where
    unmarked_active : (s : Stage) → is_unmarked s ≡ true → is_active s ≡ true
    unmarked_active s k = grind arith

pub owner : (w : World) (e b q m : ℕ) → Invariant w → Usable w e b q m → is_unreleased ((w.part e).stage b) ≡ true
owner w e b q m i u = active_unreleased ((w.part e).stage b) (active_owner w e b q m i u)

-- What is pending isn't answered.

silent_ranges : (p : Endpoint) (b q age first count resets k : ℕ) → StrikesFirst p b q age first count resets k → answered p (Ranges first count resets) ≡ false
silent_ranges p b q age first count resets k h =
    let waits : is_done (p.order_state (first + count)) ≡ false = not_done h in
    let none : all_below (suc count) (λ j. is_done (p.order_state (first + j))) ≡ false =
    all_below-false (suc count) (λ j. is_done (p.order_state (first + j))) count (omega arith) waits in
    grind (arith, nat_tests, none)
  where
    not_done : StrikesFirst p b q age first count resets k → is_done (p.order_state (first + count)) ≡ false
    not_done h = grind (arith)

silent_pasid : (p : Endpoint) (k w resets : ℕ) (c0 : Bool) → is_done (p.order_state k) ≡ false → resets ≡ p.resets → answered p (Pasid k w resets c0) ≡ false
silent_pasid p k w resets c0 h e = grind (arith, nat_tests)

-- the PASID's invalidation of an owner of what is usable isn't done
undone_held : (p : Endpoint) (s : Bool) (k age : ℕ) → is_open p.phase ≡ s → (p.phase ≡ Open → blocks (p.order_state k) age ≡ true)
    → (is_open p.phase ≡ false → p.order_state k ≢ Done) → is_done (p.order_state k) ≡ false
undone_held p true k age e opened closed = grind (arith, nat_tests)
undone_held p false k age e opened closed = grind (arith, nat_tests)

silent : (p : Endpoint) (b q age : ℕ) (v : Owed) → ((k w : ℕ) → p.stage b ≡ Invalidating k w → is_done (p.order_state k) ≡ false) → Pending p b q age v
    → answered p v ≡ false
silent p b q age Nothing inv h = absurd h
silent p b q age (Ranges first count resets) inv h = silent_ranges p b q age first count resets h.0 h.1
silent p b q age (Pasid k w resets c0) inv h = silent_pasid p k w resets c0 (inv k w h.1) h.0
silent p b q age (NextReset resets) inv h = reset_silent h.0
  where
    reset_silent : resets ≡ p.resets → answered p (NextReset resets) ≡ false
    reset_silent e = grind (arith, nat_tests)

-- Places.

pub withheld_at : (w : World) (f m e : ℕ) (v : ℕ → Owed) → w.mappings.latest f ≡ Some m → w.mappings.state m ≡ Gone v → e < w.config.endpoints
    → answered (w.part e) (v e) ≡ false → place w f ≡ Withheld
withheld_at w f m e v la g l s =
    ap (place_at w) la ∙ ap (place_by w) g ∙ ap place_of_gone (all_below-false w.config.endpoints (λ x. answered (w.part x) (v x)) e l s)

pub mapped_at : (w : World) (f m : ℕ) → w.mappings.latest f ≡ Some m → w.mappings.state m ≡ Present → place w f ≡ Mapped
mapped_at w f m la g = ap (place_at w) la ∙ ap (place_by w) g

safe_place : (w : World) (e b q m age : ℕ) → Invariant w → is_active ((w.part e).stage b) ≡ true → w.mappings.space m ≡ (w.part e).space b
    → w.mappings.page m ≡ q → ((k x : ℕ) → (w.part e).stage b ≡ Invalidating k x → is_done ((w.part e).order_state k) ≡ false)
    → IsSafe w.mappings e (w.part e) b m age
    → (w.mappings.latest (w.mappings.frame m) ≡ Some m) × (IsPresent w e b q m ⊎ (place w (w.mappings.frame m) ≡ Withheld))
safe_place w e b q m age i a sp pg inv (inl h) =
    let at = i.mapped.present_at m h in (
      i.mapped.latest m h,
      inl (record {
        live = i.mapped.bound_live e b (active_unreleased ((w.part e).stage b) a);
        there = m;
        maps = ap (λ s. w.mappings.at s q) (sym sp)
            ∙ ap (w.mappings.at (w.mappings.space m)) (sym pg) ∙ at;
        frame = refl;
        write = refl;
      }),
    )
safe_place w e b q m age i a sp pg inv (inr h) = let x = go (w.mappings.state m) refl h in (x.0, inr x.1)
  where
    go : (z : MappingState) → w.mappings.state m ≡ z → Pending (w.part e) b (w.mappings.page m) age (owed_of z e)
        → (w.mappings.latest (w.mappings.frame m) ≡ Some m) × (place w (w.mappings.frame m) ≡ Withheld)
    go Unmade g k = absurd k
    go Present g k = absurd k
    go (Gone v) g k =
        let there = (i.parts e).there b (unreleased_bound (w.part e) b (active_unreleased ((w.part e).stage b) a)) in
        let s = silent (w.part e) b (w.mappings.page m) age (v e) inv k in
        let la = latest_of (i.mapped.passed m v e g there) s in
        (la, withheld_at w (w.mappings.frame m) m e v la g there s)
      where
        latest_of : (w.mappings.latest (w.mappings.frame m) ≡ Some m) ⊎ (answered (w.part e) (v e) ≡ true) → answered (w.part e) (v e) ≡ false
            → w.mappings.latest (w.mappings.frame m) ≡ Some m
        latest_of (inl x) s = x
        latest_of (inr y) s = absurd (cc)

-- each usable translation leads to its frame by the last mapping of it, and is present or leads to a withheld frame
pub usable : (w : World) (e b q m : ℕ) → Invariant w → Usable w e b q m
    → (w.mappings.latest (w.mappings.frame m) ≡ Some m) × (IsPresent w e b q m ⊎ (place w (w.mappings.frame m) ≡ Withheld))
usable w e b q m i (cached r k h) =
    let ow = (i.parts e).owners in
    safe_place w e ((w.part e).request_binding r) ((w.part e).request_page r) k (w.part e).uses i (ow.held r k h) (ow.held_space r k h) (ow.held_page r k h)
    (λ x y st. undone_held (w.part e) (is_open (w.part e).phase) x (w.part e).uses refl (ow.held_open r k x y h st) (ow.held_closed r k x y h st))
    ((i.parts e).safe.held r k h)
usable w e b q m i (in_use u h) =
    let ow = (i.parts e).owners in
    safe_place w e ((w.part e).use_binding u) (w.mappings.page ((w.part e).use_mapping u)) ((w.part e).use_mapping u) u i (ow.running u h)
    (ow.running_space u h) refl
    (λ x y st. undone_held (w.part e) (is_open (w.part e).phase) x u refl (ow.running_open u x y h st) (ow.running_closed u x y h st))
    ((i.parts e).safe.running u h)
usable w e b q m i (under_way c r k h o) =
    let ow = (i.parts e).owners in
    let st = asker_stage (w.part e) r (i.parts e).bindings (i.parts e).requests o in
    safe_place w e ((w.part e).request_binding r) ((w.part e).request_page r) k (w.part e).uses i
    (active_owner w e ((w.part e).request_binding r) ((w.part e).request_page r) k i (under_way c r k h o)) (ow.flying_space c r k h)
    (ow.flying_page c r k h)
    (λ x y inv. absurd (unmarked_not_invalidating ((w.part e).stage ((w.part e).request_binding r)) x y st inv))
    ((i.parts e).safe.flying c r k h o)

-- Page requests and responses.

pub bearer : (p : Endpoint) (b : ℕ) → Labels p → is_unreleased (p.stage b) ≡ true → IsBearer p b
bearer p b la u =
    record {
      unreleased = u;
      bears = la.bears_pasid b u;
      alone = λ d v same. let x = la.bears_pasid d v in let y = la.bears_pasid b u in one_of d x y same;
    }
  where
    one_of : (d : ℕ) → p.at_pasid (p.pasid d) ≡ Some d → p.at_pasid (p.pasid b) ≡ Some b → p.pasid d ≡ p.pasid b → d ≡ b
    one_of d x y same = let z : p.at_pasid (p.pasid d) ≡ p.at_pasid (p.pasid b) = ap p.at_pasid same in cc

-- a binding whose marker is noted has gone its line at the endpoint to the end
has_sent_marker : (p : Endpoint) (b : ℕ) → Labels p → Bindings p → p.stage b ≡ Stopping true → HasSentMarker p b
has_sent_marker p b la bi h =
    record {
      bearer = bearer p b la (ap is_unreleased h);
      off = off_of (p.pasid_state b) (bi.on_stage b) (bi.ending_stage b);
      no_start = λ c m. absurd (cc (sym (ap is_unmarked h) ∙ bi.start_stage c b m));
      no_stop = λ c m. absurd (cc (sym h ∙ bi.stop_stage c b m));
      no_marker = λ c m. absurd (cc (sym h ∙ bi.marker_stage c b m));
    }
  where
    off_of : (s : PasidState) → (s ≡ On → is_unmarked (p.stage b) ≡ true) → (s ≡ Ending → p.stage b ≡ Stopping false) → s ≡ Off
    off_of Off x y = refl
    off_of On x y = absurd (cc (sym (ap is_unmarked h) ∙ x refl))
    off_of Ending x y = absurd (cc (sym h ∙ y refl))

pub matched : (w : World) (e : ℕ) → Invariant w → IsMatched (w.part e)
matched w e i =
    let p = w.part e in
    let gr = (i.parts e).groups in
    let la = (i.parts e).labels in
    record {
      filed = λ r h. gr.under (p.group_of r) (gr.filed r h).0;
      job = λ g h. gr.under g (open_filed (p.host_group g) h);
      in_flight = λ c r ph h. bearer p (asker_of p r) la (unmarked_unreleased (p.stage (asker_of p r)) (gr.flight_stage c r ph h));
      arrived = λ r ph h. bearer p (asker_of p r) la (before_unreleased (p.stage (asker_of p r)) (gr.arrived_stage r h));
      noted = λ b h. has_sent_marker p b la (i.parts e).bindings h;
      marker = λ c b ph h. bearer p b la (ap is_unreleased ((i.parts e).bindings.marker_stage c b h));
      response = λ c g code h. let x = gr.response c g code h in
          (gr.bears_index g (answerable_outstanding (p.group g) x.0), gr.under g (ap is_filed_group x.1));
      once = λ g. at_most (p.host_group g) (gr.responses g);
    }
  where
    at_most : (s : HostGroupState) {x : ℕ} → x ≡ times_replied s → x ≤ 1
    at_most s h = grind arith

pub distinct : (w : World) (e b d : ℕ) → Invariant w → is_unreleased ((w.part e).stage b) ≡ true → is_unreleased ((w.part e).stage d) ≡ true
    → (w.part e).pasid b ≡ (w.part e).pasid d → b ≡ d
distinct w e b d i u v same = sym ((bearer (w.part e) b (i.parts e).labels u).alone d v (sym same))

-- Frames.

pub mapped_once : (w : World) (f s q t r : ℕ) → Invariant w → IsAt w f s q → IsAt w f t r → (s ≡ t) × (q ≡ r)
mapped_once w f s q t r i a b =
    let x = i.mapped.at_present s q a.mapping a.maps in
    let y = i.mapped.at_present t r b.mapping b.maps in
    let lx : w.mappings.latest f ≡ Some a.mapping = subst (λ z. w.mappings.latest z ≡ Some a.mapping) a.leads (i.mapped.latest a.mapping x.0) in
    let ly : w.mappings.latest f ≡ Some b.mapping = subst (λ z. w.mappings.latest z ≡ Some b.mapping) b.leads (i.mapped.latest b.mapping y.0) in
    let same : a.mapping ≡ b.mapping = cc in
    (sym x.1 ∙ ap w.mappings.space same ∙ y.1, sym x.2 ∙ ap w.mappings.page same ∙ y.2)

-- what is at a page is a frame of the config
pub frame_low : (w : World) (f s q : ℕ) → Invariant w → IsAt w f s q → f < w.config.frames
frame_low w f s q i a =
    let x = i.mapped.at_present s q a.mapping a.maps in
    let made = (i.mapped.named (w.mappings.frame a.mapping) a.mapping (i.mapped.latest a.mapping x.0)).1 in
    subst (λ z. z < w.config.frames) a.leads (i.mapped.low a.mapping made)

pub is_mapped : (w : World) (f : ℕ) → Invariant w → place w f ≡ Mapped → IsMapped w f
is_mapped w f i h = go (w.mappings.latest f) refl h
  where
    go : (o : Option ℕ) → w.mappings.latest f ≡ o → place_at w o ≡ Mapped → IsMapped w f
    go None e k = absurd (cc)
    go (Some m) e k = present (w.mappings.state m) refl k
      where
        present : (z : MappingState) → w.mappings.state m ≡ z → place_by w z ≡ Mapped → IsMapped w f
        present Unmade g k = absurd (cc)
        present Present g k =
            let at = i.mapped.present_at m g in
            record {
              space = w.mappings.space m;
              page = w.mappings.page m;
              is_at = record {
                live = (i.mapped.at_present (w.mappings.space m) (w.mappings.page m) m at).3;
                mapping = m;
                maps = at;
                leads =
                    (i.mapped.named f m e).0;
              };
            }
        present (Gone v) g k = absurd (neither (all_below w.config.endpoints (λ x. answered (w.part x) (v x))) k)
          where
            neither : (b : Bool) → place_of_gone b ≢ Mapped
            neither true h = absurd (cc)
            neither false h = absurd (cc)

pub place_mapped : (w : World) (f : ℕ) → Invariant w → IsMapped w f → place w f ≡ Mapped
place_mapped w f i a =
    let x = i.mapped.at_present a.space a.page a.is_at.mapping a.is_at.maps in
    mapped_at w f a.is_at.mapping (subst (λ z. w.mappings.latest z ≡ Some a.is_at.mapping) a.is_at.leads (i.mapped.latest a.is_at.mapping x.0)) x.0
