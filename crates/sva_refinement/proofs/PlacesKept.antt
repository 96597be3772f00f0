-- The acts of an endpoint that leave the places of frames as they are: all but a wait that is done and a reset-done.
use Rattle.std.proofs.Common.{◌≡◌, ◌≢◌, refl, ap, sym, ◌∙◌, ℕ, suc, ◌+◌, ◌<◌, Bool, true, false, arith}
use Rattle.std.specs.Prelude.{Some, None, ◌&&◌, ◌||◌, nat_lt, if◌then◌else◌}
use Rattle.std.proofs.lemmas.Bool.Decides.{nat_tests}
use Rattle.std.proofs.lemmas.Bool.{and_right, ltb-true}
use Rattle.sva_model.specs.Words.{all_below, tabulate}
use Rattle.sva_model.specs.State.{Owed, Mappings, Endpoint, World, OrderState}
use Rattle.sva_model.specs.State.Owed.{Nothing, Ranges, Pasid, NextReset}
use Rattle.sva_model.specs.State.MappingState.{Gone}
use Rattle.sva_model.specs.State.OrderState.{Done}
use Rattle.sva_model.specs.States.{is_done, is_wait, is_busy, answered}
use Rattle.sva_model.specs.Acts.{act_alone, LocalAct, act}
use Rattle.sva_model.specs.Acts.Act.{AtEndpoint}
use Rattle.sva_model.specs.Wire.{PlaceWire, cookie_number, target_of, target_wire, places_wire}
use Rattle.sva_model.specs.Wire.PlaceWire.{WithheldWire}
use Rattle.sva_model.specs.Wire.TargetWire.{Cookie}
use Rattle.sva_laws.specs.Waits.{IsBehind, FitsDebt}
use Rattle.sva_labels.proofs.Words.{all_below-false}
use Rattle.sva_laws.proofs.Legal.{LegalLocalAct}
use Rattle.sva_laws.proofs.Bounds.{Bounds}
use Rattle.sva_laws.proofs.Orders.{Orders, SentOnly}
use Rattle.sva_laws.proofs.Answered.{answered_own}
use Rattle.sva_labels.proofs.Words.{all_below-intro}
use Rattle.sva_laws.proofs.Cookies.{own_old}
use Rattle.sva_laws.proofs.Debts.{AllDebts}
use Rattle.sva_laws.proofs.Invariant.{Invariant}
use Rattle.sva_laws.proofs.Keeps.{Legal, put_keeps}
use Rattle.sva_labels.proofs.Lists.{tabulate_same, all_same}
use Rattle.sva_refinement.proofs.PlacesByNumber.{gone_seen, seen_by}
use Rattle.sva_refinement.proofs.PlacesOut.{places_same}
pub use Rattle.sva_laws.proofs.Targets.{no_reset}
pub use Rattle.sva_laws.proofs.Targets.{both_done}
use Rattle.sva_labels.proofs.Tests.{first_fails, second_fails}

-- What isn't answered waits for a wait that isn't done.

is_done_of : (z : OrderState) → z ≡ Done → is_done z ≡ true
is_done_of z h = ap is_done h

pub isnt_done : (z : OrderState) → z ≢ Done → is_done z ≡ false
isnt_done z ne = go (is_done z) refl
  where
    done : is_done z ≡ true → z ≡ Done
    done h = grind arith

    go : (b : Bool) → is_done z ≡ b → is_done z ≡ false
    go true h = absurd (ne (done h))
    go false h = h

-- where the wait of a debt is done, the debt is answered
pub done_answers :
    (p : Endpoint) (first count resets : ℕ) → IsBehind p first (first + count) resets → resets ≡ p.resets → p.order_state (first + count) ≡ Done
    → all_below (suc count) (λ j. is_done (p.order_state (first + j))) ≡ true
done_answers p first count resets b same d =
    all_below-intro (suc count) (λ j. is_done (p.order_state (first + j)))
    (λ j l. is_done_of (p.order_state (first + j)) (b.done same d (first + j) (omega arith) (omega (arith, l))))

pub ranges_open :
    (p : Endpoint) (first count resets : ℕ) → IsBehind p first (first + count) resets → answered p (Ranges first count resets) ≡ false
    → (resets ≡ p.resets) × (p.order_state (first + count) ≢ Done)
ranges_open p first count resets b h =
    let same = no_reset p resets b.counted (second_fails (all_below (suc count) (λ j. is_done (p.order_state (first + j)))) (nat_lt resets p.resets) h) in
    let left = first_fails (all_below (suc count) (λ j. is_done (p.order_state (first + j)))) (nat_lt resets p.resets) h in
    (same, λ d. absurd (cc (sym left ∙ done_answers p first count resets b same d)))

pub pasid_open :
    (p : Endpoint) (k x resets : ℕ) (in_reset : Bool) → IsBehind p k x resets → answered p (Pasid k x resets in_reset) ≡ false
    → (resets ≡ p.resets) × (p.order_state x ≢ Done)
pasid_open p k x resets in_reset b h =
    let same = no_reset p resets b.counted (second_fails (is_done (p.order_state k) && is_done (p.order_state x)) (nat_lt resets p.resets) h) in
    let left = first_fails (is_done (p.order_state k) && is_done (p.order_state x)) (nat_lt resets p.resets) h in
    (same, λ d. absurd (cc (sym left ∙ both_done (p.order_state k) (p.order_state x) (b.done same d k (omega arith) b.low) d)))

no_more : (a b : ℕ) → a ≡ b → nat_lt a b ≡ false
no_more a b e = grind (arith, nat_tests)

both_false : (a b : Bool) → a ≡ false → b ≡ false → (a || b) ≡ false
both_false a b h k = grind arith

-- and where its wait isn't done and no reset-done came since, it isn't
pub ranges_wait :
    (p : Endpoint) (first count resets : ℕ) → resets ≡ p.resets → p.order_state (first + count) ≢ Done
    → answered p (Ranges first count resets) ≡ false
ranges_wait p first count resets same ne =
    both_false (all_below (suc count) (λ j. is_done (p.order_state (first + j)))) (nat_lt resets p.resets)
    (all_below-false (suc count) (λ j. is_done (p.order_state (first + j))) count (omega arith) (isnt_done (p.order_state (first + count)) ne))
    (no_more resets p.resets same)

pub pasid_waits : (p : Endpoint) (k x resets : ℕ) (in_reset : Bool) → resets ≡ p.resets → p.order_state x ≢ Done → answered p (Pasid k x resets in_reset)
    ≡ false
pasid_waits p k x resets in_reset same ne =
    both_false (is_done (p.order_state k) && is_done (p.order_state x)) (nat_lt resets p.resets)
    (and_right (is_done (p.order_state k)) (is_done (p.order_state x)) (isnt_done (p.order_state x) ne))
    (no_more resets p.resets same)

-- The acts.

-- a wait is done, or a reset-done comes
abbrev pub settles : LocalAct → Bool
settles (LocalAct.Pass k) = true
settles (LocalAct.Reopen c) = true
settles _ = false

resets_kept : (p : Endpoint) (n : ℕ) (o : LocalAct) → settles o ≡ false → (act_alone p n o).resets ≡ p.resets
resets_kept p n o h = grind arith

-- no other act makes a wait done
undone_kept :
    (ms : Mappings) (g n : ℕ) (p : Endpoint) (o : LocalAct) → LegalLocalAct ms g p o → SentOnly p → settles o ≡ false → (x : ℕ) → x < p.orders
    → is_wait (p.order x) ≡ true → (is_busy (p.order_state x) ≡ true → is_wait (p.order x) ≡ false) → p.order_state x ≢ Done
    → (act_alone p n o).order_state x ≢ Done
undone_kept ms g n p o l sent h x made w nw nd d = grind (arith, nat_tests)

silent_kept :
    (ms : Mappings) (g n : ℕ) (p : Endpoint) (o : LocalAct) → LegalLocalAct ms g p o → SentOnly p → Orders p → settles o ≡ false → (v : Owed)
    → FitsDebt p v → answered p v ≡ false → answered (act_alone p n o) v ≡ false
silent_kept ms g n p o l sent or h Nothing d k = absurd (cc (k))
silent_kept ms g n p o l sent or h (Ranges first count resets) d k =
    let z = ranges_open p first count resets d.1 k in
    ranges_wait (act_alone p n o) first count resets (z.0 ∙ sym (resets_kept p n o h))
    (undone_kept ms g n p o l sent h (first + count) d.1.made d.1.is_a_wait (or.no_wait (first + count)) z.1)
silent_kept ms g n p o l sent or h (Pasid j x resets in_reset) d k =
    let z = pasid_open p j x resets in_reset d.1 k in
    pasid_waits (act_alone p n o) j x resets in_reset (z.0 ∙ sym (resets_kept p n o h))
    (undone_kept ms g n p o l sent h x d.1.made d.1.is_a_wait (or.no_wait x) z.1)
silent_kept ms g n p o l sent or h (NextReset resets) d k = ap (nat_lt resets) (resets_kept p n o h) ∙ k

pub answered_kept :
    (ms : Mappings) (g n : ℕ) (p : Endpoint) (o : LocalAct) → LegalLocalAct ms g p o → Bounds g p → SentOnly p → Orders p → settles o ≡ false → (v : Owed)
    → FitsDebt p v → answered (act_alone p n o) v ≡ answered p v
answered_kept ms g n p o l bo sent or h v d = go (answered p v) refl
  where
    go : (b : Bool) → answered p v ≡ b → answered (act_alone p n o) v ≡ answered p v
    go true e = answered_own ms g n p o l sent bo v e ∙ sym e
    go false e = silent_kept ms g n p o l sent or h v d e ∙ sym e

-- what is waited for doesn't change
pub target_kept : (first n : ℕ) (p : Endpoint) (o : LocalAct) (v : Owed) → FitsDebt p v → target_of first (act_alone p n o) v ≡ target_of first p v
target_kept first n p o Nothing d = refl
target_kept first n p o (Ranges range count resets) d = ap (λ z. Cookie (cookie_number first z)) (own_old p n o (range + count) d.1.made)
target_kept first n p o (Pasid k x resets true) d = refl
target_kept first n p o (Pasid k x resets false) d = ap (λ z. Cookie (cookie_number first z)) (own_old p n o x d.1.made)
target_kept first n p o (NextReset resets) d = refl

-- a frame is seen the same where each endpoint has answered the same and waits for the same
pub record IsSeenSame (first : ℕ) (p q : Endpoint) (v : Owed) : Type 0 where
  pub answers : answered q v ≡ answered p v
  pub target : target_of first q v ≡ target_of first p v

pub seen_same :
    (w v : World) (owed : ℕ → Owed) → v.config ≡ w.config
    → ((x : ℕ) → x < w.config.endpoints → IsSeenSame w.config.first (w.part x) (v.part x) (owed x))
    → seen_by v (Gone owed) ≡ seen_by w (Gone owed)
seen_same w v owed c h =
    (λ i. by (c i).first (c i).endpoints v.part)
    ∙ (λ i. gone_seen (same_answers i) (WithheldWire (same_targets i)))
  where
    by : (first endpoints : ℕ) → (ℕ → Endpoint) → PlaceWire
    by first endpoints part =
        gone_seen (all_below endpoints (λ e. answered (part e) (owed e)))
        (WithheldWire (tabulate 8 (λ e. if nat_lt e endpoints then target_wire first (part e) (owed e) else None)))

    same_answers : all_below w.config.endpoints (λ e. answered (v.part e) (owed e)) ≡ all_below w.config.endpoints (λ e. answered (w.part e) (owed e))
    same_answers = all_same w.config.endpoints (λ e. answered (v.part e) (owed e)) (λ e. answered (w.part e) (owed e)) (λ e l. (h e l).answers)

    at :
        (e : ℕ) (b : Bool) → nat_lt e w.config.endpoints ≡ b
        → (if b then target_wire w.config.first (v.part e) (owed e) else None) ≡ (if b then target_wire w.config.first (w.part e) (owed e) else None)
    at e false k = refl
    at e true k = let z = h e (ltb-true e w.config.endpoints k) in λ i. if z.answers i then None else Some (z.target i)

    same_targets :
        tabulate 8 (λ e. if nat_lt e w.config.endpoints then target_wire w.config.first (v.part e) (owed e) else None)
        ≡ tabulate 8 (λ e. if nat_lt e w.config.endpoints then target_wire w.config.first (w.part e) (owed e) else None)
    same_targets =
        tabulate_same 8 (λ e. if nat_lt e w.config.endpoints then target_wire w.config.first (v.part e) (owed e) else None)
        (λ e. if nat_lt e w.config.endpoints then target_wire w.config.first (w.part e) (owed e) else None)
        (λ e l. at e (nat_lt e w.config.endpoints) refl)

pub places_kept : (w : World) (e : ℕ) (o : LocalAct) → Legal w (AtEndpoint e o) → Invariant w → AllDebts w → settles o ≡ false
    → places_wire (act w (AtEndpoint e o))
    ≡ places_wire w
places_kept w e o l i debts h =
    places_same w (act w (AtEndpoint e o)) refl refl
    (λ m owed gone. seen_same w (act w (AtEndpoint e o)) owed refl
    (λ x k. put_keeps (λ x q. IsSeenSame w.config.first (w.part x) q (owed x)) w.part e (act_alone (w.part e) w.messages o)
    (record {
      answers =
          answered_kept w.mappings w.bindings w.messages (w.part e) o l.1.0 (i.parts e).bounds (i.parts e).labels.sent (i.parts e).orders h (owed e)
          (debts m e owed gone);
      target = target_kept w.config.first w.messages (w.part e) o (owed e) (debts m e owed gone);
    })
    (λ x. record { answers = refl; target = refl }) x))
