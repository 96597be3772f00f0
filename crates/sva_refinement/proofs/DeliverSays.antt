-- A delivery by labels: the message of a number, whether it may arrive now, and what it needs.
use Rattle.std.proofs.Common.{◌≡◌, ◌≢◌, ◌⊎◌, inl, inr, refl, ap, ap₂, sym, subst, ◌∙◌, ℕ, zero, suc, ◌+◌, ◌-◌, ◌<◌, ◌≤◌, Bool, true, false, arith}
use Rattle.std.specs.Prelude.{Option, Some, None, ◌&&◌, not, ◌==◌, nat_lt, nat_le, if◌then◌else◌, []}
use Rattle.std.proofs.lemmas.Bool.Decides.{nat_tests}
use Rattle.sva_step.specs.declared.refusals.Refusal.TheVariants as refusal
use Rattle.sva_step.specs.declared.steps.Step.TheVariants as step
use Rattle.sva_model.specs.Words.{any_below, is_some}
use Rattle.sva_model.specs.LinkOrder.{stays_behind}
use Rattle.sva_model.specs.Message.{Message}
use Rattle.sva_model.specs.State.{Subject, Mappings, Endpoint, World}
use Rattle.sva_model.specs.State.Subject.{StartOf, StopOf, FunctionReset, CompletionOf, InvalidateOf, ResponseOf, RequestOf, InvalidatedOf, PageRequestOf}
use Rattle.sva_model.specs.State.Subject.{MarkerOf, ResetDone}
use Rattle.sva_model.specs.Labels
use Rattle.sva_model.specs.Refusals as names
use Rattle.sva_model.specs.Refusals.{refusals}
use Rattle.sva_model.specs.Wire.{UnitWire, FlightWire, flight_wire, wire}
use Rattle.sva_laws.specs.LabelLaws.{IsCarried}
use Rattle.sva_labels.proofs.Words.{ℕ_cases}
use Rattle.sva_labels.proofs.Tests.{is_itself}
use Rattle.sva_labels.specs.Finding.{kind_of, flight_of, holds_back, may_deliver, unit_of}
use Rattle.sva_labels.specs.Causes.{causes_of, deliver_causes, delivery_sends}
use Rattle.sva_refinement.proofs.Lookups.{any_seen, any_same, find_one, find_none}
use Rattle.sva_refinement.proofs.EndpointViews.{unit_seen, same_alike}
use Rattle.sva_refinement.proofs.Reached.{IsReached}
use Rattle.sva_refinement.proofs.Alike.{IsAlike, alike_held, alike_right}

-- The message of a number.

number_parts : (first n count : ℕ) (b : Bool) → (nat_le first n && nat_lt (n - first) count && b) ≡ true → (first ≤ n) × (n - first < count) × (b ≡ true)
number_parts first n count b h = grind (arith, nat_tests)

pub flight_seen : (w : World) (n : ℕ) → Labels.is_in_flight w n ≡ true → flight_of (wire w) n ≡ Some (flight_wire w (Labels.name w n))
flight_seen w n h =
    let x = number_parts w.config.first n w.messages (is_some ((w.part (w.link_of (Labels.name w n))).message (Labels.name w n))) h in
    find_one w.messages (λ c. is_some ((w.part (w.link_of c)).message c)) (flight_wire w) (λ (f : FlightWire). f.number == n) (Labels.name w n) x.1 x.2
    (itself w.config.first n x.0)
    (λ j l s e. one w.config.first n j e)
  where
    itself : (first n : ℕ) → first ≤ n → (first + (n - first) == n) ≡ true
    itself first n l = grind (arith, nat_tests)

    one : (first n j : ℕ) → (first + j == n) ≡ true → j ≡ n - first
    one first n j e = grind (arith, nat_tests)

pub no_flight : (w : World) (n : ℕ) → Labels.is_in_flight w n ≡ false → flight_of (wire w) n ≡ None
no_flight w n h =
    find_none w.messages (λ c. is_some ((w.part (w.link_of c)).message c)) (flight_wire w) (λ (f : FlightWire). f.number == n)
    (λ c l s. other c l s (w.config.first + c == n) refl)
  where
    name_of : (first n c : ℕ) → (first + c == n) ≡ true → n - first ≡ c
    name_of first n c e = grind (arith, nat_tests)

    in_flight : (first n c count : ℕ) (b : Bool) → (first + c == n) ≡ true → c < count → b ≡ true → (nat_le first n && nat_lt (n - first) count && b) ≡ true
    in_flight first n c count b e l s = grind (arith, nat_tests)

    other : (c : ℕ) → c < w.messages → is_some ((w.part (w.link_of c)).message c) ≡ true → (b : Bool) → (w.config.first + c == n) ≡ b → b ≡ false
    other c l s false e = refl
    other c l s true e =
        absurd (cc
        (sym (in_flight w.config.first n c w.messages (is_some ((w.part (w.link_of (Labels.name w n))).message (Labels.name w n))) e l
        (ap (λ d. is_some ((w.part (w.link_of d)).message d)) (name_of w.config.first n c e) ∙ s)) ∙ h))

-- A message is of the sort of what it speaks of.

pub kind_carried : (ms : Mappings) (p : Endpoint) → IsCarried ms p → (c : ℕ) (a : Subject) → p.message c ≡ Some a → kind_of (p.carried c) ≡ Labels.kind_of p a
kind_carried ms p ca c (StartOf b) h = ap kind_of (ca.start c b h)
kind_carried ms p ca c (StopOf b) h = ap kind_of (ca.stop c b h)
kind_carried ms p ca c FunctionReset h = ap kind_of (ca.reset c h)
kind_carried ms p ca c (CompletionOf r (Some m)) h = ap kind_of (ca.completion c r m h)
kind_carried ms p ca c (CompletionOf r None) h = ap kind_of (ca.no_translation c r h)
kind_carried ms p ca c (InvalidateOf k) h = ap kind_of (ca.invalidate c k h)
kind_carried ms p ca c (ResponseOf g code) h = ap kind_of (ca.response c g code h)
kind_carried ms p ca c (RequestOf r) h = ap kind_of (ca.request c r h)
kind_carried ms p ca c (InvalidatedOf names) h = let x = ca.invalidated c names h in ap kind_of x.2
kind_carried ms p ca c (PageRequestOf r) h = ap kind_of (ca.page_request c r h)
kind_carried ms p ca c (MarkerOf b) h = ap kind_of (ca.marker c b h)
kind_carried ms p ca c ResetDone h = ap kind_of (ca.reset_done c h)

-- What is permitted.

-- a search that finds nothing from a number on
any_narrow : (n c : ℕ) (p q : ℕ → Bool) → c ≤ n → ((d : ℕ) → d < c → p d ≡ q d) → ((d : ℕ) → c ≤ d → p d ≡ false) → any_below n p ≡ any_below c q
unfolding any_below
any_narrow zero c p q l h k =
    let z : c ≡ 0 = omega arith in
    sym (ap (λ m. any_below m q) z)
any_narrow (suc n) c p q l h k = go (ℕ_cases c (suc n)) (λ m. any_narrow n c p q m h k)
  where
    below : (a b : ℕ) → a ≤ suc b → a ≢ suc b → a ≤ b
    below a b m ne = grind arith

    go : (c ≡ suc n) ⊎ (c ≢ suc n) → (c ≤ n → any_below n p ≡ any_below c q) → (if p n then true else any_below n p) ≡ any_below c q
    go (inl e) rest = any_same (suc n) p q (λ d m. h d (omega arith)) ∙ ap (λ m. any_below m q) (sym e)
    go (inr ne) rest = ap (λ b. if b then true else any_below n p) (k n (below c n l ne)) ∙ rest (below c n l ne)

pub permitted_seen :
    (w : World) (c : ℕ) (a : Subject) → IsReached w → c < w.messages → (w.part (w.link_of c)).message c ≡ Some a
    → may_deliver (wire w) (flight_wire w c) ≡ Labels.is_permitted (w.part (w.link_of c)) c a
permitted_seen w c a r l h =
    ap not
    (any_seen w.messages (λ d. is_some ((w.part (w.link_of d)).message d)) (flight_wire w) (holds_back (flight_wire w c))
    ∙ any_narrow w.messages c (λ d. is_some ((w.part (w.link_of d)).message d) && holds_back (flight_wire w c) (flight_wire w d))
    (λ d. Labels.holds_back p (Labels.kind_of p a) (p.message d)) (omega arith)
    (λ d m. older d m (ℕ_cases (w.link_of d) e))
    (λ d m. newer (is_some ((w.part (w.link_of d)).message d)) w.config.first d c (w.link_of d == e)
    (stays_behind (kind_of (p.carried c)) (kind_of ((w.part (w.link_of d)).carried d))) m))
  where
    e : ℕ
    e = w.link_of c

    p : Endpoint
    p = w.part e

    newer : (b : Bool) (first d c : ℕ) (x y : Bool) → c ≤ d → (b && (nat_lt (first + d) (first + c) && x && y)) ≡ false
    newer b first d c x y l = grind (arith, nat_tests)

    elsewhere : (b : Bool) (x y : ℕ) (t v : Bool) → x ≢ y → (b && (v && x == y && t)) ≡ false
    elsewhere b x y t v ne = grind (arith, nat_tests)

    lower : (first d c : ℕ) → d < c → nat_lt (first + d) (first + c) ≡ true
    lower first d c l = grind (arith, nat_tests)

    -- of the same endpoint
    here :
        (d : ℕ) → d < c → (o : Option Subject) → p.message d ≡ o
        → (is_some o && (nat_lt (w.config.first + d) (w.config.first + c) && e == e && stays_behind (kind_of (p.carried c)) (kind_of (p.carried d))))
        ≡ Labels.holds_back p (Labels.kind_of p a) o
    here d m None k = refl
    here d m (Some o) k =
        ap₂ (λ x y. x && y && stays_behind (kind_of (p.carried c)) (kind_of (p.carried d))) (lower w.config.first d c m) (is_itself e)
        ∙ ap₂ stays_behind (kind_carried w.mappings p (r.carried e) c a h) (kind_carried w.mappings p (r.carried e) d o k)

    none_here : (d : ℕ) → w.link_of d ≢ e → (o : Option Subject) → p.message d ≡ o → Labels.holds_back p (Labels.kind_of p a) o ≡ false
    none_here d ne None k = refl
    none_here d ne (Some o) k = absurd (ne (r.sent e d (ap is_some k)))

    older :
        (d : ℕ) → d < c → (w.link_of d ≡ e) ⊎ (w.link_of d ≢ e)
        → (is_some ((w.part (w.link_of d)).message d) && holds_back (flight_wire w c) (flight_wire w d))
        ≡ Labels.holds_back p (Labels.kind_of p a) (p.message d)
    older d m (inl same) =
        ap (λ x. is_some
        ((w.part x).message d) && (nat_lt (w.config.first + d) (w.config.first + c) && x == e && stays_behind (kind_of (p.carried c))
        (kind_of ((w.part x).carried d)))) same
        ∙ here d m (p.message d) refl
    older d m (inr ne) =
        elsewhere (is_some ((w.part (w.link_of d)).message d)) (w.link_of d) e
        (stays_behind (kind_of (p.carried c)) (kind_of ((w.part (w.link_of d)).carried d)))
        (nat_lt (w.config.first + d) (w.config.first + c)) ne
        ∙ sym (none_here d ne (p.message d) refl)

-- What a delivery sends.

pub sends_seen :
    (w : World) (e c : ℕ) (a : Subject) → IsReached w → e < w.config.endpoints → (w.part e).message c ≡ Some a
    → delivery_sends (unit_of (wire w) e) ((w.part e).carried c) ≡ names.delivery_sends (w.part e) (Some a)
sends_seen w e c a r l h = go a h
  where
    by : Message → Bool
    by m = delivery_sends (unit_of (wire w) e) m

    go : (a : Subject) → (w.part e).message c ≡ Some a → by ((w.part e).carried c) ≡ names.delivery_sends (w.part e) (Some a)
    go (StartOf b) h = ap by ((r.carried e).start c b h)
    go (StopOf b) h = ap by ((r.carried e).stop c b h)
    go FunctionReset h = ap by ((r.carried e).reset c h)
    go (CompletionOf x (Some m)) h = ap by ((r.carried e).completion c x m h)
    go (CompletionOf x None) h = ap by ((r.carried e).no_translation c x h)
    go (InvalidateOf k) h = ap by ((r.carried e).invalidate c k h)
    go (ResponseOf g code) h = ap by ((r.carried e).response c g code h)
    go (RequestOf x) h = ap by ((r.carried e).request c x h) ∙ ap (λ (u : UnitWire). u.is_open) (unit_seen w e l)
    go (InvalidatedOf names) h = let x = (r.carried e).invalidated c names h in ap by x.2
    go (PageRequestOf x) h = ap by ((r.carried e).page_request c x h)
    go (MarkerOf b) h = ap by ((r.carried e).marker c b h)
    go ResetDone h = ap by ((r.carried e).reset_done c h)

-- The causes.

there :
    (w : World) (n : ℕ) → Labels.is_in_flight w n ≡ true
    → (Labels.name w n < w.messages) × (is_some ((w.part (w.link_of (Labels.name w n))).message (Labels.name w n)) ≡ true)
there w n h =
    let x = number_parts w.config.first n w.messages (is_some ((w.part (w.link_of (Labels.name w n))).message (Labels.name w n))) h in
    (x.1, x.2)

flying_alike :
    (w : World) (c : ℕ) (o : Option Subject) → IsReached w → c < w.messages → (w.part (w.link_of c)).message c ≡ o → is_some o ≡ true
    → IsAlike (deliver_causes (wire w) (Some (flight_wire w c))) (names.deliver_refusals w c (w.part (w.link_of c)))
flying_alike w c None r l h s = absurd (cc)
flying_alike w c (Some a) r l h s =
    same_alike (deliver_causes (wire w) (Some (flight_wire w c))) (names.deliver_refusals w c (w.part (w.link_of c))) (
      ap (λ b. (not b, refusal.Overtakes)) (permitted_seen w c a r l h ∙ sym (ap (Labels.is_permitted_now (w.part (w.link_of c)) c) h)),
      λ f. (
        ap (λ b. (b && Labels.lacks w w.messages 1, refusal.NumbersSpent))
            (sends_seen w (w.link_of c) c a r ((r.invariant.parts (w.link_of c)).near c (ap is_some h)) h
            ∙ sym (ap (names.delivery_sends (w.part (w.link_of c))) h)),
        λ g. tt,
      ),
    )

pub deliver_alike : (w : World) (n : ℕ) → IsReached w → IsAlike (causes_of (wire w) (step.Deliver n)) (refusals w (step.Deliver n))
deliver_alike w n r = go (Labels.is_in_flight w n) refl
  where
    go : (b : Bool) → Labels.is_in_flight w n ≡ b → IsAlike (causes_of (wire w) (step.Deliver n)) (refusals w (step.Deliver n))
    go false h =
        subst (λ o. IsAlike (deliver_causes (wire w) o) (refusals w (step.Deliver n))) (sym (no_flight w n h))
        (alike_held (true, refusal.NoSuchMessage) (not (Labels.is_in_flight w n), refusal.NoSuchMessage) []
        (names.deliver_refusals w (Labels.name w n) (w.part (w.link_of (Labels.name w n)))) refl (ap not h) refl)
    go true h =
        let x = there w n h in
        subst (λ o. IsAlike (deliver_causes (wire w) o) (refusals w (step.Deliver n))) (sym (flight_seen w n h))
        (alike_right (not (Labels.is_in_flight w n), refusal.NoSuchMessage) (deliver_causes (wire w) (Some (flight_wire w (Labels.name w n))))
        (names.deliver_refusals w (Labels.name w n) (w.part (w.link_of (Labels.name w n)))) (ap not h)
        (flying_alike w (Labels.name w n) ((w.part (w.link_of (Labels.name w n))).message (Labels.name w n)) r x.0 refl x.1))
