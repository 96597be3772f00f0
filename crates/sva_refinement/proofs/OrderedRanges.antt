-- Each range that is ordered of a unit is one that can be coded: of 1 to 512 pages, aligned, of page numbers below 2^36. An
-- unmapping orders such ranges, by what its step has tested, and no other act orders a range.
use Rattle.std.proofs.Common.{◌≡◌, ◌⊎◌, inl, inr, refl, subst, ℕ, ◌+◌, ◌-◌, ◌*◌, ◌%◌, ◌^◌, ◌<◌, ◌≤◌, Bool, true, false, arith}
use Rattle.std.specs.Prelude.{Option, Some, None, not, ◌==◌, nat_lt, if◌then◌else◌, List, [], ◌∷◌, Err}
use Rattle.std.proofs.lemmas.Bool.Decides.{nat_tests}
use Rattle.std.proofs.lemmas.Nat.{pow_pos}
use Rattle.std.proofs.lemmas.Bool.{ltb-false}
use Rattle.sva_step.specs.declared.limits.Config.{Config}
use Rattle.sva_step.specs.declared.steps.Step.{Step}
use Rattle.sva_step.specs.declared.steps.Step.TheVariants as step
use Rattle.sva_model.specs.Range.{Range, IsRange}
use Rattle.sva_model.specs.State.{PasidRule, Endpoint, World, opened}
use Rattle.sva_model.specs.State.Order.{RangeOf}
use Rattle.sva_model.specs.Unmappings.{range_at, submitted, submitted_if, submits, bound, cookie_of}
use Rattle.sva_model.specs.Acts.{Act, LocalAct, act, act_alone}
use Rattle.sva_model.specs.Acts.Act.{NewSpace, DropSpace, Map, Unmap, NewBinding, NewJob, Hold, LetGo, AtEndpoint}
use Rattle.sva_model.specs.Labels
use Rattle.sva_model.specs.Replies.{response_to}
use Rattle.sva_model.specs.Words.{the}
use Rattle.sva_model.specs.Refusals.{Cause, refusals}
use Rattle.sva_model.specs.Outcomes.{Outcome, outcome}
use Rattle.sva_model.specs.Steps.{checked, decide, next, run, after_acts, world_after}
use Rattle.sva_laws.proofs.Passed.{Passed}
use Rattle.sva_laws.proofs.Keeps.{put_keeps}
use Rattle.sva_laws.proofs.Adding.{IsAdding, AreAdding, unbind_adds, advance_adds, pump_adds, serve_adds, reply_adds, fault_adds, deliver_adds}

abbrev pub HasRanges : Endpoint → Type 0
HasRanges p = (k b : ℕ) (range : Range) → p.order k ≡ RangeOf b range → IsRange range

abbrev pub HaveRanges : World → Type 0
HaveRanges w = (e : ℕ) → HasRanges (w.part e)

-- what an unmapping orders
abbrev pub CanCode : Act → Type 0
CanCode (Unmap s q count order) = (j : ℕ) → j < count → IsRange (range_at q order j)
CanCode _ = Unit {0}

abbrev pub AllCanCode : List Act → Type 0
AllCanCode [] = Unit {0}
AllCanCode (a ∷ acts) = CanCode a × AllCanCode acts

own_order : (p : Endpoint) (n : ℕ) (o : LocalAct) (k b : ℕ) (range : Range) → (act_alone p n o).order k ≡ RangeOf b range → p.order k ≡ RangeOf b range
own_order p n o k b range h = grind (arith, nat_tests)

-- an order after a submission was there, or is of one of the ranges
submitted_order :
    (p : Endpoint) (d q count order cookie k b : ℕ) (range : Range) → (submitted p d q count order cookie).order k ≡ RangeOf b range
    → (p.order k ≡ RangeOf b range) ⊎ ((p.orders ≤ k) × (k < p.orders + count) × (range_at q order (k - p.orders) ≡ range))
submitted_order p d q count order cookie k b range h = grind (arith, nat_tests)

submitted_ranges :
    (t : Bool) (p : Endpoint) (o : Option ℕ) (q count order cookie : ℕ) → ((j : ℕ) → j < count → IsRange (range_at q order j)) → HasRanges p
    → HasRanges (submitted_if t p o q count order cookie)
submitted_ranges true p (Some d) q count order cookie fit h = λ k b range e. go k b range (submitted_order p d q count order cookie k b range e)
  where
    go :
        (k b : ℕ) (range : Range)
        → (p.order k ≡ RangeOf b range) ⊎ ((p.orders ≤ k) × (k < p.orders + count) × (range_at q order (k - p.orders) ≡ range))
        → IsRange range
    go k b range (inl old) = h k b range old
    go k b range (inr new) = subst IsRange new.2 (fit (k - p.orders) (omega (arith, new.0, new.1)))
submitted_ranges true p None q count order cookie fit h = h
submitted_ranges false p o q count order cookie fit h = h

act_ranges : (w : World) (a : Act) → CanCode a → HaveRanges w → HaveRanges (act w a)
act_ranges w NewSpace c h = h
act_ranges w (DropSpace s) c h = h
act_ranges w (Map s q f x) c h = h
act_ranges w (Unmap s q count order) c h = λ e. submitted_ranges (submits w s e) (w.part e) (bound w e s) q count order (cookie_of w s e) c (h e)
act_ranges w (NewBinding e) c h = h
act_ranges w (NewJob e g) c h = h
act_ranges w (Hold x j) c h = h
act_ranges w (LetGo x) c h = h
act_ranges w (AtEndpoint e o) c h =
    put_keeps (λ x p. HasRanges p) w.part e (act_alone (w.part e) w.messages o) (λ k b range i. h e k b range (own_order (w.part e) w.messages o k b range i)) h

acts_ranges : (acts : List Act) (w : World) → AllCanCode acts → HaveRanges w → HaveRanges (after_acts w acts)
acts_ranges [] w c h = h
acts_ranges (a ∷ acts) w c h = acts_ranges acts (act w a) c.1 (act_ranges w a c.0 h)

-- What a step orders.

adding_codes : (acts : List Act) → AreAdding acts → AllCanCode acts
adding_codes [] a = tt
adding_codes (x ∷ acts) a = (one x a.0, adding_codes acts a.1)
  where
    one : (x : Act) → IsAdding x → CanCode x
    one NewSpace a = tt
    one (DropSpace s) a = tt
    one (Map s q f y) a = tt
    one (Unmap s q count order) a = absurd a
    one (NewBinding e) a = tt
    one (NewJob e g) a = tt
    one (Hold y j) a = tt
    one (LetGo y) a = tt
    one (AtEndpoint e o) a = tt

-- the pages of an unmapping, one range each, by what its step has tested
pages_codes : (q count : ℕ) → nat_lt (2 ^ 36) (q + count) ≡ false → (j : ℕ) → j < count → IsRange (range_at q 0 j)
pages_codes q count h j l =
    let high : q + count ≤ 2 ^ 36 = ltb-false (2 ^ 36) (q + count) h in
    record { small = omega arith; low = omega (arith, high, l); aligned = omega arith }

-- a range that is taken out
range_codes :
    (q order : ℕ) → nat_lt 9 order ≡ false → nat_lt (2 ^ 36) (q + 2 ^ order) ≡ false → not (q % 2 ^ order == 0) ≡ false → (j : ℕ) → j < 1
    → IsRange (range_at q order j)
range_codes q order small high aligned j l =
    subst (λ z. IsRange (range_at q order z)) (zero_is j l) (subst (λ base. IsRange (record { base = base; order = order })) base first)
  where
    zero_is : (j : ℕ) → j < 1 → 0 ≡ j
    zero_is j l = omega arith

    base : q ≡ q + 0 * 2 ^ order
    base = omega arith

    even : (x : ℕ) → not (x == 0) ≡ false → x ≡ 0
    even x h = grind (arith, nat_tests)

    some : (k : ℕ) → 1 ≤ 2 ^ k
    some k = let p : 0 < 2 ^ k = pow_pos k in omega arith

    lower : (q n : ℕ) → q + n ≤ 2 ^ 36 → 1 ≤ n → q < 2 ^ 36
    lower q n h k = omega (arith, h, k)

    first : IsRange (record { base = q; order = order })
    first =
        record {
          small = ltb-false 9 order small;
          low = lower q (2 ^ order) (ltb-false (2 ^ 36) (q + 2 ^ order) high) (some order);
          aligned = even (q % 2 ^ order) aligned;
        }

outcome_codes : (w : World) (s : Step) → Passed (refusals w s) → AllCanCode (outcome w s).acts
outcome_codes w step.Space h = (tt, tt)
outcome_codes w (step.DropSpace n) h = (tt, tt)
outcome_codes w (step.Map n q x) h = (tt, tt)
outcome_codes w (step.Unmap n q count) h = (pages_codes q count h.1.1.0, tt)
outcome_codes w (step.UnmapRange n q order) h = (range_codes q order h.1.0 h.1.1.0 h.1.1.1.0, tt)
outcome_codes w (step.Bind e n) h = (tt, (tt, tt))
outcome_codes w (step.Unbind n) h =
    adding_codes _ (unbind_adds (w.endpoint_of (Labels.name w n)) (Labels.name w n) ((w.part (w.endpoint_of (Labels.name w n))).stage (Labels.name w n)))
outcome_codes w (step.Advance n) h =
    adding_codes _ (advance_adds w (w.endpoint_of (Labels.name w n)) (Labels.name w n) ((w.part (w.endpoint_of (Labels.name w n))).stage (Labels.name w n)))
outcome_codes w (step.Pump e) h = adding_codes _ (pump_adds (w.part e) e (Labels.is_queue_empty (w.part e)))
outcome_codes w (step.Serve e) h = adding_codes _ (serve_adds (w.part e) e (Labels.is_page_queue_empty (w.part e)))
outcome_codes w (step.Reset e) h = (tt, tt)
outcome_codes w (step.Take x) h = (tt, (tt, tt))
outcome_codes w (step.Reply x v) h = adding_codes _ (reply_adds w x (the (w.hand x)) v (response_to w (the (w.hand x)) v))
outcome_codes w (step.Ask e t q) h = (tt, tt)
outcome_codes w (step.BeginUse e t q x) h = (tt, tt)
outcome_codes w (step.EndUse e u) h = (tt, tt)
outcome_codes w (step.Evict e t q) h = (tt, tt)
outcome_codes w (step.Fault e t q r x group l) h = adding_codes _ (fault_adds (w.part e) e t q r x l group)
outcome_codes w (step.Finish e vector count) h = (tt, tt)
outcome_codes w (step.Quit e t) h = (tt, tt)
outcome_codes w (step.Deliver n) h =
    adding_codes _
    (deliver_adds w (w.part (w.link_of (Labels.name w n))) (w.link_of (Labels.name w n)) (Labels.name w n)
    ((w.part (w.link_of (Labels.name w n))).message (Labels.name w n)))
outcome_codes w (step.Look f) h = tt
outcome_codes w (step.Bearer t) h = tt

checked_codes : (cs : List Cause) (o : Outcome) → (Passed cs → AllCanCode o.acts) → AllCanCode (checked cs o).acts
checked_codes [] o f = f tt
checked_codes (c ∷ cs) o f = go (λ e. checked_codes cs o (λ k. f (e, k))) c.0 refl
  where
    go :
        (c.0 ≡ false → AllCanCode (checked cs o).acts) → (b : Bool) → c.0 ≡ b
        → AllCanCode (if b then record { reply = Err c.1; acts = [] } else checked cs o).acts
    go rest true e = tt
    go rest false e = rest e

run_ranges : (ss : List Step) (w : World) → HaveRanges w → HaveRanges (run w ss)
run_ranges [] w h = h
run_ranges (s ∷ ss) w h = run_ranges ss (next w s) (acts_ranges (decide w s).acts w (checked_codes (refusals w s) (outcome w s) (outcome_codes w s)) h)

pub always_ranges : (rule : PasidRule) (config : Config) (steps : List Step) → HaveRanges (world_after rule config steps)
always_ranges rule config steps = run_ranges steps (opened rule config) (λ e k b range h. absurd (cc))
