-- The deliveries of an invalidation, of its completions and of a response by labels are those by names.
use Rattle.std.proofs.Common.{◌≡◌, refl, ap, ap₂, sym, subst, ◌∙◌, ℕ, suc, ◌+◌, ◌-◌, ◌<◌, ◌≤◌, Bool, true, false, arith}
use Rattle.std.specs.Prelude.{Some, None, option_map, ◌&&◌, ◌==◌, if◌then◌else◌}
use Rattle.std.proofs.lemmas.Bool.Decides.{nat_tests}
use Rattle.std.proofs.lemmas.Bool.{and_from}
use Rattle.sva_step.specs.declared.answers.Answer.TheVariants as answer
use Rattle.sva_model.specs.Words.{count_below, the}
use Rattle.sva_model.proofs.RangeLemmas.{decode-encode}
use Rattle.sva_model.specs.Message.{Code}
use Rattle.sva_model.specs.Message.Message.{InvalidatedMessage}
use Rattle.sva_model.specs.State.{Endpoint, World, Order}
use Rattle.sva_model.specs.State.Order.{RangeOf, PasidOf, Wait}
use Rattle.sva_model.specs.State.OrderState.{Completing}
use Rattle.sva_model.specs.State.Subject.{InvalidateOf, InvalidatedOf, ResponseOf}
use Rattle.sva_model.specs.States.{is_open, is_busy}
use Rattle.sva_model.specs.StateChanges.{extent_of, scope_of, binding_of, is_last_left}
use Rattle.sva_model.specs.Labels
use Rattle.sva_model.specs.Outcomes as outcomes
use Rattle.sva_model.specs.Wire.{BusyWire, number, group_wire, busy_wire, wire}
use Rattle.sva_laws.specs.LabelLaws.{IsVectorOf}
use Rattle.sva_labels.proofs.Counting.{count_placed}
use Rattle.sva_labels.proofs.Lists.{tabulate_at}
use Rattle.sva_labels.specs.Finding.{unit_of, group_at, busy_at}
use Rattle.sva_labels.specs.Moves.{Move, extent_in, extent_or_all}
use Rattle.sva_labels.specs.Outcomes.{by_one, response_said, count_result, count_read, is_last_of}
use Rattle.sva_refinement.proofs.Named.{count_move}
use Rattle.sva_refinement.proofs.EndpointViews.{device_seen, unit_seen}
use Rattle.sva_refinement.proofs.EndpointLookups.{group_seen}
use Rattle.sva_refinement.proofs.OrderedRanges.{HasRanges}
use Rattle.sva_refinement.proofs.Reached.{IsReached}
use Rattle.sva_refinement.proofs.Alike.{result_by}
use Rattle.sva_refinement.proofs.DeliverResults.{ArrivesAlike, by_message, open_seen}
use Rattle.sva_laws.proofs.Groups.{answerable_outstanding as waits_on}
use Rattle.sva_labels.proofs.Tests.{first_holds, second_holds}

-- An Invalidate: its range is read from the code.

pub extent_read : (p : Endpoint) → HasRanges p → (k : ℕ) (o : Order) → p.order k ≡ o → extent_in (scope_of (extent_of o)) ≡ extent_of o
extent_read p h k (RangeOf b range) e = ap extent_or_all (decode-encode range (h k b range e))
extent_read p h k (PasidOf b) e = refl
extent_read p h k (Wait cookie drain) e = refl

pub invalidate_arrives : (w : World) (e c k : ℕ) → IsReached w → (w.part e).message c ≡ Some (InvalidateOf k) → ArrivesAlike w e c (InvalidateOf k)
invalidate_arrives w e c k r m =
    ap (by_message w e c) ((r.carried e).invalidate c k m)
    ∙ ap (λ x. by_one answer.Taken (Move.Take e (number w.config.first c) ((w.part e).itag k) ((w.part e).pasid (binding_of ((w.part e).order k))) x))
    (extent_read (w.part e) (r.ranges e) k ((w.part e).order k) refl)

-- A response finds its group by the index.

pub response_arrives :
    (w : World) (e c g : ℕ) (code : Code) → IsReached w → e < w.config.endpoints → (w.part e).message c ≡ Some (ResponseOf g code)
    → ArrivesAlike w e c (ResponseOf g code)
response_arrives w e c g code r l m =
    ap (by_message w e c) ((r.carried e).response c g code m)
    ∙ ap (λ o. by_one (response_said o) (Move.Answered e (number w.config.first c) (p.index g) code))
    (ap (λ d. group_at d (p.index g)) (device_seen w e l)
    ∙ group_seen w.mappings p (r.invariant.parts e).groups.index_low (p.index g)
    ∙ ap (option_map (group_wire p)) ((r.invariant.parts e).groups.bears_index g (waits_on (p.group g) ((r.under_way e).responded c g code m).0)))
  where
    p : Endpoint
    p = w.part e

-- Completions of invalidations: as many ITags are freed as orders are done.

-- an order that is owed is done by one more exactly where its ITag is freed by one more
last_seen : (count left : ℕ) → 0 < left → left ≤ count → is_last_of count (Some (busy_wire (Completing count left))) ≡ is_last_left (Completing count left)
last_seen count left low high = go (left == count) refl ∙ sym (by_left left)
  where
    by_left : (x : ℕ) → is_last_left (Completing count x) ≡ (x == 1)
    by_left x = grind (arith, nat_tests)

    fresh : (a b : ℕ) → (a == b) ≡ true → (b == 1) ≡ (a == 1)
    fresh a b h = grind (arith, nat_tests)

    counted : (a b : ℕ) → 0 < a → a ≤ b → (a == b) ≡ false → (suc (b - a) == b) ≡ (a == 1)
    counted a b l m h = grind (arith, nat_tests)

    go : (t : Bool) → (left == count) ≡ t → is_last_of count (Some (if t then BusyWire.Fresh else BusyWire.Counting count (count - left))) ≡ (left == 1)
    go true h = fresh left count h
    go false h = counted left count low high h

-- two searches that pair off what they find find as many
pub count_paired :
    (n m : ℕ) (p q : ℕ → Bool) (f g : ℕ → ℕ) → ((i : ℕ) → i < n → p i ≡ true → (f i < m) × (q (f i) ≡ true) × (g (f i) ≡ i))
    → ((j : ℕ) → j < m → q j ≡ true → (g j < n) × (p (g j) ≡ true) × (f (g j) ≡ j)) → count_below n p ≡ count_below m q
count_paired n m p q f g h k =
    let one = fewer n m p q f g h in
    let two = fewer m n q p g f k in
    omega (arith, one, two)
  where
    fewer :
        (n m : ℕ) (p q : ℕ → Bool) (f g : ℕ → ℕ) → ((i : ℕ) → i < n → p i ≡ true → (f i < m) × (q (f i) ≡ true) × (g (f i) ≡ i))
        → count_below n p ≤ count_below m q
    fewer n m p q f g h =
        count_placed n m p q (λ i. if p i then f i else m + i)
        (λ i l t. subst (λ b. (if b then f i else m + i) < m) (sym t) (h i l t).0)
        (λ i l t. subst (λ b. q (if b then f i else m + i) ≡ true) (sym t) (h i l t).1)
        (λ i j l s e. one i j l s (p i) (p j) refl refl e)
      where
        one : (i j : ℕ) → i < n → j < n → (b c : Bool) → p i ≡ b → p j ≡ c → (if b then f i else m + i) ≡ (if c then f j else m + j) → i ≡ j
        one i j l s true true x y e = sym (h i l x).2 ∙ ap g e ∙ (h j s y).2
        one i j l s true false x y e = absurd (let low = (h i l x).0 in omega (arith, low, e))
        one i j l s false true x y e = absurd (let low = (h j s y).0 in omega (arith, low, e))
        one i j l s false false x y e = omega (arith, e)

busy_seen :
    (w : World) (e t : ℕ) → e < w.config.endpoints → t < 32
    → busy_at (unit_of (wire w) e) t ≡ option_map (λ k. busy_wire ((w.part e).order_state k)) ((w.part e).at_itag t)
busy_seen w e t l m =
    ap (λ u. busy_at u t) (unit_seen w e l)
    ∙ tabulate_at 32 (λ t. option_map (λ k. busy_wire ((w.part e).order_state k)) ((w.part e).at_itag t)) t None m

freed_seen :
    (w : World) (e c vector field : ℕ) (names : ℕ → Bool) → IsReached w → e < w.config.endpoints → IsVectorOf (w.part e) names vector
    → ((k : ℕ) → names k ≡ true → (left : ℕ) × ((w.part e).order_state k ≡ Completing (count_read field) left))
    → count_below 32 (λ t. Labels.is_set vector t && is_last_of (count_read field) (busy_at (unit_of (wire w) e) t))
    ≡ count_below (w.part e).orders (λ k. names k && is_last_left ((w.part e).order_state k))
freed_seen w e c vector field names r l v owed =
    count_paired 32 p.orders (λ t. Labels.is_set vector t && is_last_of count (busy_at (unit_of (wire w) e) t))
    (λ k. names k && is_last_left (p.order_state k)) (λ t. the (p.at_itag t)) p.itag forth back
  where
    p : Endpoint
    p = w.part e

    count : ℕ
    count = count_read field

    busy : (k left : ℕ) → p.order_state k ≡ Completing count left → is_busy (p.order_state k) ≡ true
    busy k left h = ap is_busy h

    bears : (k : ℕ) → names k ≡ true → p.at_itag (p.itag k) ≡ Some k
    bears k nm = let x = owed k nm in (r.invariant.parts e).labels.bears_itag k (busy k x.0 x.1)

    -- of a named order both say the same
    alike : (k : ℕ) → names k ≡ true → p.itag k < 32 → is_last_of count (busy_at (unit_of (wire w) e) (p.itag k)) ≡ is_last_left (p.order_state k)
    alike k nm low =
        let x = owed k nm in
        let y = (r.under_way e).completing k count x.0 x.1 in
        ap (is_last_of count)
        (busy_seen w e (p.itag k) l low ∙ ap (option_map (λ j. busy_wire (p.order_state j))) (bears k nm) ∙ ap (λ s. Some (busy_wire s)) x.1)
        ∙ last_seen count x.0 y.0 y.1
        ∙ sym (ap is_last_left x.1)

    made : (k : ℕ) → is_busy (p.order_state k) ≡ true → k < p.orders
    made k h = grind (arith, (r.invariant.parts e).bounds.order_state k)

    low_of : (k : ℕ) → names k ≡ true → p.itag k < 32
    low_of k nm = (r.invariant.parts e).labels.itag_low (p.itag k) k (bears k nm)

    forth :
        (t : ℕ) → t < 32 → (Labels.is_set vector t && is_last_of count (busy_at (unit_of (wire w) e) t)) ≡ true
        → (the (p.at_itag t) < p.orders) × ((names (the (p.at_itag t)) && is_last_left (p.order_state (the (p.at_itag t)))) ≡ true)
        × (p.itag (the (p.at_itag t)) ≡ t)
    forth t m h = go (v.set t m (first_holds (Labels.is_set vector t) (is_last_of count (busy_at (unit_of (wire w) e) t)) h))
      where
        go :
            (k : ℕ) × (names k ≡ true) × (p.itag k ≡ t)
            → (the (p.at_itag t) < p.orders) × ((names (the (p.at_itag t)) && is_last_left (p.order_state (the (p.at_itag t)))) ≡ true)
            × (p.itag (the (p.at_itag t)) ≡ t)
        go (k, nm, same) =
            let there : the (p.at_itag t) ≡ k = ap (λ z. the (p.at_itag z)) (sym same) ∙ ap the (bears k nm) in
            let last : is_last_left (p.order_state k) ≡ true =
            sym (alike k nm (low_of k nm)) ∙ ap (λ z. is_last_of count (busy_at (unit_of (wire w) e) z)) same
            ∙ second_holds (Labels.is_set vector t) (is_last_of count (busy_at (unit_of (wire w) e) t)) h in
            let x = owed k nm in
            subst (λ z. (z < p.orders) × ((names z && is_last_left (p.order_state z)) ≡ true) × (p.itag z ≡ t)) (sym there)
            (made k (busy k x.0 x.1), and_from (names k) (is_last_left (p.order_state k)) nm last, same)

    back :
        (k : ℕ) → k < p.orders → (names k && is_last_left (p.order_state k)) ≡ true
        → (p.itag k < 32) × ((Labels.is_set vector (p.itag k) && is_last_of count (busy_at (unit_of (wire w) e) (p.itag k))) ≡ true)
        × (the (p.at_itag (p.itag k)) ≡ k)
    back k m h =
        let nm = first_holds (names k) (is_last_left (p.order_state k)) h in (
          low_of k nm,
          and_from (Labels.is_set vector (p.itag k)) (is_last_of count (busy_at (unit_of (wire w) e) (p.itag k))) (v.named k nm)
              (alike k nm (low_of k nm) ∙ second_holds (names k) (is_last_left (p.order_state k)) h),
          ap the (bears k nm),
        )

pub invalidated_arrives :
    (w : World) (e c : ℕ) (names : ℕ → Bool) → IsReached w → e < w.config.endpoints → (w.part e).message c ≡ Some (InvalidatedOf names)
    → ArrivesAlike w e c (InvalidatedOf names)
invalidated_arrives w e c names r l m = go ((r.carried e).invalidated c names m)
  where
    p : Endpoint
    p = w.part e

    -- what is moved where the unit is open
    by_open :
        (vector field : ℕ) → p.carried c ≡ InvalidatedMessage vector field → (b : Bool)
        → count_below 32 (λ t. Labels.is_set vector t && is_last_of (count_read field) (busy_at (unit_of (wire w) e) t))
        ≡ count_below p.orders (λ k. names k && is_last_left (p.order_state k))
        → count_result (unit_of (wire w) e) e (number w.config.first c) vector (count_read field) b ≡ result_by w (outcomes.count_outcome p e c names b)
    by_open vector field h true same =
        ap₂ (λ n x. by_one (answer.Freed n) x) same (sym (ap (count_move w.config.first e c) h))
    by_open vector field h false same = refl

    go :
        (vector field : ℕ) × (p.carried c ≡ InvalidatedMessage vector field) × (field < 8) × IsVectorOf p names vector
        × ((k : ℕ) → names k ≡ true → (left : ℕ) × (p.order_state k ≡ Completing (count_read field) left))
        → ArrivesAlike w e c (InvalidatedOf names)
    go (vector, field, h, low, v, owed) =
        ap (by_message w e c) h
        ∙ ap (count_result (unit_of (wire w) e) e (number w.config.first c) vector (count_read field)) (open_seen w e l)
        ∙ by_open vector field h (is_open p.phase) (freed_seen w e c vector field names r l v owed)
