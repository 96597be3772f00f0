-- The unit, where a completion of invalidations arrives: it counts by the ITags of its vector, which are those of the orders
-- that it names; an ITag is free once the last has come.
use Rattle.std.proofs.Common.{◌≡◌, ◌≢◌, ◌⊎◌, inl, inr, refl, ap, sym, ◌∙◌, ℕ, zero, suc, ◌<◌, ◌≤◌, Bool, true, false, arith}
use Rattle.std.specs.Prelude.{◌-◌, ◌&&◌, if◌then◌else◌, Option, Some, None, option_map, slice_index_or}
use Rattle.std.proofs.lemmas.Bool.{eq-eqb, ne_eqb}
use Rattle.sva_model.specs.Words.{unless}
use Rattle.sva_model.specs.State.{Mappings, OrderState, Endpoint}
use Rattle.sva_model.specs.State.OrderState.{Completing}
use Rattle.sva_model.specs.States.{is_queued, is_busy}
use Rattle.sva_model.specs.StateChanges.{counted, counted_if, is_last_left}
use Rattle.sva_model.specs.Acts.{LocalAct, act_alone}
use Rattle.sva_model.specs.Labels.{is_set}
use Rattle.sva_model.specs.Wire.{end_number, busy_wire, unit_wire, BusyWire}
use Rattle.sva_model.specs.Wire.BusyWire.{Fresh, Counting}
use Rattle.sva_labels.proofs.Lists.{tabulate_same, tabulate_at}
use Rattle.sva_laws.specs.LabelLaws.{count_read}
use Rattle.sva_laws.proofs.Legal.{LegalLocalAct}
use Rattle.sva_laws.proofs.Labels.{Labels}
use Rattle.sva_laws.proofs.Vectors.{IsOwedFor, AreOwed}
use Rattle.sva_labels.proofs.Words.{ℕ_cases}
use Rattle.sva_labels.specs.Moves.{one_more, counting, completed}
use Rattle.sva_refinement.proofs.Kept.{unit_moved}
use Rattle.sva_refinement.proofs.Named.{own_move, count_move}
use Rattle.sva_refinement.proofs.UnitQueue.{queue_of, busy_of, units_same}
use Rattle.sva_refinement.proofs.UnitStates.{states_queue}

-- what an order owes is at least one completion, and no more than the count that they all carry
abbrev pub IsCompleting : Endpoint → Type 0
IsCompleting p = (k count left : ℕ) → p.order_state k ≡ Completing count left → (0 < left) × (left ≤ count) × (count ≤ 8)

-- an ITag after one completion more, by the state of the order that bears it

counting_more : (count arrived : ℕ) → arrived ≢ count → counting count arrived ≡ Some (Counting count arrived)
counting_more count arrived ne = ap (λ b. if b then None else Some (Counting count arrived)) (ne_eqb arrived count ne)

counting_last : (count arrived : ℕ) → arrived ≡ count → counting count arrived ≡ None
counting_last count arrived e = ap (λ b. if b then None else Some (Counting count arrived)) (eq-eqb arrived count e)

-- the wire of an order that is owed
owing_wire : (count left : ℕ) → left ≢ count → busy_wire (Completing count left) ≡ Counting count (count - left)
owing_wire count left ne = ap (λ b. if b then Fresh else Counting count (count - left)) (ne_eqb left count ne)

fresh_wire : (count left : ℕ) → left ≡ count → busy_wire (Completing count left) ≡ Fresh
fresh_wire count left e = ap (λ b. if b then Fresh else Counting count (count - left)) (eq-eqb left count e)

last_comes : (count : ℕ) → 0 < count → one_more count (Some (busy_wire (Completing count 1))) ≡ None
last_comes count l = go (ℕ_cases 1 count)
  where
    go : (1 ≡ count) ⊎ (1 ≢ count) → one_more count (Some (busy_wire (Completing count 1))) ≡ None
    go (inl e) = ap (λ b. one_more count (Some b)) (fresh_wire count 1 e) ∙ counting_last count 1 e
    go (inr ne) = ap (λ b. one_more count (Some b)) (owing_wire count 1 ne) ∙ counting_last count (suc (count - 1)) (omega (arith, l))

more_come :
    (count left : ℕ) → suc (suc left) ≤ count
    → one_more count (Some (busy_wire (Completing count (suc (suc left))))) ≡ Some (busy_wire (Completing count (suc left)))
more_come count left l = go (ℕ_cases (suc (suc left)) count)
  where
    after : busy_wire (Completing count (suc left)) ≡ Counting count (count - suc left)
    after = owing_wire count (suc left) (λ e. absurd (omega (arith, l, e)))

    go :
        (suc (suc left) ≡ count) ⊎ (suc (suc left) ≢ count)
        → one_more count (Some (busy_wire (Completing count (suc (suc left))))) ≡ Some (busy_wire (Completing count (suc left)))
    go (inl e) =
        let one : 1 ≡ count - suc left = omega (arith, e) in
        ap (λ b. one_more count (Some b)) (fresh_wire count (suc (suc left)) e)
        ∙ counting_more count 1 (λ x. absurd (omega (arith, e, x)))
        ∙ ap (λ a. Some (Counting count a)) one
        ∙ sym (ap (λ b. Some b) after)
    go (inr ne) =
        let next : suc (count - suc (suc left)) ≡ count - suc left = omega (arith, l) in
        ap (λ b. one_more count (Some b)) (owing_wire count (suc (suc left)) ne)
        ∙ counting_more count (suc (count - suc (suc left))) (λ x. absurd (omega (arith, l, x)))
        ∙ ap (λ a. Some (Counting count a)) next
        ∙ sym (ap (λ b. Some b) after)

-- what stands at an ITag after the completion is counted by orders
abbrev pub counted_at : Bool → OrderState → Option BusyWire
counted_at named s = if named && is_last_left s then None else Some (busy_wire (counted_if named s))

counted_named : (count left : ℕ) → 0 < left → left ≤ count → counted_at true (Completing count left) ≡ one_more count (Some (busy_wire (Completing count left)))
counted_named count zero l m = absurd (omega (arith, l))
counted_named count (suc zero) l m = sym (last_comes count (omega (arith, m)))
counted_named count (suc (suc left)) l m = sym (more_come count left m)

pub unit_count :
    (ms : Mappings) (g first n next e : ℕ) (p : Endpoint) (c : ℕ) (names : ℕ → Bool) → LegalLocalAct ms g p (LocalAct.Count c names) → Labels p
    → AreOwed p → IsCompleting p
    → unit_wire first (act_alone p n (LocalAct.Count c names)) ≡ unit_moved next (unit_wire first p) (own_move first e ms p (LocalAct.Count c names))
unit_count ms g first n next e p c names l la are completing = go (are c names l.0)
  where
    q : Endpoint
    q = act_alone p n (LocalAct.Count c names)

    go : IsOwedFor p c names → unit_wire first q ≡ unit_moved next (unit_wire first p) (own_move first e ms p (LocalAct.Count c names))
    go (vector, field, carried, low, bits, owed) =
        units_same first p q (queue_of first p) (completed vector (count_read field) (busy_of p)) (end_number first p.front)
        (end_number first p.waits_end) refl
        (states_queue first p q.order_state (λ k. queued k (names k) refl))
        (tabulate_same 32 (λ t. option_map (λ k. busy_wire (q.order_state k)) (q.at_itag t))
        (λ t. if is_set vector t then one_more (count_read field) (slice_index_or (busy_of p) t None) else slice_index_or (busy_of p) t None) (λ t m. at t m))
        refl
        refl
        ∙ ap (λ z. unit_moved next (unit_wire first p) (count_move first e c z)) (sym carried)
      where
        queued : (k : ℕ) (b : Bool) → names k ≡ b → is_queued (counted_if (names k) (p.order_state k)) ≡ is_queued (p.order_state k)
        queued k false h = ap (λ z. is_queued (counted_if z (p.order_state k))) h
        queued k true h =
            ap (λ z. is_queued (counted_if z (p.order_state k))) h
            ∙ ap (λ s. is_queued (counted s)) (owed k h).1
            ∙ not_queued (count_read field) (owed k h).0
            ∙ sym (ap is_queued (owed k h).1)
          where
            not_queued : (count left : ℕ) → is_queued (counted (Completing count left)) ≡ false
            not_queued count zero = refl
            not_queued count (suc zero) = refl
            not_queued count (suc (suc l)) = refl

        -- the order that bears the ITag is named exactly where the bit is set
        bit : (t k : ℕ) → t < 32 → p.at_itag t ≡ Some k → is_set vector t ≡ names k
        bit t k m h = by (names k) (is_set vector t) refl refl
          where
            by : (b z : Bool) → names k ≡ b → is_set vector t ≡ z → is_set vector t ≡ names k
            by true z x y = ap (is_set vector) (sym (la.itag_bears t k h).0) ∙ bits.named k x ∙ sym x
            by false false x y = y ∙ sym x
            by false true x y =
                let (j, nj, tj) = bits.set t m y in
                let busy : is_busy (p.order_state j) ≡ true = ap is_busy (owed j nj).1 in
                let same : Some k ≡ Some j = sym h ∙ ap p.at_itag (sym tj) ∙ la.bears_itag j busy in
                absurd (grind (arith))

        by_name :
            (t k : ℕ) (b : Bool) → names k ≡ b → is_set vector t ≡ b
            → option_map (λ j. busy_wire (q.order_state j)) (if names k && is_last_left (p.order_state k) then None else Some k)
            ≡ (if is_set vector t then one_more (count_read field) (Some (busy_wire (p.order_state k))) else Some (busy_wire (p.order_state k)))
        by_name t k b h i =
            outside (names k && is_last_left (p.order_state k))
            ∙ ap (λ z. counted_at z (p.order_state k)) h
            ∙ inside b h
            ∙ sym (ap (λ z. if z then one_more (count_read field) (Some (busy_wire (p.order_state k))) else Some (busy_wire (p.order_state k))) i)
          where
            outside :
                (z : Bool)
                → option_map (λ j. busy_wire (q.order_state j)) (if z then None else Some k)
                ≡ (if z then None else Some (busy_wire (counted_if (names k) (p.order_state k))))
            outside true = refl
            outside false = refl

            inside :
                (z : Bool) → names k ≡ z
                → counted_at z (p.order_state k)
                ≡ (if z then one_more (count_read field) (Some (busy_wire (p.order_state k))) else Some (busy_wire (p.order_state k)))
            inside false x = refl
            inside true x =
                let (left, s) = owed k x in
                let low = completing k (count_read field) left s in
                ap (counted_at true) s ∙ counted_named (count_read field) left low.0 low.1
                ∙ sym (ap (λ z. one_more (count_read field) (Some (busy_wire z))) s)

        both :
            (t : ℕ) → t < 32 → (o : Option ℕ) → p.at_itag t ≡ o
            → option_map (λ j. busy_wire (q.order_state j)) (unless (λ k. names k && is_last_left (p.order_state k)) o)
            ≡ (if is_set vector t then one_more (count_read field) (option_map (λ k. busy_wire (p.order_state k)) o) else option_map
            (λ k. busy_wire (p.order_state k)) o)
        both t m None h = none (is_set vector t)
          where
            none : (z : Bool) → None ≡ (if z then one_more (count_read field) None else None)
            none true = refl
            none false = refl
        both t m (Some k) h = by_name t k (names k) refl (bit t k m h)

        at :
            (t : ℕ) → t < 32
            → option_map (λ k. busy_wire (q.order_state k)) (q.at_itag t)
            ≡ (if is_set vector t then one_more (count_read field) (slice_index_or (busy_of p) t None) else slice_index_or (busy_of p) t None)
        at t m =
            both t m (p.at_itag t) refl
            ∙ ap (λ z. if is_set vector t then one_more (count_read field) z else z)
            (sym (tabulate_at 32 (λ t. option_map (λ k. busy_wire (p.order_state k)) (p.at_itag t)) t None m))
