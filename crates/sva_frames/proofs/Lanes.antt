use Rattle.std.proofs.Common.{◌≡◌, ◌≢◌, ℕ, ◌<◌, ◌==◌, Bool, true, false, ◌||◌, List, Option, Some, None, [], ◌∷◌, length, set, map, slice_get, is_some}
use Rattle.std.proofs.Common.{refl, sym, ap, subst, ◌∙◌, ◌⊎◌, inl, inr, ⊎_elim, arith, zero, suc}
use Rattle.std.specs.List.{IsDistinct, AllByRecursion}
use Rattle.std.specs.Option.{option_map, IfNone, IfSome}
use Rattle.std.specs.Set.{distinct_count, is_member}
use Rattle.std.proofs.lemmas.Bool.{cases_eq}
use Rattle.std.proofs.lemmas.Bool.Decides.{nat_tests}
use Rattle.std.proofs.lemmas.Cmp.{nat_eq_equiv}
use Rattle.std.proofs.lemmas.List.{length-map}
use Rattle.std.proofs.lemmas.Map.Made.{length-from_keys}
use Rattle.std.proofs.lemmas.Option.{same_Some, slice_get_within, slice_get-map}
use Rattle.sva_frames.specs.declared.heads.Pending.{Pending}
use Rattle.sva_frames.specs.declared.waits.Target.{Target}
use Rattle.sva_frames.specs.declared.waits.Target.TheVariants.{Cookie, ResetEnd}
use Rattle.sva_frames.specs.declared.lane.Cell.{Cell}
use Rattle.sva_frames.specs.Room.{HasRoom, cookies}
use Rattle.sva_frames.specs.Chains.{Firsts, first_of, AreApart, Chain, NoneWaits, IsLane, HasPlace, unlinked, first_at, target_of}
use Rattle.sva_frames.proofs.Pools.{slice_get-set_same, set_again}
use Rattle.sva_frames.proofs.Tables.{first_here, first_later}
use Rattle.sva_frames.proofs.Chains.{chain-set}

-- two targets are the same or not
pub cases_target : (a b : Target) → (a ≡ b) ⊎ (a ≢ b)
cases_target (Cookie c) (Cookie d) = ⊎_elim (λ (same : c ≡ d). inl (ap (λ n. Cookie n) same)) (λ (other : c ≢ d). inr (λ is. other (cc))) (cases_eq c d)
cases_target (Cookie c) ResetEnd = inr (λ is. cc)
cases_target ResetEnd (Cookie d) = inr (λ is. cc)
cases_target ResetEnd ResetEnd = inl refl

-- the cell behind a target that contracts see
pub cell_at :
    (cells : List Cell) (n : ℕ) (o : Option Target) → slice_get (map target_of cells) n ≡ Some o →
    (cell : Cell) × (slice_get cells n ≡ Some cell) × (cell.target ≡ o)
cell_at [] n o there = absurd (cc)
cell_at (x ∷ xs) zero o there = (x, refl, same_Some x.target o there)
cell_at (x ∷ xs) (suc n) o there = cell_at xs n o there

pub cell_target : (cells : List Cell) (n : ℕ) (cell : Cell) → slice_get cells n ≡ Some cell → slice_get (map target_of cells) n ≡ Some cell.target
cell_target cells n cell there = slice_get-map target_of cells n ∙ ap (option_map target_of) there

or_true : (b : Bool) → (b || true) ≡ true
or_true true = refl
or_true false = refl

differ : (a b : ℕ) → a ≢ b → (a == b) ≡ false
differ a b apart = grind (arith, nat_tests)

some_none : {A : Type 0} (x : A) → Some x ≡ None → ⊥
some_none x is = cc

other_target : (t u : Target) (o : Option Target) → o ≡ Some t → u ≢ t → o ≢ Some u
other_target t u o is other same = other (same_Some u t (sym same ∙ is))

-- ---- a frame more at the head of a chain

pub lane_push : (cells : List Cell) (before after : Firsts) (t : Target) (n : ℕ) (next : Option ℕ) → IsLane cells before
    → slice_get (map target_of cells) n ≡ Some None → next ≡ first_at before t → first_at after t ≡ Some n
    → ((u : Target) → u ≢ t → first_at after u ≡ first_at before u) → IsLane (set cells n (record { target = Some t; next = next })) after
lane_push cells before after t n next is free links here others = record {
  chains = λ u. ⊎_elim
      (λ (same : u ≡ t). subst (λ v. Chains v) (sym same) pushed)
      (λ (other : u ≢ t). (
        (is.chains u).0,
        subst (Chain u (is.chains u).0 (set cells n new)) (sym (others u other))
            (chain-set u (is.chains u).0 cells (first_at before u) n old.0 new old.1 (λ w. some_none u (sym w ∙ old.2))
            (λ w. other (sym (same_Some t u w))) (is.chains u).1),
      ))
      (cases_target u t);
}
  where
    new : Cell
    new = record { target = Some t; next = next }

    old : (cell : Cell) × (slice_get cells n ≡ Some cell) × (cell.target ≡ None)
    old = cell_at cells n None free

    Chains : Target → Type 0
    Chains u = (k : ℕ) × Chain u k (set cells n (record { target = Some t; next = next })) (first_at after u)

    pushed : Chains t
    pushed = (
      suc (is.chains t).0,
      subst (Chain t (suc (is.chains t).0) (set cells n new)) (sym here) (
        new,
        slice_get-set_same cells n new (slice_get_within cells n old.0 old.1),
        refl,
        subst (λ cs. Chain t (is.chains t).0 cs next) (sym (set_again cells n new unlinked))
            (subst (Chain t (is.chains t).0 (set cells n unlinked)) (sym links)
            (chain-set t (is.chains t).0 cells (first_at before t) n old.0 unlinked old.1 (λ w. some_none t (sym w ∙ old.2))
            (λ w. some_none t (sym w)) (is.chains t).1)),
      ),
    )

-- ---- the first frame of a chain taken off

pub peel :
    (t : Target) (k : ℕ) (cells : List Cell) (n : ℕ) → Chain t k cells (Some n) →
    (cell : Cell) × (slice_get cells n ≡ Some cell) × (cell.target ≡ Some t) × (j : ℕ) × Chain t j (set cells n unlinked) cell.next
peel t zero cells n chain = absurd chain
peel t (suc k) cells n chain = (chain.0, chain.1, chain.2, k, chain.3)

pub ends : (t : Target) (k : ℕ) (cells : List Cell) → Chain t k cells None → NoneWaits t cells
ends t zero cells chain = chain
ends t (suc k) cells chain = absurd chain

-- the frame at the head of a chain waits for its target
pub first_waits :
    (cells : List Cell) (firsts : Firsts) (t : Target) (n : ℕ) → IsLane cells firsts → Some n ≡ first_at firsts t →
    (cell : Cell) × (slice_get cells n ≡ Some cell) × (cell.target ≡ Some t)
first_waits cells firsts t n is here =
    let p = peel t (is.chains t).0 cells n (subst (Chain t (is.chains t).0 cells) (sym here) (is.chains t).1) in
    (p.0, p.1, p.2)

pub first_within : (cells : List Cell) (firsts : Firsts) (t : Target) (n : ℕ) → IsLane cells firsts → Some n ≡ first_at firsts t → n < length cells
first_within cells firsts t n is here = let cell = first_waits cells firsts t n is here in slice_get_within cells n cell.0 cell.1

pub none_at :
    (cells : List Cell) (firsts : Firsts) (t : Target) → IsLane cells firsts → None ≡ first_at firsts t → (n : ℕ) →
    slice_get (map target_of cells) n ≡ Some (Some t) → ⊥
none_at cells firsts t is here n there =
    let cell = cell_at cells n (Some t) there in
    ends t (is.chains t).0 cells (subst (Chain t (is.chains t).0 cells) (sym here) (is.chains t).1) n cell.0 cell.1 cell.2

pub lane_pop :
    (cells : List Cell) (before after : Firsts) (t : Target) (n : ℕ) (next : Option ℕ) → IsLane cells before → Some n ≡ first_at before t →
    ((cell : Cell) → slice_get cells n ≡ Some cell → next ≡ cell.next) → first_at after t ≡ next →
    ((u : Target) → u ≢ t → first_at after u ≡ first_at before u) → IsLane (set cells n unlinked) after
lane_pop cells before after t n next is here links set_to others = record {
  chains = λ u. ⊎_elim
      (λ (same : u ≡ t). subst (λ v. Chains v) (sym same) popped)
      (λ (other : u ≢ t). (
        (is.chains u).0,
        subst (Chain u (is.chains u).0 (set cells n unlinked)) (sym (others u other))
            (chain-set u (is.chains u).0 cells (first_at before u) n first.0 unlinked first.1 (λ w. other (sym (same_Some t u (sym first.2 ∙ w))))
            (λ w. some_none u (sym w)) (is.chains u).1),
      ))
      (cases_target u t);
}
  where
    first : (cell : Cell) × (slice_get cells n ≡ Some cell) × (cell.target ≡ Some t) × (j : ℕ) × Chain t j (set cells n unlinked) cell.next
    first = peel t (is.chains t).0 cells n (subst (Chain t (is.chains t).0 cells) (sym here) (is.chains t).1)

    Chains : Target → Type 0
    Chains u = (k : ℕ) × Chain u k (set cells n unlinked) (first_at after u)

    popped : Chains t
    popped = (first.3, subst (Chain t first.3 (set cells n unlinked)) (sym (set_to ∙ links first.0 first.1)) first.4)

-- ---- room for a new cookie

-- a cookie that a table holds is one of its cookies
member_pending : (ps : List Pending) (q : ℕ) → is_member (◌==◌) (map (λ p. p.cookie) ps) q ≡ is_some (first_of ps q)
member_pending [] q = refl
member_pending (p ∷ ps) q =
    ⊎_elim
    (λ (same : p.cookie ≡ q). let yes : (q == p.cookie) ≡ true =
    grind (arith, nat_tests) in ap (λ b. b || is_member (◌==◌) (map (λ (p : Pending). p.cookie) ps) q) yes ∙ sym (ap is_some (first_here p ps q same)))
    (λ (other : p.cookie ≢ q). let no : (q == p.cookie) ≡ false =
    grind (arith, nat_tests) in ap (λ b. b || is_member (◌==◌) (map (λ (p : Pending). p.cookie) ps) q) no ∙ member_pending ps q
    ∙ sym (ap is_some (first_later p ps q other)))
    (cases_eq p.cookie q)

all_apart : (ps : List Pending) (c : ℕ) → first_of ps c ≡ None → AllByRecursion (λ y. (c == y) ≡ false) (map (λ p. p.cookie) ps)
all_apart [] c none = tt
all_apart (p ∷ ps) c none =
    ⊎_elim
    (λ (same : p.cookie ≡ c). absurd (some_none p.first (sym (first_here p ps c same) ∙ none)))
    (λ (other : p.cookie ≢ c). let no : (c == p.cookie) ≡ false = grind (arith, nat_tests) in (no, all_apart ps c (sym (first_later p ps c other) ∙ none)))
    (cases_eq p.cookie c)

distinct : (ps : List Pending) → AreApart ps → IsDistinct (◌==◌) (map (λ p. p.cookie) ps)
unfolding IsDistinct
distinct [] all = tt
distinct (p ∷ ps) all = (all_apart ps p.cookie all.0, distinct ps all.1)

member_some : (ts : List (Option Target)) (n c : ℕ) → slice_get ts n ≡ Some (Some (Cookie c)) → is_member (◌==◌) (cookies ts) c ≡ true
member_some [] n c there = absurd (cc)
member_some (None ∷ ts) zero c there = absurd (cc)
member_some (Some ResetEnd ∷ ts) zero c there = absurd (cc)
member_some (Some (Cookie d) ∷ ts) zero c there = let same : d ≡ c = cc in let yes : (c == d) ≡ true =
    grind (arith, nat_tests) in ap (λ b. b || is_member (◌==◌) (cookies ts) c) yes
member_some (None ∷ ts) (suc n) c there = member_some ts n c there
member_some (Some ResetEnd ∷ ts) (suc n) c there = member_some ts n c there
member_some (Some (Cookie d) ∷ ts) (suc n) c there = ap (λ b. (c == d) || b) (member_some ts n c there) ∙ or_true (c == d)

member_none : (ts : List (Option Target)) (c : ℕ) → ((n : ℕ) → slice_get ts n ≡ Some (Some (Cookie c)) → ⊥) → is_member (◌==◌) (cookies ts) c ≡ false
member_none [] c none = refl
member_none (None ∷ ts) c none = member_none ts c (λ n. none (suc n))
member_none (Some ResetEnd ∷ ts) c none = member_none ts c (λ n. none (suc n))
member_none (Some (Cookie d) ∷ ts) c none =
    let no : (c == d) ≡ false = differ c d (λ same. none 0 (ap (λ m. Some (Some (Cookie m))) (sym same))) in
    ap (λ b. b || is_member (◌==◌) (cookies ts) c) no ∙ member_none ts c (λ n. none (suc n))

member_is :
    (cells : List Cell) (firsts : Firsts) (c : ℕ) → IsLane cells firsts →
    is_member (◌==◌) (cookies (map target_of cells)) c ≡ is_some (first_of firsts.pending c)
member_is cells firsts c is = by_first (first_of firsts.pending c) refl
  where
    by_first : (o : Option ℕ) → first_of firsts.pending c ≡ o → is_member (◌==◌) (cookies (map target_of cells)) c ≡ is_some o
    by_first None none = member_none (map target_of cells) c (none_at cells firsts (Cookie c) is (sym none))
    by_first (Some n) some =
        let cell = first_waits cells firsts (Cookie c) n is (sym some) in
        member_some (map target_of cells) n c (cell_target cells n cell.0 cell.1 ∙ ap (λ (o : Option Target). Some o) cell.2)

-- the table has the cookies that frames wait for, each once
pending_count :
    (cells : List Cell) (firsts : Firsts) → IsLane cells firsts → AreApart firsts.pending →
    length (map (λ (p : Pending). p.cookie) firsts.pending) ≡ distinct_count (◌==◌) (cookies (map target_of cells))
pending_count cells firsts is all =
    length-from_keys nat_eq_equiv (map (λ (p : Pending). p.cookie) firsts.pending) (cookies (map target_of cells)) (distinct firsts.pending all)
    (λ q. member_pending firsts.pending q ∙ sym (member_is cells firsts q is))

pub has_place :
    (cells : List Cell) (firsts : Firsts) (t : Target) → IsLane cells firsts → AreApart firsts.pending → HasRoom (map target_of cells) t →
    HasPlace firsts t
has_place cells firsts ResetEnd is all room = tt
has_place cells firsts (Cookie c) is all room = λ none.
    let count = pending_count cells firsts is all in
    let few = room (member_is cells firsts c is ∙ ap is_some none) in
    omega (arith, count, few, length-map firsts.pending (λ (p : Pending). p.cookie))

pub has_room :
    (cells : List Cell) (firsts : Firsts) (t : Target) → IsLane cells firsts → AreApart firsts.pending → HasPlace firsts t →
    HasRoom (map target_of cells) t
has_room cells firsts ResetEnd is all place = tt
has_room cells firsts (Cookie c) is all place = λ none.
    let count = pending_count cells firsts is all in
    let few = place (not_some (first_of firsts.pending c) (sym (member_is cells firsts c is) ∙ none)) in
    omega (arith, count, few, length-map firsts.pending (λ (p : Pending). p.cookie))
  where
    not_some : (o : Option ℕ) → is_some o ≡ false → o ≡ None
    not_some None is = refl
    not_some (Some n) is = absurd (cc)

-- a place that is there always does
pub has_place_taken : (firsts : Firsts) (t : Target) (n : ℕ) → Some n ≡ first_at firsts t → HasPlace firsts t
has_place_taken firsts ResetEnd n some = tt
has_place_taken firsts (Cookie c) n some = λ none. absurd (some_none n (some ∙ none))

-- what `any` says of the heads, as the targets tell it
pub any_none :
    (cells : List Cell) (firsts : Firsts) (o : Option Target) → IsLane cells firsts → IfNone o ((t : Target) → first_at firsts t ≡ None) →
    IfNone o ((n : ℕ) (t : Target) → slice_get (map target_of cells) n ≡ Some (Some t) → ⊥)
any_none cells firsts None is none = λ n t. none_at cells firsts t is (sym (none t)) n
any_none cells firsts (Some t) is none = tt

pub any_some :
    (cells : List Cell) (firsts : Firsts) (o : Option Target) → IsLane cells firsts → IfSome o (λ t. (n : ℕ) × (first_at firsts t ≡ Some n)) →
    IfSome o (λ t. (n : ℕ) × (slice_get (map target_of cells) n ≡ Some (Some t)))
any_some cells firsts None is some = tt
any_some cells firsts (Some t) is some =
    let cell = first_waits cells firsts t some.0 is (sym some.1) in
    (some.0, cell_target cells some.0 cell.0 cell.1 ∙ ap (λ (o : Option Target). Some o) cell.2)
