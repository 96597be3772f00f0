-- Which ITags a completion frees, and what the end of a reset leaves: as in the open world.
use Rattle.std.proofs.Common.{◌≡◌, ◌≢◌, ◌⊎◌, inl, inr, refl, ap, sym, subst, ◌∙◌, ℕ, zero, suc, ◌<◌, ◌≤◌, Bool, true, false, arith}
use Rattle.std.specs.Prelude.{◌==◌, ◌&&◌, not, nat_lt, if◌then◌else◌, List, [], ◌∷◌, ◌++◌, Option, Some, None, Contains, length, map, position, remove}
use Rattle.std.specs.Prelude.{slice_get}
use Rattle.std.proofs.lemmas.Bool.{eqb-true, eq-eqb}
use Rattle.std.proofs.lemmas.Bool.Decides.{nat_tests}
use Rattle.std.proofs.lemmas.List.{append-nil, map_push}
use Rattle.sva_step.specs.declared.steps.Step.{Step}
use Rattle.sva_model.specs.Words.{select}
use Rattle.sva_model.specs.State.{Endpoint, OrderState, World}
use Rattle.sva_model.specs.State.OrderState.{Queued, Sent, Taken, Lapsed, Completing, Done, Void}
use Rattle.sva_model.specs.State.Subject.{InvalidatedOf, ResetDone}
use Rattle.sva_model.specs.StateChanges.{counted_if, is_last_left, void_undone}
use Rattle.sva_model.specs.States.{is_busy, is_open, is_queued}
use Rattle.sva_model.specs.Acts.{LocalAct, act, act_alone}
use Rattle.sva_model.specs.Acts.Act.{AtEndpoint}
use Rattle.sva_model.specs.Labels.{name}
use Rattle.sva_model.specs.Outcomes.{count_outcome}
use Rattle.sva_model.specs.Steps.{decide, next, world_after}
use Rattle.sva_labels.proofs.Tests.{first_holds, second_holds}
use Rattle.sva_labels.proofs.Words.{ℕ_cases}
use Rattle.sva_laws.specs.UnitSteps.{Delivers}
use Rattle.sva_laws.proofs.Invariant.{Invariant}
use Rattle.sva_laws.proofs.Runs.{always}
use Rattle.sva_laws.proofs.UnitSteps.{delivered}
use Rattle.sva_search.proofs.Once.{contains_at}
use Rattle.sva_open.specs.declared.descriptors.Issued.{Issued}
use Rattle.sva_open.specs.declared.descriptors.Issued.TheVariants as issued
use Rattle.sva_open.specs.World.{Part, if_so}
use Rattle.sva_open.specs.Units.{complete_itag, completed_at, has_itag, is_out_before, settled, without_issued, without_out}
use Rattle.sva_open_laws.specs.AsOpen.{descriptor_of, gather, part_of, where_so}
use Rattle.sva_open_laws.specs.Queues.{CompletionsAreOne, IsFreedAlike, IsReopenedAlike, ResetsAreOne, completed, last_of, shown}
use Rattle.sva_open_laws.proofs.DeviceActs.{never}
use Rattle.sva_open_laws.proofs.Gathered.{gathered, so_in}
use Rattle.sva_open_laws.proofs.GatherLists.{Split, gather_none, gather_same, place_at, remove_at, split}
use Rattle.sva_open_laws.proofs.QueueSteps.{shown_after}

-- ---- One ITag

abbrev sent_at : (e : ℕ) → (itags : ℕ → ℕ) → (ℕ → Bool) → ℕ → List Issued
sent_at e itags busy j = where_so (busy j) (issued.Sent e (itags j))

-- where no wait stands, nothing else leaves
settled_none : (x : Part) (place : ℕ) (is_out : Bool) (o : Option Issued) → ((name : ℕ) (drain : Bool) → o ≢ Some (issued.Waiting name drain))
    → (settled x place is_out o).issued ≡ x.issued
settled_none x place true o none = refl
settled_none x place false None none = refl
settled_none x place false (Some (issued.Sent e t)) none = refl
settled_none x place false (Some (issued.Waiting name drain)) none = absurd (none name drain refl)

no_wait : (e n : ℕ) (itags : ℕ → ℕ) (busy : ℕ → Bool) (place name : ℕ) (drain : Bool)
    → slice_get (gather n (sent_at e itags busy)) place ≢ Some (issued.Waiting name drain)
no_wait e n itags busy place name drain h =
    let x = gathered n (sent_at e itags busy) (issued.Waiting name drain) (contains_at (gather n (sent_at e itags busy)) place (issued.Waiting name drain) h) in
    let y = so_in (busy x.0) (issued.Sent e (itags x.0)) (issued.Waiting name drain) x.2 in
    absurd (cc (y.1))

-- the one that bears it is gone
complete_one : (x : Part) (e n k : ℕ) (itags : ℕ → ℕ) (busy : ℕ → Bool) → x.issued ≡ gather n (sent_at e itags busy) → k < n → busy k ≡ true
    → ((j : ℕ) → busy j ≡ true → itags j ≡ itags k → j ≡ k)
    → (complete_itag x (itags k)).issued ≡ gather n (sent_at e itags (λ j. busy j && not (j == k)))
complete_one x e n k itags busy is l own alone =
    ap (λ o. (completed_at (without_out x (itags k)) o).issued) at
    ∙ settled_none (without_issued (without_out x (itags k)) place) place (is_out_before x.issued place) (slice_get (remove x.issued place) place)
    (λ name drain h. no_wait e n itags left place name drain (sym (ap (λ xs. slice_get xs place) gone) ∙ h))
    ∙ gone
  where
    left : ℕ → Bool
    left j = busy j && not (j == k)

    place : ℕ
    place = length (gather k (sent_at e itags busy))

    its : ℕ → (b : Bool) → List Issued
    its j b = where_so b (issued.Sent e (itags j))

    other : (j : ℕ) → j ≢ k → sent_at e itags left j ≡ sent_at e itags busy j
    other j ne =
        ap (its j) (ap (λ b. busy j && not b) (never (j == k) (λ h. ne (eqb-true j k h))) ∙ and_true (busy j))
      where
        and_true : (b : Bool) → (b && true) ≡ b
        and_true true = refl
        and_true false = refl

    s : Split n (sent_at e itags busy) (sent_at e itags left) k (issued.Sent e (itags k))
    s =
        split n (sent_at e itags busy) (sent_at e itags left) k (issued.Sent e (itags k)) l (ap (its k) own)
        (ap (its k) (ap (λ b. busy k && not b) (eq-eqb k k refl) ∙ and_false (busy k))) other
      where
        and_false : (b : Bool) → (b && false) ≡ false
        and_false true = refl
        and_false false = refl

    before : (y : Issued) → Contains (gather k (sent_at e itags busy)) y → has_itag (itags k) y ≡ false
    before y h =
        let z = gathered k (sent_at e itags busy) y h in
        let v = so_in (busy z.0) (issued.Sent e (itags z.0)) y z.2 in
        subst (λ u. has_itag (itags k) u ≡ false) v.1
        (never (itags z.0 == itags k) (λ b. let same = alone z.0 v.0 (eqb-true (itags z.0) (itags k) b) in let low = z.1 in absurd (omega (arith, same, low))))

    at : position (has_itag (itags k)) x.issued ≡ Some place
    at =
        ap (position (has_itag (itags k))) (is ∙ s.whole)
        ∙ place_at (has_itag (itags k)) (gather k (sent_at e itags busy)) (issued.Sent e (itags k)) s.behind before (eq-eqb (itags k) (itags k) refl)

    gone : remove x.issued place ≡ gather n (sent_at e itags left)
    gone =
        ap (λ xs. remove xs place) (is ∙ s.whole)
        ∙ remove_at (gather k (sent_at e itags busy)) (issued.Sent e (itags k)) s.behind ∙ sym s.rest

-- ---- One after another

completed_push : (ts : List ℕ) (t : ℕ) (x : Part) → completed (ts ++ t ∷ []) x ≡ complete_itag (completed ts x) t
unfolding completed
completed_push [] t x = refl
completed_push (u ∷ ts) t x = completed_push ts t (complete_itag x u)

none_completed : (x : Part) → completed [] x ≡ x
unfolding completed
none_completed x = refl

pub select_next : (n : ℕ) (f : ℕ → Bool) → select (suc n) f ≡ select n f ++ (if f n then n ∷ [] else [])
unfolding select
select_next n f = refl

pub select_none : (f : ℕ → Bool) → select 0 f ≡ []
unfolding select
select_none f = refl

module _ (x : Part) (e n : ℕ) (itags : ℕ → ℕ) (busy last : ℕ → Bool) (is : x.issued ≡ gather n (sent_at e itags busy))
    (low : (k : ℕ) → last k ≡ true → busy k ≡ true)
    (alone : (j k : ℕ) → busy j ≡ true → busy k ≡ true → itags j ≡ itags k → j ≡ k) where
  abbrev left : ℕ → ℕ → Bool
  left m j = busy j && not (nat_lt j m && last j)

  -- those below a number are completed
  pub completed_below : (m : ℕ) → m ≤ n → (completed (map itags (select m last)) x).issued ≡ gather n (sent_at e itags (left m))
  completed_below zero l =
      ap (λ ks. (completed (map itags ks) x).issued) (select_none last) ∙ ap (λ v. v.issued) (none_completed x) ∙ is
      ∙ gather_same n (sent_at e itags busy) (sent_at e itags (left 0)) (λ j m. ap (λ b. where_so b (issued.Sent e (itags j))) (by j (busy j)))
    where
      by : (j : ℕ) (b : Bool) → b ≡ (b && not (nat_lt j 0 && last j))
      by j b = grind (arith, nat_tests)
  completed_below (suc m) l =
      ap (λ ks. (completed (map itags ks) x).issued) (select_next m last) ∙ go (last m) refl (completed_below m (omega (arith, l)))
    where
      same : (j : ℕ) → last m ≡ false → left m j ≡ left (suc m) j
      same j h = go (ℕ_cases j m)
        where
          by : (b c : Bool) → j ≢ m → (b && not (nat_lt j m && c)) ≡ (b && not (nat_lt j (suc m) && c))
          by b c ne = grind (arith, nat_tests)

          none : (b c : Bool) → c ≡ false → (y z : Bool) → (b && not (y && c)) ≡ (b && not (z && c))
          none b c h y z = grind arith

          go : (j ≡ m) ⊎ (j ≢ m) → left m j ≡ left (suc m) j
          go (inl eq) = none (busy j) (last j) (ap last eq ∙ h) (nat_lt j m) (nat_lt j (suc m))
          go (inr ne) = by (busy j) (last j) ne

      one_less : (j : ℕ) → last m ≡ true → (left m j && not (j == m)) ≡ left (suc m) j
      one_less j h = go (ℕ_cases j m)
        where
          by : (b c : Bool) → j ≢ m → ((b && not (nat_lt j m && c)) && not (j == m)) ≡ (b && not (nat_lt j (suc m) && c))
          by b c ne = grind (arith, nat_tests)

          gone : (b c : Bool) → j ≡ m → c ≡ true → ((b && not (nat_lt j m && c)) && not (j == m)) ≡ (b && not (nat_lt j (suc m) && c))
          gone b c eq k = grind (arith, nat_tests)

          go : (j ≡ m) ⊎ (j ≢ m) → (left m j && not (j == m)) ≡ left (suc m) j
          go (inl eq) = gone (busy j) (last j) eq (ap last eq ∙ h)
          go (inr ne) = by (busy j) (last j) ne

      still : last m ≡ true → left m m ≡ true
      still h = by (busy m) (low m h)
        where
          by : (b : Bool) → b ≡ true → (b && not (nat_lt m m && last m)) ≡ true
          by b k = grind (arith, nat_tests)

      go : (b : Bool) → last m ≡ b → (completed (map itags (select m last)) x).issued ≡ gather n (sent_at e itags (left m))
          → (completed (map itags (select m last ++ (if b then m ∷ [] else []))) x).issued ≡ gather n (sent_at e itags (left (suc m)))
      go true h rest =
          ap (λ ts. (completed ts x).issued) (map_push itags (select m last) m)
          ∙ ap (λ v. v.issued) (completed_push (map itags (select m last)) (itags m) x)
          ∙ complete_one (completed (map itags (select m last)) x) e n m itags (left m) rest (omega (arith, l)) (still h)
          (λ j b eq. alone j m (first_holds (busy j) (not (nat_lt j m && last j)) b) (low m h) eq)
          ∙ gather_same n (sent_at e itags (λ j. left m j && not (j == m))) (sent_at e itags (left (suc m)))
          (λ j k. ap (λ b. where_so b (issued.Sent e (itags j))) (one_less j h))
      go false h rest =
          ap (λ ks. (completed (map itags ks) x).issued) (append-nil (select m last)) ∙ rest
          ∙ gather_same n (sent_at e itags (left m)) (sent_at e itags (left (suc m)))
          (λ j k. ap (λ b. where_so b (issued.Sent e (itags j))) (same j h))

-- ---- A completion that comes

-- what it is the last of isn't busy any more
counted_busy : (b : Bool) (s : OrderState) → is_busy (counted_if b s) ≡ (is_busy s && not (b && is_last_left s))
counted_busy false Queued = refl
counted_busy false Sent = refl
counted_busy false (Taken uses) = refl
counted_busy false Lapsed = refl
counted_busy false (Completing count left) = refl
counted_busy false Done = refl
counted_busy false Void = refl
counted_busy true Queued = refl
counted_busy true Sent = refl
counted_busy true (Taken uses) = refl
counted_busy true Lapsed = refl
counted_busy true (Completing count zero) = refl
counted_busy true (Completing count (suc zero)) = refl
counted_busy true (Completing count (suc (suc left))) = refl
counted_busy true Done = refl
counted_busy true Void = refl

last_busy : (s : OrderState) → is_last_left s ≡ true → is_busy s ≡ true
last_busy s h = grind arith

freed : (w : World) (e c : ℕ) (names : ℕ → Bool) → Invariant w
    → gather (w.part e).orders (sent_at e (w.part e).itag (λ k. is_busy (counted_if (names k) ((w.part e).order_state k))))
    ≡ (completed (last_of (w.part e) names) (shown w e)).issued
freed w e c names i =
    gather_same p.orders (sent_at e p.itag (λ k. is_busy (counted_if (names k) (p.order_state k))))
    (sent_at e p.itag (λ k. busy k && not (nat_lt k p.orders && last k)))
    (λ k l. ap (λ b. where_so b (issued.Sent e (p.itag k))) (counted_busy (names k) (p.order_state k) ∙ within (busy k) (last k) k l))
    ∙ sym (completed_below (shown w e) e p.orders p.itag busy last refl low alone p.orders (omega arith))
  where
    p : Endpoint
    p = w.part e

    busy : ℕ → Bool
    busy k = is_busy ((w.part e).order_state k)

    last : ℕ → Bool
    last k = names k && is_last_left ((w.part e).order_state k)

    within : (b d : Bool) (k : ℕ) → k < p.orders → (b && not d) ≡ (b && not (nat_lt k p.orders && d))
    within b d k l = grind (arith, nat_tests)

    low : (k : ℕ) → last k ≡ true → busy k ≡ true
    low k h = last_busy (p.order_state k) (second_holds (names k) (is_last_left (p.order_state k)) h)

    alone : (j k : ℕ) → busy j ≡ true → busy k ≡ true → p.itag j ≡ p.itag k → j ≡ k
    alone j k a b same =
        let x = (i.parts e).labels.bears_itag j a in
        let y = (i.parts e).labels.bears_itag k b in
        one_of x y (ap p.at_itag same)
      where
        one_of : p.at_itag (p.itag j) ≡ Some j → p.at_itag (p.itag k) ≡ Some k → p.at_itag (p.itag j) ≡ p.at_itag (p.itag k) → j ≡ k
        one_of x y z = cc

frees : (w : World) (s : Step) (e : ℕ) (names : ℕ → Bool) → Invariant w → (d : Delivers w s e (InvalidatedOf names))
    → IsFreedAlike w e names (shown (next w s) e)
frees w s e names i d =
    record {
      freed = λ h. ap (λ v. v.issued) (shown_after w s e (LocalAct.Count c names) (acts true h)) ∙ freed w e c names i;
      dropped = λ h. ap (λ v. v.issued) (shown_after w s e (LocalAct.Ignore c) (acts false h));
    }
  where
    c : ℕ
    c = name w d.number

    acts : (b : Bool) → is_open (w.part e).phase ≡ b → (decide w s).acts ≡ (count_outcome (w.part e) e c names b).acts
    acts b h = delivered w s e (InvalidatedOf names) d ∙ ap (λ x. (count_outcome (w.part e) e c names x).acts) h

pub completions_are_one : CompletionsAreOne
completions_are_one rule config ss s e names d = frees (world_after rule config ss) s e names (always rule config ss) d

-- ---- A reset that ends

voided : (s : OrderState) → (is_queued (void_undone s) ≡ false) × (is_busy (void_undone s) ≡ false)
voided Queued = (refl, refl)
voided Sent = (refl, refl)
voided (Taken uses) = (refl, refl)
voided Lapsed = (refl, refl)
voided (Completing count left) = (refl, refl)
voided Done = (refl, refl)
voided Void = (refl, refl)

reopens : (w : World) (s : Step) (e : ℕ) → Invariant w → (d : Delivers w s e ResetDone) → IsReopenedAlike (shown w e) (shown (next w s) e)
reopens w s e i d =
    record {
      left = record (shown w e) { is_open = true; queue = []; issued = []; is_stalled = false; received = [] };
      reopens = ap (λ x. if_so (not (is_open x)) (record (shown w e) { is_open = true; queue = []; issued = []; is_stalled = false; received = [] }))
          ((i.parts e).resets.up c d.speaks);
      is_open = ap (λ v. v.is_open) after;
      queue = ap (λ v. v.queue) after
          ∙ gather_none p.orders (λ k. where_so (is_queued (void_undone (p.order_state k))) (descriptor_of e opened (p.order k)))
          (λ k l. ap (λ b. where_so b (descriptor_of e opened (p.order k))) (voided (p.order_state k)).0);
      issued = ap (λ v. v.issued) after
          ∙ gather_none p.orders (λ k. where_so (is_busy (void_undone (p.order_state k))) (issued.Sent e (p.itag k)))
          (λ k l. ap (λ b. where_so b (issued.Sent e (p.itag k))) (voided (p.order_state k)).1);
    }
  where
    c : ℕ
    c = name w d.number

    p : Endpoint
    p = w.part e

    opened : Endpoint
    opened = act_alone (w.part e) w.messages (LocalAct.Reopen (name w d.number))

    after : shown (next w s) e ≡ part_of (act w (AtEndpoint e (LocalAct.Reopen c))) e opened
    after = shown_after w s e (LocalAct.Reopen c) (delivered w s e ResetDone d)

pub resets_are_one : ResetsAreOne
resets_are_one rule config ss s e d = reopens (world_after rule config ss) s e (always rule config ss) d
