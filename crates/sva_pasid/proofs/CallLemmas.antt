-- The laws of the calls of a table: what holds of the table and of what is in hand is kept by each call.
use Rattle.std.proofs.Common.{◌≡◌, ◌≢◌, ◌↔◌, ℕ, Bool, true, false, cond, nat_eq, inl, inr, Option, Some, None, List, [], ◌∷◌, ◌++◌, refl, sym, ◌∙◌, ap}
use Rattle.std.proofs.Common.{subst, arith, rules}
use Rattle.std.specs.Prelude.{All, IfSome, IsSomeAnd, option_and_then, option_map}
use Rattle.std.proofs.lemmas.List.Elements.{All-nil, All-head, All-tail}
use Rattle.std.proofs.lemmas.Bool.{cases_eq, eq-eqb, ne_eqb}
use Rattle.sva_pasid.specs.States.{Numbers}
use Rattle.sva_pasid.specs.Stages.{numbers_of, reset_of, IsLive}
use Rattle.sva_pasid.specs.Moves.{Life, Move, after_move, numbers_of_life, kind_of, MovesByTable}
use Rattle.sva_pasid.specs.Moves.Life.{at, over}
use Rattle.sva_pasid.specs.Moves.Move.{reset}
use Rattle.sva_pasid.specs.Moves.Kind.{live}
use Rattle.sva_pasid.specs.Places.{is_of, place_of, stage_of, with_stage, without, lowest, begun, reset_at, after_reset, IsLiveIn}
use Rattle.sva_pasid.specs.Places.{IsOwn, IsTable}
use Rattle.sva_pasid.specs.Calls.{Holder, Call, opening, hand_with, after_begin, after_take, after_moving, after_put, after_end, after, after_all}
use Rattle.sva_pasid.specs.Calls.{IsPermitted, ArePermitted, life_in, life_of, IsLifeStep, AlwaysTable, SharedBySpace, AlwaysAwaited, Spares, KeptUntilEnd}
use Rattle.sva_pasid.specs.Calls.{LivesByTable, TakenBack, ResetByMoves}
use Rattle.sva_pasid.specs.Calls.Call.{begin, take, move, put, end, take_back, by_reset}
use Rattle.sva_pasid.proofs.MoveLemmas.{move_keeps}
use Rattle.sva_pasid.proofs.PlaceLemmas.{found_or, find_none, place_of-binding, place_of-with_same, place_of-with_other, place_of-without_same}
use Rattle.sva_pasid.proofs.PlaceLemmas.{place_of-without_other, place_of-push, place_of-reset, with_stage-table, without-table, without-absent}
use Rattle.sva_pasid.proofs.PlaceLemmas.{begun-table, reset-table, reset-keeps, found-own, FitsPlace}
use Rattle.sva_pasid.proofs.ShareLemmas.{is_lowest, lowest_alike, alike_found, kept_to_space}
use Rattle.sva_pasid.specs.declared.stages.Stage.{Stage}
use Rattle.sva_pasid.specs.declared.stages.Stage.TheVariants.{Live, Stopping, Draining, Invalidating, Quiet, Lost}
use Rattle.sva_pasid.specs.declared.places.TableEntry.{TableEntry}

moves_by_table : MovesByTable
moves_by_table = search rules

-- a binding's stage is in its place or in hand, never in both
abbrev IsInOne : TableEntry → Option Stage → Option Life → Type 0
IsInOne place (Some stage) None = Unit {0}
IsInOne place (Some stage) (Some life) = ⊥
IsInOne place None None = ⊥
IsInOne place None (Some life) = numbers_of_life life ≡ record { binding = place.binding; pasid = place.pasid }

abbrev IsMatched : Option TableEntry → Option Life → Type 0
IsMatched None None = Unit {0}
IsMatched None (Some life) = ⊥
IsMatched (Some place) life = IsInOne place place.stage life

record IsHeld (h : Holder) : Type 0 where
  table : IsTable h.places
  matched : (b : ℕ) → IsMatched (place_of b h.places) (h.hand b)

-- what a call does to one binding
record IsKept (place place' : Option TableEntry) (life life' : Option Life) : Type 0 where
  matched : IsMatched place' life'
  step : IsLifeStep (life_in place life) (life_in place' life')

stays : (life : Option Life) → IsLifeStep life life
stays None = tt
stays (Some life) = (inl refl, refl)

kept_at : (place place' q q' : Option TableEntry) (life life' l l' : Option Life) → place ≡ q → place' ≡ q' → life ≡ l → life' ≡ l' → IsKept q q' l l'
    → IsKept place place' life life'
kept_at place place' q q' life life' l l' p p' k k' kept =
    subst (λ (x : Option TableEntry). IsKept x place' life life') (sym p)
    (subst (λ (x : Option TableEntry). IsKept q x life life') (sym p')
    (subst (λ (x : Option Life). IsKept q q' x life') (sym k)
    (subst (λ (x : Option Life). IsKept q q' l x) (sym k') kept)))

same_cell : (place place' : Option TableEntry) (life life' : Option Life) → IsMatched place life → place' ≡ place
    → life' ≡ life → IsKept place place' life life'
same_cell place place' life life' m p l =
    kept_at place place' place place life life' life life refl p refl l (record { matched = m; step = stays (life_in place life) })

record Goes (h h' : Holder) : Type 0 where
  table : IsTable h'.places
  cell : (c : ℕ) → IsKept (place_of c h.places) (place_of c h'.places) (h.hand c) (h'.hand c)

nothing : (h : Holder) → IsHeld h → Goes h h
nothing h i =
    record { table = i.table; cell = λ c. same_cell (place_of c h.places) (place_of c h.places) (h.hand c) (h.hand c) (i.matched c) refl refl }

-- a call changes what there is of one binding
goes_at : (h h' : Holder) (b : ℕ) → IsHeld h → IsTable h'.places → IsKept (place_of b h.places) (place_of b h'.places) (h.hand b) (h'.hand b)
    → ((c : ℕ) → b ≢ c → place_of c h'.places ≡ place_of c h.places) → ((c : ℕ) → b ≢ c → h'.hand c ≡ h.hand c) → Goes h h'
goes_at h h' b i t k places hands = record {
  table = t;
  cell = λ c. elim (cases_eq b c) [
    | inl e ↦ subst (λ (x : ℕ). IsKept (place_of x h.places) (place_of x h'.places) (h.hand x) (h'.hand x)) e k
    | inr n ↦ same_cell (place_of c h.places) (place_of c h'.places) (h.hand c) (h'.hand c) (i.matched c) (places c n) (hands c n)
  ];
}

hand_same : (b : ℕ) (life : Option Life) (hand : ℕ → Option Life) → hand_with b life hand b ≡ life
hand_same b life hand = let e : nat_eq b b ≡ true = eq-eqb b b refl in rw e

hand_other : (b c : ℕ) (life : Option Life) (hand : ℕ → Option Life) → b ≢ c → hand_with b life hand c ≡ hand c
hand_other b c life hand n = let e : nat_eq c b ≡ false = ne_eqb c b (λ k. n (sym k)) in rw e

-- `take`
out_of_hand : (p : TableEntry) (stage : Stage) (life : Option Life) → IsInOne p (Some stage) life → life ≡ None
out_of_hand p stage None m = refl
out_of_hand p stage (Some life) m = absurd m

kept_take : (p : TableEntry) (stage : Stage) → p.stage ≡ Some stage → numbers_of stage ≡ record { binding = p.binding; pasid = p.pasid }
    → IsKept (Some p) (Some (record p { stage = None })) None (Some (at stage))
kept_take p stage e own = record {
  matched = own;
  step = subst (λ (s : Option Stage). IsLifeStep (option_map (λ (k : Stage). at k) s) (Some (at stage))) (sym e) (inl refl, refl);
}

take_stage : (h : Holder) (b : ℕ) (p : TableEntry) (s : Option Stage) → IsHeld h → place_of b h.places ≡ Some p → p.stage ≡ s → Goes h (after_take b s h)
take_stage h b p None i f e = nothing h i
take_stage h b p (Some stage) i f e =
    let here : IsInOne p p.stage (h.hand b) = subst (λ (x : Option TableEntry). IsMatched x (h.hand b)) f (i.matched b) in
    let free : h.hand b ≡ None = out_of_hand p stage (h.hand b) (subst (λ (x : Option Stage). IsInOne p x (h.hand b)) e here) in
    let own : numbers_of stage ≡ record { binding = p.binding; pasid = p.pasid } =
    subst (λ (x : Option Stage). IfSome x (λ (k : Stage). numbers_of k ≡ record { binding = p.binding; pasid = p.pasid })) e
    (found-own b h.places p i.table.own f).stage in
    goes_at h (after_take b (Some stage) h) b i (with_stage-table b None h.places i.table (λ q g. tt))
    (kept_at (place_of b h.places) (place_of b (with_stage b None h.places)) (Some p) (Some (record p { stage = None })) (h.hand b)
    (hand_with b (Some (at stage)) h.hand b) None (Some (at stage)) f (place_of-with_same b None h.places p f) free
    (hand_same b (Some (at stage)) h.hand) (kept_take p stage e own))
    (λ c n. place_of-with_other b c None h.places (place_of c h.places) n refl) (λ c n. hand_other b c (Some (at stage)) h.hand n)

take_place : (h : Holder) (b : ℕ) (place : Option TableEntry) → IsHeld h → place_of b h.places ≡ place
    → Goes h (after_take b (option_and_then (λ (p : TableEntry). p.stage) place) h)
take_place h b None i f = nothing h i
take_place h b (Some p) i f = take_stage h b p p.stage i f refl

-- the place of what is in hand is there and empty
record IsEmptyAt (place : Option TableEntry) (life : Life) : Type 0 where
  at : TableEntry
  found : place ≡ Some at
  empty : at.stage ≡ None
  own : numbers_of_life life ≡ record { binding = at.binding; pasid = at.pasid }

empty_place : (place : Option TableEntry) (life : Life) → IsMatched place (Some life) → IsEmptyAt place life
empty_place None life m = absurd m
empty_place (Some p) life m = by_stage p p.stage life refl m
  where
    by_stage : (p : TableEntry) (s : Option Stage) (life : Life) → p.stage ≡ s → IsInOne p s (Some life) → IsEmptyAt (Some p) life
    by_stage p None life e m = record { at = p; found = refl; empty = e; own = m }
    by_stage p (Some stage) life e m = absurd m

held_place : (h : Holder) (b : ℕ) (life : Life) → IsHeld h → h.hand b ≡ Some life → IsEmptyAt (place_of b h.places) life
held_place h b life i e =
    empty_place (place_of b h.places) life (subst (λ (x : Option Life). IsMatched (place_of b h.places) x) e (i.matched b))

-- `move`
kept_move : (p : TableEntry) (life : Life) (m : Move) → p.stage ≡ None → numbers_of_life life ≡ record { binding = p.binding; pasid = p.pasid }
    → IsKept (Some p) (Some p) (Some life) (Some (after_move life m))
kept_move p life m e own = record {
  matched = subst (λ (s : Option Stage). IsInOne p s (Some (after_move life m))) (sym e) (move_keeps life m ∙ own);
  step = (moves_by_table life m, move_keeps life m);
}

move_life : (h : Holder) (b : ℕ) (m : Move) (life : Option Life) → IsHeld h → h.hand b ≡ life → Goes h (after_moving b m life h)
move_life h b m None i e = nothing h i
move_life h b m (Some life) i e =
    let x : IsEmptyAt (place_of b h.places) life = held_place h b life i e in
    goes_at h (after_moving b m (Some life) h) b i i.table
    (kept_at (place_of b h.places) (place_of b h.places) (Some x.at) (Some x.at) (h.hand b) (hand_with b (Some (after_move life m)) h.hand b)
    (Some life) (Some (after_move life m)) x.found x.found e (hand_same b (Some (after_move life m)) h.hand) (kept_move x.at life m x.empty x.own))
    (λ c n. refl) (λ c n. hand_other b c (Some (after_move life m)) h.hand n)

-- `put`
kept_put : (p : TableEntry) (stage : Stage) → IsKept (Some p) (Some (record p { stage = Some stage })) (Some (at stage)) None
kept_put p stage = record { matched = tt; step = (inl refl, refl) }

put_life : (h : Holder) (b : ℕ) (life : Option Life) → IsHeld h → h.hand b ≡ life → Goes h (after_put b life h)
put_life h b None i e = nothing h i
put_life h b (Some (over n)) i e = nothing h i
put_life h b (Some (at stage)) i e =
    let x : IsEmptyAt (place_of b h.places) (at stage) = held_place h b (at stage) i e in
    let fits : FitsPlace b (Some stage) h.places = λ p g. let same : Some x.at ≡ Some p = sym x.found ∙ g in let q : x.at ≡ p =
    cc in subst (λ (r : TableEntry). numbers_of stage ≡ record { binding = r.binding; pasid = r.pasid }) q x.own in
    goes_at h (after_put b (Some (at stage)) h) b i (with_stage-table b (Some stage) h.places i.table fits)
    (kept_at (place_of b h.places) (place_of b (with_stage b (Some stage) h.places)) (Some x.at) (Some (record x.at { stage = Some stage }))
    (h.hand b) (hand_with b None h.hand b) (Some (at stage)) None x.found (place_of-with_same b (Some stage) h.places x.at x.found) e
    (hand_same b None h.hand) (kept_put x.at stage))
    (λ c n. place_of-with_other b c (Some stage) h.places (place_of c h.places) n refl) (λ c n. hand_other b c None h.hand n)

-- `end`
kept_end : (p : TableEntry) (n : Numbers) → IsKept (Some p) None (Some (over n)) None
kept_end p n = record { matched = tt; step = refl }

held_binding : (h : Holder) (b : ℕ) (life : Life) → IsHeld h → h.hand b ≡ Some life → (numbers_of_life life).binding ≡ b
held_binding h b life i e =
    let x : IsEmptyAt (place_of b h.places) life = held_place h b life i e in
    ap (λ (n : Numbers). n.binding) x.own ∙ place_of-binding b h.places x.at x.found

end_life : (h : Holder) (b : ℕ) (life : Option Life) → IsHeld h → h.hand b ≡ life → Goes h (after_end b life h)
end_life h b None i e = nothing h i
end_life h b (Some (at stage)) i e = nothing h i
end_life h b (Some (over n)) i e =
    let x : IsEmptyAt (place_of b h.places) (over n) = held_place h b (over n) i e in
    let same : n.binding ≡ b = held_binding h b (over n) i e in
    let gone : place_of b (without n.binding h.places) ≡ None =
    subst (λ (k : ℕ). place_of b (without k h.places) ≡ None) (sym same) (place_of-without_same b h.places) in
    goes_at h (after_end b (Some (over n)) h) b i (without-table n.binding h.places i.table)
    (kept_at (place_of b h.places) (place_of b (without n.binding h.places)) (Some x.at) None (h.hand b) (hand_with b None h.hand b) (Some (over n))
    None x.found gone e (hand_same b None h.hand) (kept_end x.at n))
    (λ c d. place_of-without_other n.binding c h.places (λ k. d (sym same ∙ k))) (λ c d. hand_other b c None h.hand d)

-- `begin`
kept_begin : (e s b q : ℕ) → IsKept None (Some (begun e s b q)) None None
kept_begin e s b q = record { matched = tt; step = refl }

no_hand : (life : Option Life) → IsMatched None life → life ≡ None
no_hand None m = refl
no_hand (Some life) m = absurd m

none_else : (r : Option TableEntry) → found_or r None ≡ r
none_else None = refl
none_else (Some p) = refl

begin_pasid : (h : Holder) (e s b : ℕ) (pasid : Option ℕ) → IsHeld h → place_of b h.places ≡ None → lowest s h.places ≡ pasid
    → Goes h (after_begin e s b pasid h)
begin_pasid h e s b None i f l = nothing h i
begin_pasid h e s b (Some q) i f l =
    let p : TableEntry = begun e s b q in
    let is_here : is_of b p ≡ true = eq-eqb b b refl in
    let found : place_of b (h.places ++ p ∷ []) ≡ Some p = place_of-push b h.places p ∙ (rw (f, is_here)) in
    let hand : h.hand b ≡ None = no_hand (h.hand b) (subst (λ (x : Option TableEntry). IsMatched x (h.hand b)) f (i.matched b)) in
    goes_at h (after_begin e s b (Some q) h) b i
    (begun-table e s b q h.places i.table f (is_lowest s h.places q i.table l).from_one (is_lowest s h.places q i.table l).to_last
    (lowest_alike e s b q h.places i.table l))
    (kept_at (place_of b h.places) (place_of b (h.places ++ p ∷ [])) None (Some p) (h.hand b) (h.hand b) None None f found hand hand (kept_begin e s b q))
    (λ c n. let other : is_of c p ≡ false = ne_eqb b c n in place_of-push c h.places p ∙ (rw other (none_else (place_of c h.places)))) (λ c n. refl)

-- `by_reset`
pub reset_by_moves : ResetByMoves
reset_by_moves (Live n) = refl
reset_by_moves (Stopping s) = refl
reset_by_moves (Draining w) = refl
reset_by_moves (Invalidating w) = refl
reset_by_moves (Quiet n) = refl
reset_by_moves (Lost n) = refl

reset_step : (stage : Stage) → IsLifeStep (Some (at stage)) (Some (at (reset_of stage)))
reset_step stage =
    subst (λ (life : Life). IsLifeStep (Some (at stage)) (Some life)) (sym (reset_by_moves stage)) (
      moves_by_table (at stage) reset,
      move_keeps (at stage) reset,
    )

reset_stage : (p : TableEntry) (s : Option Stage) (life : Option Life) → p.stage ≡ s → IsInOne p s life
    → IsKept (Some p) (Some (record p { stage = option_map reset_of s })) life life
reset_stage p None None e m = absurd m
reset_stage p None (Some life) e m = record { matched = m; step = stays (Some life) }
reset_stage p (Some stage) None e m = record {
  matched = tt;
  step = subst (λ (s : Option Stage). IsLifeStep (option_map (λ (k : Stage). at k) s) (Some (at (reset_of stage)))) (sym e) (reset_step stage);
}
reset_stage p (Some stage) (Some life) e m = absurd m

reset_place : (e : ℕ) (place : Option TableEntry) (life : Option Life) → IsMatched place life → IsKept place (option_map (reset_at e) place) life life
reset_place e None life m = record { matched = m; step = stays (life_in None life) }
reset_place e (Some p) life m = by_test (nat_eq p.endpoint e)
  where
    by_test : (t : Bool) → IsKept (Some p) (Some (cond t (record p { stage = option_map reset_of p.stage }) p)) life life
    by_test true = reset_stage p p.stage life refl m
    by_test false = record { matched = m; step = stays (life_in (Some p) life) }

reset_goes : (h : Holder) (e : ℕ) → IsHeld h → Goes h (after h (by_reset e))
reset_goes h e i = record {
  table = reset-table e h.places i.table;
  cell = λ c. subst (λ (x : Option TableEntry). IsKept (place_of c h.places) x (h.hand c) (h.hand c)) (sym (place_of-reset e c h.places))
      (reset_place e (place_of c h.places) (h.hand c) (i.matched c));
}

-- `take_back`: the place has a live stage, so nothing of the binding is in hand
record IsLiveAt (place : Option TableEntry) : Type 0 where
  at : TableEntry
  found : place ≡ Some at
  numbers : Numbers
  stage : at.stage ≡ Some (Live numbers)

live_at : (place : Option TableEntry) → IsSomeAnd (option_and_then (λ (p : TableEntry). p.stage) place) IsLive → IsLiveAt place
live_at None w = absurd w
live_at (Some p) w = by_stage p.stage refl w
  where
    by_live : (stage : Stage) → p.stage ≡ Some stage → IsLive stage → IsLiveAt (Some p)
    by_live (Live n) e w = record { at = p; found = refl; numbers = n; stage = e }
    by_live (Stopping _) e w = absurd w
    by_live (Draining _) e w = absurd w
    by_live (Invalidating _) e w = absurd w
    by_live (Quiet _) e w = absurd w
    by_live (Lost _) e w = absurd w

    by_stage : (s : Option Stage) → p.stage ≡ s → IsSomeAnd s IsLive → IsLiveAt (Some p)
    by_stage None e w = absurd w
    by_stage (Some stage) e w = by_live stage e w

none_in_hand : (h : Holder) (b : ℕ) → IsHeld h → IsLiveIn b h.places → h.hand b ≡ None
none_in_hand h b i w =
    let x : IsLiveAt (place_of b h.places) = live_at (place_of b h.places) w in
    let here : IsInOne x.at x.at.stage (h.hand b) = subst (λ (p : Option TableEntry). IsMatched p (h.hand b)) x.found (i.matched b) in
    out_of_hand x.at (Live x.numbers) (h.hand b) (subst (λ (s : Option Stage). IsInOne x.at s (h.hand b)) x.stage here)

back_other : (h : Holder) (b c : ℕ) → IsHeld h → b ≢ c → IsKept (place_of c h.places) (place_of c (without b h.places)) (h.hand c) (h.hand c)
back_other h b c i n =
    same_cell (place_of c h.places) (place_of c (without b h.places)) (h.hand c) (h.hand c) (i.matched c) (place_of-without_other b c h.places n) refl

held_back : (h : Holder) (b : ℕ) → IsHeld h → IsLiveIn b h.places → IsHeld (after h (take_back b))
held_back h b i w = record {
  table = without-table b h.places i.table;
  matched = λ c. elim (cases_eq b c) [
    | inl e ↦ subst (λ (x : ℕ). IsMatched (place_of x (without b h.places)) (h.hand x)) e (rw (place_of-without_same b h.places, none_in_hand h b i w) tt)
    | inr n ↦ (back_other h b c i n).matched
  ];
}

-- every permitted call: what it does to a binding that it doesn't take back, and what holds after it
steps : (h : Holder) (call : Call) (c : ℕ) → IsHeld h → IsPermitted h call → call ≢ take_back c → IsLifeStep (life_of c h) (life_of c (after h call))
steps h (begin e s b) c i w n = ((begin_pasid h e s b (lowest s h.places) i w.1 refl).cell c).step
steps h (take b) c i w n = ((take_place h b (place_of b h.places) i refl).cell c).step
steps h (move b m) c i w n = ((move_life h b m (h.hand b) i refl).cell c).step
steps h (put b) c i w n = ((put_life h b (h.hand b) i refl).cell c).step
steps h (end b) c i w n = ((end_life h b (h.hand b) i refl).cell c).step
steps h (take_back b) c i w n = (back_other h b c i (λ e. n (ap (λ (x : ℕ). take_back x) e))).step
steps h (by_reset e) c i w n = ((reset_goes h e i).cell c).step

held_goes : (h h' : Holder) → Goes h h' → IsHeld h'
held_goes h h' g = record { table = g.table; matched = λ b. (g.cell b).matched }

held_after : (h : Holder) (call : Call) → IsHeld h → IsPermitted h call → IsHeld (after h call)
held_after h (begin e s b) i w = held_goes h (after h (begin e s b)) (begin_pasid h e s b (lowest s h.places) i w.1 refl)
held_after h (take b) i w = held_goes h (after h (take b)) (take_place h b (place_of b h.places) i refl)
held_after h (move b m) i w = held_goes h (after h (move b m)) (move_life h b m (h.hand b) i refl)
held_after h (put b) i w = held_goes h (after h (put b)) (put_life h b (h.hand b) i refl)
held_after h (end b) i w = held_goes h (after h (end b)) (end_life h b (h.hand b) i refl)
held_after h (take_back b) i w = held_back h b i w
held_after h (by_reset e) i w = held_goes h (after h (by_reset e)) (reset_goes h e i)

held_after_all : (h : Holder) (cs : List Call) → IsHeld h → ArePermitted h cs → IsHeld (after_all h cs)
held_after_all h [] i w = i
held_after_all h (c ∷ cs) i w = held_after_all (after h c) cs (held_after h c i w.0) w.1

held_opening : IsHeld opening
held_opening = record { table = record { apart = λ i j d l m. absurd (omega arith); own = All-nil IsOwn }; matched = λ b. tt }

-- the laws
pub always_table : AlwaysTable
always_table calls w = (held_after_all opening calls held_opening w).table

pub always_awaited : AlwaysAwaited
always_awaited calls b life w e =
    let i : IsHeld (after_all opening calls) = held_after_all opening calls held_opening w in
    let x : IsEmptyAt (place_of b (after_all opening calls).places) life = held_place (after_all opening calls) b life i e in
    let same : (numbers_of_life life).binding ≡ b = held_binding (after_all opening calls) b life i e in
    let here : place_of (numbers_of_life life).binding (after_all opening calls).places ≡ Some x.at =
    ap (λ (k : ℕ). place_of k (after_all opening calls).places) same ∙ x.found in
    (same, rw here (sym (ap (λ (n : Numbers). n.pasid) x.own), x.empty))

permitted_first : (h : Holder) (cs ds : List Call) → ArePermitted h (cs ++ ds) → ArePermitted h cs × ArePermitted (after_all h cs) ds
permitted_first h [] ds w = (tt, w)
permitted_first h (c ∷ cs) ds w = let r = permitted_first (after h c) cs ds w.1 in ((w.0, r.0), r.1)

after_all-append : (h : Holder) (cs ds : List Call) → after_all h (cs ++ ds) ≡ after_all (after_all h cs) ds
after_all-append h [] ds = refl
after_all-append h (c ∷ cs) ds = after_all-append (after h c) cs ds

pub lives_by_table : LivesByTable
lives_by_table calls c b n w =
    let parts = permitted_first opening calls (c ∷ []) w in
    let i : IsHeld (after_all opening calls) = held_after_all opening calls held_opening parts.0 in
    subst (λ (x : Holder). IsLifeStep (life_of b (after_all opening calls)) (life_of b x)) (sym (after_all-append opening calls (c ∷ [])))
    (steps (after_all opening calls) c b i parts.1.0 n)

pub shared_by_space : SharedBySpace
shared_by_space calls b c p q w f g =
    alike_found (is_of b) (is_of c) (after_all opening calls).places p q (held_after_all opening calls held_opening w).table.apart f g

-- a binding that is taken back
life_before : (h : Holder) (b : ℕ) → IsHeld h → IsLiveIn b h.places → IsSomeAnd (life_of b h) (λ life. kind_of life ≡ live)
life_before h b i w =
    let x : IsLiveAt (place_of b h.places) = live_at (place_of b h.places) w in
    subst (λ (life : Option Life). IsSomeAnd (life_in (place_of b h.places) life) (λ k. kind_of k ≡ live)) (sym (none_in_hand h b i w))
    (subst (λ (p : Option TableEntry). IsSomeAnd (life_in p None) (λ k. kind_of k ≡ live)) (sym x.found)
    (subst (λ (s : Option Stage). IsSomeAnd (option_map (λ (k : Stage). at k) s) (λ k. kind_of k ≡ live)) (sym x.stage) refl))

life_behind : (h : Holder) (b : ℕ) → IsHeld h → IsLiveIn b h.places → life_of b (after h (take_back b)) ≡ None
life_behind h b i w = rw (place_of-without_same b h.places, none_in_hand h b i w) refl

without-push : (e s b q : ℕ) (ps : List TableEntry) → place_of b ps ≡ None → without b (ps ++ begun e s b q ∷ []) ≡ ps
without-push e s b q [] f = let here : is_of b (begun e s b q) ≡ true = eq-eqb b b refl in rw here refl
without-push e s b q (p ∷ ps) f =
    let a : (is_of b p ≡ false) × (place_of b ps ≡ None) = find_none (is_of b p) p (place_of b ps) f in
    let other : is_of b p ≡ false = a.0 in
    rw other (ap (λ (qs : List TableEntry). p ∷ qs) (without-push e s b q ps a.1))

begun_and_back : (h : Holder) (e s b : ℕ) (r : Option ℕ) → place_of b h.places ≡ None → without b (after_begin e s b r h).places ≡ h.places
begun_and_back h e s b None f = without-absent b h.places f
begun_and_back h e s b (Some q) f = without-push e s b q h.places f

pub taken_back : TakenBack
taken_back calls w =
    let h : Holder = after_all opening calls in
    let i : IsHeld h = held_after_all opening calls held_opening w in (
      λ b live. (life_before h b i live, ap (λ (x : Holder). life_of b x) (after_all-append opening calls (take_back b ∷ [])) ∙ life_behind h b i live),
      λ e s b free. ap (λ (x : Holder). x.places) (after_all-append opening calls (begin e s b ∷ take_back b ∷ []))
          ∙ begun_and_back h e s b (lowest s h.places) free.1,
    )

-- A PASID is kept until the end of its binding.

-- the binding has a place, of the space and under the PASID
abbrev Bears : ℕ → ℕ → Option TableEntry → Type 0
Bears s q place = IsSomeAnd place (λ p. (p.space ≡ s) × (p.pasid ≡ q))

bears_with : (b c s q : ℕ) (stage : Option Stage) (ps : List TableEntry) → Bears s q (place_of c ps) → Bears s q (place_of c (with_stage b stage ps))
bears_with b c s q stage ps h = by_place (place_of c ps) refl h
  where
    by_place : (r : Option TableEntry) → place_of c ps ≡ r → Bears s q r → Bears s q (place_of c (with_stage b stage ps))
    by_place None f h = absurd h
    by_place (Some p) f h =
        elim (cases_eq b c) [
          | inl same ↦
              let here : place_of b ps ≡ Some p = ap (λ (k : ℕ). place_of k ps) same ∙ f in
              let after : place_of c (with_stage b stage ps) ≡ Some (record p { stage = stage }) =
              ap (λ (k : ℕ). place_of k (with_stage b stage ps)) (sym same) ∙ place_of-with_same b stage ps p here in
              rw after h
          | inr n ↦ rw (place_of-with_other b c stage ps (Some p) n f) h
        ]

bears_push : (c s q : ℕ) (ps : List TableEntry) (p : TableEntry) → Bears s q (place_of c ps) → Bears s q (place_of c (ps ++ p ∷ []))
bears_push c s q ps p h = rw (place_of-push c ps p) (by_found (place_of c ps) (cond (is_of c p) (Some p) None) h)
  where
    by_found : (r o : Option TableEntry) → Bears s q r → Bears s q (found_or r o)
    by_found None o h = absurd h
    by_found (Some p) o h = h

bears_reset : (e c s q : ℕ) (ps : List TableEntry) → Bears s q (place_of c ps) → Bears s q (place_of c (after_reset e ps))
bears_reset e c s q ps h = rw (place_of-reset e c ps) (by_found (place_of c ps) h)
  where
    by_found : (r : Option TableEntry) → Bears s q r → Bears s q (option_map (reset_at e) r)
    by_found None h = absurd h
    by_found (Some p) h = ((reset-keeps e p).1 ∙ h.0, (reset-keeps e p).0 ∙ h.1)

bears_begin : (h : Holder) (c s q e' s' b' : ℕ) (pasid : Option ℕ) → Bears s q (place_of c h.places)
    → Bears s q (place_of c (after_begin e' s' b' pasid h).places)
bears_begin h c s q e' s' b' None k = k
bears_begin h c s q e' s' b' (Some q') k = bears_push c s q h.places (begun e' s' b' q') k

bears_take : (h : Holder) (c s q b : ℕ) (stage : Option Stage) → Bears s q (place_of c h.places) → Bears s q (place_of c (after_take b stage h).places)
bears_take h c s q b None k = k
bears_take h c s q b (Some stage) k = bears_with b c s q None h.places k

bears_move : (h : Holder) (c s q b : ℕ) (m : Move) (life : Option Life) → Bears s q (place_of c h.places)
    → Bears s q (place_of c (after_moving b m life h).places)
bears_move h c s q b m None k = k
bears_move h c s q b m (Some life) k = k

bears_put : (h : Holder) (c s q b : ℕ) (life : Option Life) → Bears s q (place_of c h.places) → Bears s q (place_of c (after_put b life h).places)
bears_put h c s q b None k = k
bears_put h c s q b (Some (over n)) k = k
bears_put h c s q b (Some (at stage)) k = bears_with b c s q (Some stage) h.places k

bears_end : (h : Holder) (c s q b : ℕ) (life : Option Life) → IsHeld h → h.hand b ≡ life → b ≢ c → Bears s q (place_of c h.places)
    → Bears s q (place_of c (after_end b life h).places)
bears_end h c s q b None i f n k = k
bears_end h c s q b (Some (at stage)) i f n k = k
bears_end h c s q b (Some (over m)) i f n k =
    let same : m.binding ≡ b = held_binding h b (over m) i f in
    rw (place_of-without_other m.binding c h.places (λ j. n (sym same ∙ j))) k

bears_after : (h : Holder) (c s q : ℕ) (call : Call) → IsHeld h → Spares c call → Bears s q (place_of c h.places)
    → Bears s q (place_of c (after h call).places)
bears_after h c s q (begin e' s' b') i n k = bears_begin h c s q e' s' b' (lowest s' h.places) k
bears_after h c s q (take b) i n k = bears_take h c s q b (stage_of b h.places) k
bears_after h c s q (move b m) i n k = bears_move h c s q b m (h.hand b) k
bears_after h c s q (put b) i n k = bears_put h c s q b (h.hand b) k
bears_after h c s q (end b) i n k = bears_end h c s q b (h.hand b) i refl (λ same. n.0 (ap (λ (x : ℕ). end x) same)) k
bears_after h c s q (take_back b) i n k = rw (place_of-without_other b c h.places (λ same. n.1 (ap (λ (x : ℕ). take_back x) same))) k
bears_after h c s q (by_reset e) i n k = bears_reset e c s q h.places k

bears_after_all : (h : Holder) (c s q : ℕ) (calls : List Call) → IsHeld h → ArePermitted h calls → All (λ (call : Call). Spares c call) calls
    → Bears s q (place_of c h.places) → Bears s q (place_of c (after_all h calls).places)
bears_after_all h c s q [] i w a k = k
bears_after_all h c s q (call ∷ calls) i w a k =
    bears_after_all (after h call) c s q calls (held_after h call i w.0) w.1 (All-tail (λ (x : Call). Spares c x) call calls a)
    (bears_after h c s q call i (All-head (λ (x : Call). Spares c x) call calls a) k)

begun_bears : (h : Holder) (e s b q : ℕ) (pasid : Option ℕ) → place_of b h.places ≡ None → pasid ≡ Some q
    → Bears s q (place_of b (after_begin e s b pasid h).places)
begun_bears h e s b q None f l = absurd (cc)
begun_bears h e s b q (Some q') f l =
    let same : q' ≡ q = cc in
    let p : TableEntry = begun e s b q' in
    let is_here : is_of b p ≡ true = eq-eqb b b refl in
    let found : place_of b (h.places ++ p ∷ []) ≡ Some p = place_of-push b h.places p ∙ (rw (f, is_here)) in
    rw found (refl, same)

kept_at_place : (ps : List TableEntry) (b s q other : ℕ) (r : Option TableEntry) → IsTable ps → place_of b ps ≡ r → Bears s q r
    → (lowest other ps ≡ Some q) ↔ (other ≡ s)
kept_at_place ps b s q other None t f k = absurd k
kept_at_place ps b s q other (Some p) t f k =
    subst (λ (x : ℕ). (lowest other ps ≡ Some q) ↔ (other ≡ x)) k.0
    (subst (λ (x : ℕ). (lowest other ps ≡ Some x) ↔ (other ≡ p.space)) k.1 (kept_to_space (is_of b) ps p other t f))

pub kept_until_end : KeptUntilEnd
kept_until_end calls between e s b q w l a other =
    let parts = permitted_first opening calls (begin e s b ∷ between) w in
    let h : Holder = after_all opening calls in
    let i : IsHeld h = held_after_all opening calls held_opening parts.0 in
    let j : IsHeld (after h (begin e s b)) = held_after h (begin e s b) i parts.1.0 in
    let k : Bears s q (place_of b (after h (begin e s b)).places) = begun_bears h e s b q (lowest s h.places) parts.1.0.1 l in
    let last : Holder = after_all (after h (begin e s b)) between in
    let borne : Bears s q (place_of b last.places) = bears_after_all (after h (begin e s b)) b s q between j parts.1.1 a k in
    let held : IsHeld last = held_after_all (after h (begin e s b)) between j parts.1.1 in
    subst (λ (x : Holder). (lowest other x.places ≡ Some q) ↔ (other ≡ s)) (sym (after_all-append opening calls (begin e s b ∷ between)))
    (kept_at_place last.places b s q other (place_of b last.places) held.table refl borne)
