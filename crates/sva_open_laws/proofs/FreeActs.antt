-- Frames that are given away one after another; and what a wait that is done frees.
use Rattle.std.proofs.Common.{◌≡◌, ◌≢◌, ◌⊎◌, inl, inr, refl, ap, sym, ◌∙◌, ℕ, zero, suc, ◌<◌, ◌≤◌, Bool, true, false, arith}
use Rattle.std.specs.Prelude.{◌&&◌, not, nat_lt, if◌then◌else◌, List, [], ◌∷◌, ◌++◌, map, Option, Some, None, option_and_then, slice_set}
use Rattle.std.proofs.lemmas.Bool.Decides.{nat_tests}
use Rattle.std.proofs.lemmas.List.{append-nil, map_push}
use Rattle.sva_model.specs.Words.{all_below, select, tabulate}
use Rattle.sva_model.specs.State.{MappingState, Owed, World}
use Rattle.sva_model.specs.State.MappingState.{Unmade, Present, Gone}
use Rattle.sva_model.specs.States.{answered, is_free, is_free_place, place_at, place_by, place_of_gone}
use Rattle.sva_model.specs.Acts.{LocalAct, act, act_alone}
use Rattle.sva_model.specs.Acts.Act.{AtEndpoint}
use Rattle.sva_labels.proofs.Lists.{tabulate_same, tabulate_set}
use Rattle.sva_labels.proofs.Words.{ℕ_cases, all_below-intro, all_below-true}
use Rattle.sva_laws.proofs.Answered.{answered_own}
use Rattle.sva_laws.proofs.Invariant.{Invariant}
use Rattle.sva_laws.proofs.Keeps.{put_keeps}
use Rattle.sva_laws.proofs.Legal.{LegalLocalAct}
use Rattle.sva_open.specs.declared.acts.Act.{Act as Doing}
use Rattle.sva_open.specs.declared.acts.Act.TheVariants as doing
use Rattle.sva_open.specs.declared.acts.LocalAct.{LocalAct as DoingThere}
use Rattle.sva_open.specs.declared.frames.Tenure.{Tenure}
use Rattle.sva_open.specs.World.{Open, Part}
use Rattle.sva_open.specs.Acts.{free_frame, next_open, next_part}
use Rattle.sva_open_laws.specs.AsActs.{acted, freed_by}
use Rattle.sva_open_laws.specs.AsOpen.{given_at, given_before, given_by, open_of, part_of, tenure_of}
use Rattle.sva_open_laws.proofs.ActParts.{but_frames}
use Rattle.sva_open_laws.proofs.FreedItags.{select_next, select_none}
use Rattle.sva_open_laws.proofs.Gathered.{tabulate_get}

-- ---- Acts, one more

pub acted_push : (acts : List Doing) (its : Doing) (now : Open)
    → acted (acts ++ its ∷ []) now ≡ option_and_then (λ v. next_open v its) (acted acts now)
unfolding acted
acted_push [] its now = all_of (next_open now its)
  where
    all_of : (o : Option Open) → option_and_then (λ v. Some v) o ≡ o
    all_of None = refl
    all_of (Some v) = refl
acted_push (first ∷ acts) its now = go (next_open now first) (acted_push acts its)
  where
    go : (o : Option Open) → ((v : Open) → acted (acts ++ its ∷ []) v ≡ option_and_then (λ u. next_open u its) (acted acts v))
        → option_and_then (acted (acts ++ its ∷ [])) o ≡ option_and_then (λ u. next_open u its) (option_and_then (acted acts) o)
    go None each = refl
    go (Some v) each = each v

none_acted : (now : Open) → acted [] now ≡ Some now
unfolding acted
none_acted now = refl

pub first_acted : (its : Doing) (acts : List Doing) (now after : Open) → next_open now its ≡ Some after → acted (its ∷ acts) now ≡ acted acts after
unfolding acted
first_acted its acts now after is = ap (option_and_then (acted acts)) is

-- ---- Frames

abbrev pub given_if : Bool → Tenure → Tenure
given_if true tenure = record tenure { given = suc tenure.given }
given_if false tenure = tenure

abbrev given_below : (n : ℕ) → (ℕ → Tenure) → (ℕ → Bool) → (m : ℕ) → List Tenure
given_below n before q m = tabulate n (λ f. given_if (nat_lt f m && q f) (before f))

given_none : (n : ℕ) (before : ℕ → Tenure) (q : ℕ → Bool) → tabulate n before ≡ given_below n before q 0
given_none n before q =
    tabulate_same n before (λ f. given_if (nat_lt f 0 && q f) (before f)) (λ f l. ap (λ b. given_if b (before f)) (none f (q f)))
  where
    none : (f : ℕ) (b : Bool) → false ≡ (nat_lt f 0 && b)
    none f b = grind (arith, nat_tests)

-- one more
given_next : (n m : ℕ) (before : ℕ → Tenure) (q : ℕ → Bool) → q m ≡ true
    → given_below n before q (suc m) ≡ slice_set (given_below n before q m) m (given_if true (before m))
given_next n m before q h =
    tabulate_set n (λ f. given_if (nat_lt f m && q f) (before f)) (λ f. given_if (nat_lt f (suc m) && q f) (before f)) m (given_if true (before m))
    (ap (λ b. given_if b (before m)) (here (q m) h)) (λ f ne. ap (λ b. given_if b (before f)) (there f (q f) ne))
  where
    here : (b : Bool) → b ≡ true → (nat_lt m (suc m) && b) ≡ true
    here b k = grind (arith, nat_tests)

    there : (f : ℕ) (b : Bool) → f ≢ m → (nat_lt f (suc m) && b) ≡ (nat_lt f m && b)
    there f b ne = grind (arith, nat_tests)

given_still : (n m : ℕ) (before : ℕ → Tenure) (q : ℕ → Bool) → q m ≡ false → given_below n before q m ≡ given_below n before q (suc m)
given_still n m before q h =
    tabulate_same n (λ f. given_if (nat_lt f m && q f) (before f)) (λ f. given_if (nat_lt f (suc m) && q f) (before f))
    (λ f l. ap (λ b. given_if b (before f)) (go f (ℕ_cases f m)))
  where
    there : (f : ℕ) (b : Bool) → f ≢ m → (nat_lt f m && b) ≡ (nat_lt f (suc m) && b)
    there f b ne = grind (arith, nat_tests)

    here : (f : ℕ) (b : Bool) → b ≡ false → (nat_lt f m && b) ≡ (nat_lt f (suc m) && b)
    here f b k = grind (arith, nat_tests)

    go : (f : ℕ) → (f ≡ m) ⊎ (f ≢ m) → (nat_lt f m && q f) ≡ (nat_lt f (suc m) && q f)
    go f (inl same) = here f (q f) (ap q same ∙ h)
    go f (inr ne) = there f (q f) ne

frees_below : (now : Open) (n : ℕ) (before : ℕ → Tenure) (q : ℕ → Bool) → now.frames ≡ tabulate n before → (m : ℕ) → m ≤ n
    → acted (map doing.FreeFrame (select m q)) now ≡ Some (record now { frames = given_below n before q m })
frees_below now n before q is zero l =
    ap (λ fs. acted (map doing.FreeFrame fs) now) (select_none q) ∙ none_acted now
    ∙ ap (λ fs. Some (record now { frames = fs })) (is ∙ given_none n before q)
frees_below now n before q is (suc m) l =
    ap (λ fs. acted (map doing.FreeFrame fs) now) (select_next m q) ∙ go (q m) refl (frees_below now n before q is m (omega (arith, l)))
  where
    so_far : Open
    so_far = record now { frames = given_below n before q m }

    at_it : (b : Bool) → (nat_lt m m && b) ≡ false
    at_it b = grind (arith, nat_tests)

    go : (b : Bool) → q m ≡ b → acted (map doing.FreeFrame (select m q)) now ≡ Some (record now { frames = given_below n before q m })
        → acted (map doing.FreeFrame (select m q ++ (if b then m ∷ [] else []))) now ≡ Some (record now { frames = given_below n before q (suc m) })
    go false h rest =
        ap (λ fs. acted (map doing.FreeFrame fs) now) (append-nil (select m q)) ∙ rest
        ∙ ap (λ fs. Some (record now { frames = fs })) (given_still n m before q h)
    go true h rest =
        ap (λ acts. acted acts now) (map_push doing.FreeFrame (select m q) m)
        ∙ acted_push (map doing.FreeFrame (select m q)) (doing.FreeFrame m) now
        ∙ ap (option_and_then (λ v. next_open v (doing.FreeFrame m))) rest
        ∙ ap (free_frame so_far m)
        (tabulate_get n (λ f. given_if (nat_lt f m && q f) (before f)) m (omega (arith, l))
        ∙ ap (λ b. Some (given_if b (before m))) (at_it (q m)))
        ∙ ap (λ fs. Some (record now { frames = fs })) (sym (given_next n m before q h))

-- ---- What an act of an endpoint frees

module _ (w : World) (e : ℕ) (o : LocalAct) (i : Invariant w) (low : e < w.config.endpoints)
    (legal : LegalLocalAct w.mappings w.bindings (w.part e) o) where
  abbrev after : World
  after = act w (AtEndpoint e o)

  stays_answered : (k : ℕ) (x : Owed) → answered (w.part k) x ≡ true → answered (after.part k) x ≡ true
  stays_answered k =
      put_keeps (λ d p. (x : Owed) → answered (w.part d) x ≡ true → answered p x ≡ true) w.part e (act_alone (w.part e) w.messages o)
      (λ x. answered_own w.mappings w.bindings w.messages (w.part e) o legal (i.parts e).labels.sent (i.parts e).bounds x)
      (λ d x h. h) k

  -- what is free stays free
  stays_free : (f : ℕ) → is_free w f ≡ true → is_free after f ≡ true
  stays_free f h = go (w.mappings.latest f) h
    where
      by_all : (owed : ℕ → Owed) (a b : Bool) → all_below w.config.endpoints (λ d. answered (w.part d) (owed d)) ≡ a
          → all_below w.config.endpoints (λ d. answered (after.part d) (owed d)) ≡ b → (a ≡ true → b ≡ true)
          → is_free_place (place_of_gone a) ≡ true → is_free_place (place_of_gone b) ≡ true
      by_all owed true true ia ib more h = refl
      by_all owed true false ia ib more h = absurd (cc (more refl))
      by_all owed false b ia ib more h = absurd (cc)

      by_state : (s : MappingState) → is_free_place (place_by w s) ≡ true → is_free_place (place_by after s) ≡ true
      by_state Unmade h = refl
      by_state Present h = absurd (cc)
      by_state (Gone owed) h =
          by_all owed (all_below w.config.endpoints (λ d. answered (w.part d) (owed d)))
          (all_below w.config.endpoints (λ d. answered (after.part d) (owed d))) refl refl
          (λ all. all_below-intro w.config.endpoints (λ d. answered (after.part d) (owed d))
          (λ d l. stays_answered d (owed d) (all_below-true w.config.endpoints (λ x. answered (w.part x) (owed x)) all d l))) h

      go : (m : Option ℕ) → is_free_place (place_at w m) ≡ true → is_free_place (place_at after m) ≡ true
      go None h = refl
      go (Some m) h = by_state (w.mappings.state m) h

  abbrev now_free : ℕ → Bool
  now_free f = is_free after f && not (is_free w f)

  -- its tenure is over with that
  given_now : (f : ℕ) → f < w.config.frames → given_if (nat_lt f w.config.frames && now_free f) (tenure_of w f) ≡ tenure_of after f
  given_now f l = go (w.mappings.latest f) refl
    where
      within : (x y : ℕ) → x < y → nat_lt x y ≡ true
      within x y k = grind (arith, nat_tests)

      still : (c : Bool) (t : Tenure) → given_if (c && false) t ≡ t
      still true t = refl
      still false t = refl

      none : (a b c : Bool) → a ≡ true → (c && (b && not a)) ≡ false
      none a b c h = grind arith

      by : (a b : Bool) (g : ℕ) → (a ≡ true → b ≡ true)
          → given_if (nat_lt f w.config.frames && (b && not a)) (record { given = given_by a g; frozen = 0 })
          ≡ record { given = given_by b g; frozen = 0 }
      by true true g more = still (nat_lt f w.config.frames) (record { given = suc g; frozen = 0 })
      by true false g more = absurd (cc (more refl))
      by false true g more = ap (λ c. given_if (c && true) (record { given = g; frozen = 0 })) (within f w.config.frames l)
      by false false g more = still (nat_lt f w.config.frames) (record { given = g; frozen = 0 })

      go : (m : Option ℕ) → w.mappings.latest f ≡ m
          → given_if (nat_lt f w.config.frames && now_free f) (record { given = given_at w f m; frozen = 0 })
          ≡ record { given = given_at after f m; frozen = 0 }
      go None h =
          ap (λ b. given_if b (record { given = 0; frozen = 0 }))
          (none (is_free w f) (is_free after f) (nat_lt f w.config.frames) (ap (λ z. is_free_place (place_at w z)) h))
      go (Some m) h = by (is_free w f) (is_free after f) (given_before w.mappings f m) (stays_free f)

  pub frees_all : (its : DoingThere) (v : Part)
      → part_of (act w (AtEndpoint e o)) e (act_alone (w.part e) w.messages o) ≡ v
      → next_part (open_of w).settings (open_of w).mappings (part_of w e (w.part e)) its ≡ Some v
      → acted (doing.At e its ∷ map doing.FreeFrame (freed_by w (act w (AtEndpoint e o)))) (open_of w)
      ≡ Some (open_of (act w (AtEndpoint e o)))
  frees_all its v is leads =
      let n = w.config.frames in
      first_acted (doing.At e its) (map doing.FreeFrame (freed_by w after)) (open_of w) (record (open_of after) { frames = tabulate n (tenure_of w) })
      (but_frames w e o i low its v is leads)
      ∙ frees_below (record (open_of after) { frames = tabulate n (tenure_of w) }) n (tenure_of w) now_free refl n (omega arith)
      ∙ ap (λ fs. Some (record (open_of after) { frames = fs }))
      (tabulate_same n (λ f. given_if (nat_lt f n && now_free f) (tenure_of w f)) (tenure_of after) given_now)
