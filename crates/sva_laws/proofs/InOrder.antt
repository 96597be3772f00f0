-- A success maps its pages in the order in which they were first asked for, each to the lowest frame that is free then.
use Rattle.std.proofs.Common.{◌≡◌, ◌≢◌, ◌⊎◌, inl, inr, refl, ap, sym, subst, ◌∙◌, ℕ, zero, suc, ◌<◌, ◌≤◌, Bool, true, false, arith}
use Rattle.std.specs.Prelude.{Option, Some, None, ◌&&◌, ◌||◌, ◌==◌, nat_lt, List, [], ◌∷◌, ◌++◌, map, length, if◌then◌else◌, Ok}
use Rattle.std.proofs.lemmas.Bool.{cases_lt, cases_order, eq-eqb, eqb-true, ltb-false}
use Rattle.std.proofs.lemmas.List.{append-nil}
use Rattle.sva_step.specs.declared.answers.Answer.TheVariants as answer
use Rattle.sva_step.specs.declared.limits.Config.{Config}
use Rattle.sva_step.specs.declared.steps.Step.{Step}
use Rattle.sva_step.specs.declared.steps.Step.TheVariants as step
use Rattle.sva_step.specs.declared.steps.Verdict.{Verdict}
use Rattle.sva_model.specs.Words.{select, the}
use Rattle.sva_model.specs.Message.{Code}
use Rattle.sva_model.specs.Message.Code.{SuccessCode, InvalidCode, FailureCode}
use Rattle.sva_model.specs.State.{PasidRule, World}
use Rattle.sva_model.specs.States.{Place, is_free, is_free_place, place}
use Rattle.sva_model.specs.States.Place.{Free}
use Rattle.sva_model.specs.Acts.{Act, LocalAct, act}
use Rattle.sva_model.specs.Acts.Act.{Map, LetGo, AtEndpoint}
use Rattle.sva_model.specs.Labels.{is_mapped, free_frames}
use Rattle.sva_model.specs.Refusals.{refusals}
use Rattle.sva_model.specs.Replies.{maps_to, reply_maps, replies_success, newly_mapped, free_list, is_write_asked, job_space, job_part, response_to, unseen}
use Rattle.sva_model.specs.Replies.{is_success}
use Rattle.sva_model.specs.Outcomes.{outcome, reply_outcome}
use Rattle.sva_model.specs.Steps.{reply, after_acts, world_after}
use Rattle.sva_laws.specs.Asked.{IsFirstAsk, MapsInOrder}
use Rattle.sva_labels.proofs.Words.{put-same, put-other, ℕ_cases}
use Rattle.sva_labels.proofs.Counting.{length_select}
use Rattle.sva_labels.proofs.Tests.{other_fails}
use Rattle.sva_laws.proofs.Lookback.{after_one}
use Rattle.sva_laws.proofs.Told.{accepted}
use Rattle.sva_laws.proofs.Asked.{Has}

-- The numbers from `lo` on and below n that pass, in rising order, and no other passes.

abbrev Picked : (ℕ → Bool) → (lo n : ℕ) → List ℕ → Type 0
Picked p lo n [] = (g : ℕ) → lo ≤ g → g < n → p g ≡ false
Picked p lo n (k ∷ ks) = (lo ≤ k) × (k < n) × (p k ≡ true) × ((g : ℕ) → lo ≤ g → g < k → p g ≡ false) × Picked p (suc k) n ks

picked_push : (p : ℕ → Bool) (lo n : ℕ) (ks : List ℕ) → lo ≤ n → p n ≡ true → Picked p lo n ks → Picked p lo (suc n) (ks ++ n ∷ [])
picked_push p lo n [] l t h = (l, omega arith, t, h, λ g a b. absurd (omega (arith, a, b)))
picked_push p lo n (k ∷ ks) l t h =
    let below = h.1 in
    (h.0, omega (arith, below), h.2, h.3, picked_push p (suc k) n ks (omega (arith, below)) t h.4)

picked_more : (p : ℕ → Bool) (lo n : ℕ) (ks : List ℕ) → p n ≡ false → Picked p lo n ks → Picked p lo (suc n) ks
picked_more p lo n [] t h = λ g a b. go g a b (ℕ_cases g n)
  where
    go : (g : ℕ) → lo ≤ g → g < suc n → (g ≡ n) ⊎ (g ≢ n) → p g ≡ false
    go g a b (inl e) = ap p e ∙ t
    go g a b (inr ne) = h g a (omega (arith, b, ne))
picked_more p lo n (k ∷ ks) t h = let below = h.1 in (h.0, omega (arith, below), h.2, h.3, picked_more p (suc k) n ks t h.4)

select_picks : (n : ℕ) (p : ℕ → Bool) → Picked p 0 n (select n p)
unfolding select
select_picks zero p = λ g a b. absurd (omega (arith, b))
select_picks (suc n) p = go (p n) refl (select_picks n p)
  where
    go : (b : Bool) → p n ≡ b → Picked p 0 n (select n p) → Picked p 0 (suc n) (select n p ++ (if b then n ∷ [] else []))
    go true t h = picked_push p 0 n (select n p) (omega arith) t h
    go false t h = subst (λ z. Picked p 0 (suc n) z) (sym (append-nil (select n p))) (picked_more p 0 n (select n p) t h)

-- what is picked is no lower
no_lower : (p : ℕ → Bool) (lo n : ℕ) (ks : List ℕ) (e : ℕ) → Picked p lo n ks → Has ks e → lo ≤ e
no_lower p lo n [] e h k = absurd k
no_lower p lo n (x ∷ ks) e h (inl same) = let a = h.0 in omega (arith, a, same)
no_lower p lo n (x ∷ ks) e h (inr k) = let a = h.0 in let b = no_lower p (suc x) n ks e h.4 k in omega (arith, a, b)

has_picked : (p : ℕ → Bool) (lo n : ℕ) (ks : List ℕ) (e : ℕ) → Picked p lo n ks → lo ≤ e → e < n → p e ≡ true → Has ks e
has_picked p lo n [] e h a b t = absurd (cc (sym (h e a b) ∙ t))
has_picked p lo n (x ∷ ks) e h a b t = go (cases_order x e) (λ l. has_picked p (suc x) n ks e h.4 (omega (arith, l)) b t)
  where
    go : (x ≡ e) ⊎ ((x < e) ⊎ (e < x)) → (x < e → Has ks e) → (x ≡ e) ⊎ Has ks e
    go (inl same) rest = inl same
    go (inr (inl l)) rest = inr (rest l)
    go (inr (inr l)) rest = absurd (cc (sym (h.3 e a l) ∙ t))

-- Pages in the order of their first asks, from the filing `lo` on.

abbrev InTurn : World → (job lo : ℕ) → List ℕ → Type 0
InTurn w j lo [] = Unit {0}
InTurn w j lo (q ∷ qs) = (k : ℕ) × (lo ≤ k) × IsFirstAsk w j q k × InTurn w j (suc k) qs

in_turn_less : (w : World) (j lo more : ℕ) (qs : List ℕ) → lo ≤ more → InTurn w j more qs → InTurn w j lo qs
in_turn_less w j lo more [] l h = tt
in_turn_less w j lo more (q ∷ qs) l h = let a = h.1 in (h.0, omega (arith, l, a), h.2, h.3)

first_once : (w : World) (j q a b : ℕ) → IsFirstAsk w j q a → IsFirstAsk w j q b → a ≡ b
first_once w j q a b x y = go (cases_order a b)
  where
    go : (a ≡ b) ⊎ ((a < b) ⊎ (b < a)) → a ≡ b
    go (inl e) = e
    go (inr (inl l)) = absurd (y.none_earlier a l x.of_group x.of_page)
    go (inr (inr l)) = absurd (x.none_earlier b l y.of_group y.of_page)

-- is the filing one of the job's group?
abbrev is_of : World → (job filing : ℕ) → Bool
is_of w j k = (job_part w j).group_of ((job_part w j).filing k) == (w.job j).group

-- the page that it asks for
abbrev page_of : World → (job filing : ℕ) → ℕ
page_of w j k = (job_part w j).asked_page ((job_part w j).filing k)

-- what isn't seen yet of the filings that are left, where each filing of the group is left, or its page seen
asked_in_turn : (w : World) (j lo : ℕ) (seen : ℕ → Bool) (ks : List ℕ) → Picked (is_of w j) lo (job_part w j).filings ks
    → ((e : ℕ) → e < (job_part w j).filings → is_of w j e ≡ true → Has ks e ⊎ (seen (page_of w j e) ≡ true))
    → InTurn w j lo (unseen seen (map (job_part w j).asked_page (map (job_part w j).filing ks)))
asked_in_turn w j lo seen [] h all = tt
asked_in_turn w j lo seen (k ∷ ks) h all =
    go (seen x) refl (λ t. asked_in_turn w j (suc k) seen ks h.4 (still t)) (asked_in_turn w j (suc k) (λ y. y == x || seen y) ks h.4 more)
  where
    x : ℕ
    x = page_of w j k

    rest : List ℕ
    rest = map (job_part w j).asked_page (map (job_part w j).filing ks)

    either : (a b : Bool) → b ≡ true → (a || b) ≡ true
    either true b t = refl
    either false b t = t

    still : seen x ≡ true → (e : ℕ) → e < (job_part w j).filings → is_of w j e ≡ true → Has ks e ⊎ (seen (page_of w j e) ≡ true)
    still t e l of = was (all e l of)
      where
        was : ((k ≡ e) ⊎ Has ks e) ⊎ (seen (page_of w j e) ≡ true) → Has ks e ⊎ (seen (page_of w j e) ≡ true)
        was (inl (inl same)) = inr (ap (λ z. seen (page_of w j z)) (sym same) ∙ t)
        was (inl (inr y)) = inl y
        was (inr y) = inr y

    more : (e : ℕ) → e < (job_part w j).filings → is_of w j e ≡ true → Has ks e ⊎ ((page_of w j e == x || seen (page_of w j e)) ≡ true)
    more e l of = was (all e l of)
      where
        was : ((k ≡ e) ⊎ Has ks e) ⊎ (seen (page_of w j e) ≡ true) → Has ks e ⊎ ((page_of w j e == x || seen (page_of w j e)) ≡ true)
        was (inl (inl same)) = inr (ap (λ b. b || seen (page_of w j e)) (eq-eqb (page_of w j e) x (ap (page_of w j) (sym same))))
        was (inl (inr y)) = inl y
        was (inr y) = inr (either (page_of w j e == x) (seen (page_of w j e)) y)

    -- none of the group asked for the page before
    none : seen x ≡ false → (e : ℕ) → e < k → (job_part w j).group_of ((job_part w j).filing e) ≡ (w.job j).group → page_of w j e ≢ x
    none t e l of same = was (all e (omega (arith, l, below)) (eq-eqb ((job_part w j).group_of ((job_part w j).filing e)) (w.job j).group of))
      where
        below : k < (job_part w j).filings
        below = h.1

        was : ((k ≡ e) ⊎ Has ks e) ⊎ (seen (page_of w j e) ≡ true) → ⊥
        was (inl (inl y)) = absurd (omega (arith, l, y))
        was (inl (inr y)) = let a = no_lower (is_of w j) (suc k) (job_part w j).filings ks e h.4 y in absurd (omega (arith, l, a))
        was (inr y) = absurd (cc (sym t ∙ ap seen (sym same) ∙ y))

    first : seen x ≡ false → IsFirstAsk w j x k
    first t =
        record {
          filed = h.1;
          of_group = eqb-true ((job_part w j).group_of ((job_part w j).filing k)) (w.job j).group h.2;
          of_page = refl;
          none_earlier = none t;
        }

    go : (b : Bool) → seen x ≡ b → (seen x ≡ true → InTurn w j (suc k) (unseen seen rest)) → InTurn w j (suc k) (unseen (λ y. y == x || seen y) rest)
        → InTurn w j lo (if b then unseen seen rest else x ∷ unseen (λ y. y == x || seen y) rest)
    go true t same new = let a = h.0 in in_turn_less w j lo (suc k) (unseen seen rest) (omega (arith, a)) (same t)
    go false t same new = (k, h.0, first t, new)

newly_in_turn : (w : World) (j : ℕ) → InTurn w j 0 (newly_mapped w j)
newly_in_turn w j =
    let picks = select_picks (job_part w j).filings (is_of w j) in
    asked_in_turn w j 0 (is_mapped w (job_space w j)) (select (job_part w j).filings (is_of w j)) picks
    (λ e l of. inl (has_picked (is_of w j) 0 (job_part w j).filings (select (job_part w j).filings (is_of w j)) e picks (omega arith) l of))

-- What the maps of a success leave: of `w`, the world at the reply, from `u` to `v`.

record Placed (w u v : World) (j lo low : ℕ) : Type 0 where
  asked : (m : ℕ) → u.mappings.made ≤ m → m < v.mappings.made → (k : ℕ) × (lo ≤ k) × IsFirstAsk w j (v.mappings.page m) k
  pages :
      (m n k l : ℕ)
      → u.mappings.made ≤ m
      → m < n
      → n < v.mappings.made
      → IsFirstAsk w j (v.mappings.page m) k
      → IsFirstAsk w j (v.mappings.page n) l
      → k < l
  free : (m : ℕ) → u.mappings.made ≤ m → m < v.mappings.made → (low ≤ v.mappings.frame m) × (is_free w (v.mappings.frame m) ≡ true)
  frames : (m n : ℕ) → u.mappings.made ≤ m → m < n → n < v.mappings.made → v.mappings.frame m < v.mappings.frame n
  lowest :
      (m g : ℕ)
      → u.mappings.made ≤ m
      → m < v.mappings.made
      → is_free w g ≡ true
      → low ≤ g
      → g < v.mappings.frame m
      → (d : ℕ) × (u.mappings.made ≤ d) × (d < m) × (v.mappings.frame d ≡ g)
  kept : (m : ℕ) → m < u.mappings.made → (v.mappings.page m ≡ u.mappings.page m) × (v.mappings.frame m ≡ u.mappings.frame m)

none_placed : (w u : World) (j lo low x e : ℕ) (o : LocalAct) → Placed w u (after_acts u (LetGo x ∷ AtEndpoint e o ∷ [])) j lo low
none_placed w u j lo low x e o =
    record {
      asked = λ m a b. absurd (omega (arith, a, b));
      pages = λ m n k l a b c. absurd (omega (arith, a, b, c));
      free = λ m a b. absurd (omega (arith, a, b));
      frames = λ m n a b c. absurd (omega (arith, a, b, c));
      lowest = λ m g a b. absurd (omega (arith, a, b));
      kept = λ m l. (refl, refl);
    }

one_placed : (w u v : World) (j lo low s q f k : ℕ) (x : Bool) → lo ≤ k → IsFirstAsk w j q k → low ≤ f → is_free w f ≡ true
    → ((g : ℕ) → low ≤ g → g < f → is_free w g ≡ false) → Placed w (act u (Map s q f x)) v j (suc k) (suc f) → Placed w u v j lo low
one_placed w u v j lo low s q f k x lk first lf free gap b =
    record {
      asked = λ m a c. asked m a c (cases_lt m (suc u.mappings.made));
      pages = λ m n i l a c d y z. pages m n i l a c d y z (cases_lt m (suc u.mappings.made));
      free = λ m a c. is_free_then m a c (cases_lt m (suc u.mappings.made));
      frames = λ m n a c d. frames m n a c d (cases_lt m (suc u.mappings.made));
      lowest = λ m g a c t y z. lowest m g a c t y z (cases_lt m (suc u.mappings.made));
      kept = λ m l.
          let y = b.kept m (omega (arith, l)) in
          let ne : m ≢ u.mappings.made = omega (arith, l) in
          (y.0 ∙ put-other u.mappings.page u.mappings.made q m ne, y.1 ∙ put-other u.mappings.frame u.mappings.made f m ne);
    }
  where
    page : v.mappings.page u.mappings.made ≡ q
    page = (b.kept u.mappings.made (omega arith)).0 ∙ put-same u.mappings.page u.mappings.made q

    frame : v.mappings.frame u.mappings.made ≡ f
    frame = (b.kept u.mappings.made (omega arith)).1 ∙ put-same u.mappings.frame u.mappings.made f

    its : (m : ℕ) → u.mappings.made ≤ m → m < suc u.mappings.made → m ≡ u.mappings.made
    its m a c = omega (arith, a, c)

    page_at : (m : ℕ) → m ≡ u.mappings.made → v.mappings.page m ≡ q
    page_at m e = ap v.mappings.page e ∙ page

    frame_at : (m : ℕ) → m ≡ u.mappings.made → v.mappings.frame m ≡ f
    frame_at m e = ap v.mappings.frame e ∙ frame

    asked : (m : ℕ) → u.mappings.made ≤ m → m < v.mappings.made → (m < suc u.mappings.made) ⊎ (suc u.mappings.made ≤ m)
        → (i : ℕ) × (lo ≤ i) × IsFirstAsk w j (v.mappings.page m) i
    asked m a c (inl y) = (k, lk, subst (λ z. IsFirstAsk w j z k) (sym (page_at m (its m a y))) first)
    asked m a c (inr y) = let z = b.asked m y c in let above = z.1 in (z.0, omega (arith, above, lk), z.2)

    pages : (m n i l : ℕ) → u.mappings.made ≤ m → m < n → n < v.mappings.made → IsFirstAsk w j (v.mappings.page m) i
        → IsFirstAsk w j (v.mappings.page n) l → (m < suc u.mappings.made) ⊎ (suc u.mappings.made ≤ m) → i < l
    pages m n i l a c d y z (inl t) =
        let its_own = b.asked n (omega (arith, a, c)) d in
        let above = its_own.1 in
        let one = first_once w j q i k (subst (λ r. IsFirstAsk w j r i) (page_at m (its m a t)) y) first in
        let other = first_once w j (v.mappings.page n) l its_own.0 z its_own.2 in
        omega (arith, above, one, other)
    pages m n i l a c d y z (inr t) = b.pages m n i l t c d y z

    is_free_then : (m : ℕ) → u.mappings.made ≤ m → m < v.mappings.made → (m < suc u.mappings.made) ⊎ (suc u.mappings.made ≤ m)
        → (low ≤ v.mappings.frame m) × (is_free w (v.mappings.frame m) ≡ true)
    is_free_then m a c (inl y) =
        subst (λ z. (low ≤ z) × (is_free w z ≡ true)) (sym (frame_at m (its m a y))) (lf, free)
    is_free_then m a c (inr y) = let z = b.free m y c in let above = z.0 in (omega (arith, above, lf), z.1)

    frames : (m n : ℕ) → u.mappings.made ≤ m → m < n → n < v.mappings.made → (m < suc u.mappings.made) ⊎ (suc u.mappings.made ≤ m)
        → v.mappings.frame m < v.mappings.frame n
    frames m n a c d (inl y) =
        let above = (b.free n (omega (arith, a, c)) d).0 in
        let same = frame_at m (its m a y) in
        omega (arith, above, same)
    frames m n a c d (inr y) = b.frames m n y c d

    lowest : (m g : ℕ) → u.mappings.made ≤ m → m < v.mappings.made → is_free w g ≡ true → low ≤ g → g < v.mappings.frame m
        → (m < suc u.mappings.made) ⊎ (suc u.mappings.made ≤ m)
        → (d : ℕ) × (u.mappings.made ≤ d) × (d < m) × (v.mappings.frame d ≡ g)
    lowest m g a c t y z (inl i) =
        let same = frame_at m (its m a i) in
        absurd (cc (sym (gap g y (omega (arith, z, same))) ∙ t))
    lowest m g a c t y z (inr i) = below (cases_order g f)
      where
        below : (g ≡ f) ⊎ ((g < f) ⊎ (f < g)) → (d : ℕ) × (u.mappings.made ≤ d) × (d < m) × (v.mappings.frame d ≡ g)
        below (inl e) = (u.mappings.made, omega arith, omega (arith, i), frame ∙ sym e)
        below (inr (inl l)) = absurd (cc (sym (gap g y l) ∙ t))
        below (inr (inr l)) =
            let r = b.lowest m g i c t (omega (arith, l)) z in
            let above = r.1 in
            (r.0, omega (arith, above), r.2, r.3)

all_placed : (s : ℕ) (write : ℕ → Bool) (qs fs : List ℕ) (x e : ℕ) (o : LocalAct) (w u : World) (j lo low n : ℕ) → length qs ≤ length fs
    → InTurn w j lo qs → Picked (is_free w) low n fs
    → Placed w u (after_acts u (maps_to s write qs fs ++ LetGo x ∷ AtEndpoint e o ∷ [])) j lo low
all_placed s write [] fs x e o w u j lo low n l t p = none_placed w u j lo low x e o
all_placed s write (q ∷ qs) [] x e o w u j lo low n l t p = absurd (omega (arith, l))
all_placed s write (q ∷ qs) (f ∷ fs) x e o w u j lo low n l t p =
    one_placed w u (after_acts (act u (Map s q f (write q))) (maps_to s write qs fs ++ LetGo x ∷ AtEndpoint e o ∷ [])) j lo low s q f t.0 (write q)
    t.1 t.2 p.0 p.2 p.3
    (all_placed s write qs fs x e o w (act u (Map s q f (write q))) j (suc t.0) (suc f) n (omega (arith, l)) t.3 p.4)

-- The law.

free_place : (x : Place) → is_free_place x ≡ true → x ≡ Free
free_place x h = grind arith

in_order : (w v : World) (j : ℕ) → Placed w w v j 0 0 → MapsInOrder w v j
in_order w v j b =
    record {
      asked = λ m a c. let y = b.asked m a c in (y.0, y.2);
      pages = λ m n k l a c d y z. b.pages m n k l a c d y z;
      free = λ m a c. free_place (place w (v.mappings.frame m)) (b.free m a c).1;
      frames = b.frames;
      lowest = λ m g a c t l. b.lowest m g a c (ap is_free_place t) (omega arith) l;
    }

success_placed : (w : World) (x j : ℕ) (v : Verdict) (o : Option Code) (count : ℕ) → response_to w j v ≡ o
    → (reply_outcome w x j (reply_maps w j v) o).answer ≡ answer.Success count
    → (replies_success w j v && nat_lt (free_frames w) (length (newly_mapped w j))) ≡ false
    → Placed w w (after_acts w (reply_outcome w x j (reply_maps w j v) o).acts) j 0 0
success_placed w x j v None count r a room = absurd (cc)
success_placed w x j v (Some InvalidCode) count r a room = absurd (cc)
success_placed w x j v (Some FailureCode) count r a room = absurd (cc)
success_placed w x j v (Some SuccessCode) count r a room =
    subst (λ b. Placed w w (after_acts w ((if b then pages else []) ++ LetGo x ∷ AtEndpoint (w.job j).endpoint sent ∷ [])) j 0 0) (sym succeeds)
    (all_placed (job_space w j) (is_write_asked w j) (newly_mapped w j) (free_list w) x (w.job j).endpoint sent w w j 0 0 w.config.frames
    (subst (λ n. length (newly_mapped w j) ≤ n) (sym (length_select w.config.frames (is_free w)))
    (ltb-false (free_frames w) (length (newly_mapped w j)) (other_fails (replies_success w j v) _ room succeeds)))
    (newly_in_turn w j) (select_picks w.config.frames (is_free w)))
  where
    sent : LocalAct
    sent = LocalAct.Respond (w.job j).group SuccessCode

    pages : List Act
    pages = maps_to (job_space w j) (is_write_asked w j) (newly_mapped w j) (free_list w)

    succeeds : replies_success w j v ≡ true
    succeeds = ap is_success r

pub always_maps_in_order : (rule : PasidRule) (config : Config) (steps : List Step) (x j : ℕ) (v : Verdict) (count : ℕ)
    → reply (world_after rule config steps) (step.Reply x v) ≡ Ok (answer.Success count) → (world_after rule config steps).hand x ≡ Some j
    → MapsInOrder (world_after rule config steps) (world_after rule config (steps ++ step.Reply x v ∷ [])) j
always_maps_in_order rule config steps x j v count h hand =
    let w = world_after rule config steps in
    let s = step.Reply x v in
    let i = the (w.hand x) in
    let accept = accepted (refusals w s) (outcome w s) (answer.Success count) h in
    subst (λ z. MapsInOrder w (world_after rule config (steps ++ s ∷ [])) z) (ap the hand)
    (subst (λ z. MapsInOrder w z i) (sym (after_one rule config steps s ∙ ap (after_acts w) accept.2))
    (in_order w (after_acts w (outcome w s).acts) i (success_placed w x i v (response_to w i v) count refl accept.1 accept.0.1.1.1.0)))
