-- A success maps the pages that are asked for, and each of them is mapped after it; and what a reply is answered.
use Rattle.std.proofs.Common.{◌≡◌, ◌≢◌, ◌⊎◌, inl, inr, refl, ap, sym, subst, ◌∙◌, ℕ, zero, suc, ◌<◌, ◌≤◌, Bool, true, false, arith}
use Rattle.std.specs.Prelude.{Option, Some, None, ◌&&◌, ◌||◌, ◌==◌, nat_lt, List, [], ◌∷◌, ◌++◌, map, length, if◌then◌else◌, Ok}
use Rattle.std.specs.List.{list_any}
use Rattle.std.proofs.lemmas.Bool.Decides.{nat_tests}
use Rattle.std.proofs.lemmas.Bool.{cases_lt, eq-eqb, eqb-true, ltb-false}
use Rattle.sva_step.specs.declared.answers.Answer.{Answer}
use Rattle.sva_step.specs.declared.answers.Answer.TheVariants as answer
use Rattle.sva_step.specs.declared.limits.Config.{Config}
use Rattle.sva_step.specs.declared.steps.Step.{Step}
use Rattle.sva_step.specs.declared.steps.Step.TheVariants as step
use Rattle.sva_step.specs.declared.steps.Verdict.{Verdict}
use Rattle.sva_step.specs.declared.steps.Verdict.TheVariants as verdict_is
use Rattle.sva_model.specs.Words.{put, select, is_some, the}
use Rattle.sva_model.specs.States.{is_open, is_free, is_before_invalidating}
use Rattle.sva_model.specs.Message.{Code}
use Rattle.sva_model.specs.Message.Code.{SuccessCode, InvalidCode, FailureCode}
use Rattle.sva_model.specs.State.{PasidRule, Stage, World}
use Rattle.sva_model.specs.State.Stage.{Live, Stopping, Draining}
use Rattle.sva_model.specs.Acts.{Act, LocalAct, act}
use Rattle.sva_model.specs.Acts.Act.{Map, LetGo, AtEndpoint}
use Rattle.sva_model.specs.Labels.{asks, is_mapped, free_frames}
use Rattle.sva_model.specs.Refusals.{refusals}
use Rattle.sva_model.specs.Replies.{maps_to, reply_maps, replies_success, newly_mapped, free_list, is_write_asked, job_space, job_part, response_to, unseen}
use Rattle.sva_model.specs.Replies.{is_success, response, code_of_verdict}
use Rattle.sva_model.specs.Outcomes.{outcome, reply_outcome}
use Rattle.sva_model.specs.Steps.{reply, after_acts, world_after}
use Rattle.sva_laws.specs.Asked.{IsAskedFor, IsAskedToWrite, MapsWhatIsAsked, RepliesBy, stage_of}
use Rattle.sva_labels.proofs.Words.{put-same, put-other, ℕ_cases}
use Rattle.sva_labels.proofs.Counting.{length_select}
use Rattle.sva_laws.proofs.Lookback.{after_one}
use Rattle.sva_laws.proofs.Told.{accepted}
use Rattle.sva_laws.proofs.Resets.{open_is, closed_is}
use Rattle.sva_labels.proofs.Tests.{first_holds, second_holds, other_fails}

-- What a list has.

abbrev pub Has : List ℕ → ℕ → Type 0
Has [] q = ⊥
Has (x ∷ xs) q = (x ≡ q) ⊎ Has xs q

has_first : (xs ys : List ℕ) (q : ℕ) → Has xs q → Has (xs ++ ys) q
has_first (x ∷ xs) ys q (inl e) = inl e
has_first (x ∷ xs) ys q (inr h) = inr (has_first xs ys q h)
has_first [] ys q h = absurd h

has_second : (xs ys : List ℕ) (q : ℕ) → Has ys q → Has (xs ++ ys) q
has_second [] ys q h = h
has_second (x ∷ xs) ys q h = inr (has_second xs ys q h)

has_either : (xs ys : List ℕ) (q : ℕ) → Has (xs ++ ys) q → Has xs q ⊎ Has ys q
has_either [] ys q h = inr h
has_either (x ∷ xs) ys q (inl e) = inl (inl e)
has_either (x ∷ xs) ys q (inr h) = elim (has_either xs ys q h) [ inl a ↦ inl (inr a) | inr b ↦ inr b ]

pub map_has : (f : ℕ → ℕ) (xs : List ℕ) (q : ℕ) → Has (map f xs) q → (x : ℕ) × Has xs x × (f x ≡ q)
map_has f [] q h = absurd h
map_has f (x ∷ xs) q (inl e) = (x, inl refl, e)
map_has f (x ∷ xs) q (inr h) = let y = map_has f xs q h in (y.0, inr y.1, y.2)

has_map : (f : ℕ → ℕ) (xs : List ℕ) (x : ℕ) → Has xs x → Has (map f xs) (f x)
has_map f [] x h = absurd h
has_map f (y ∷ xs) x (inl e) = inl (ap f e)
has_map f (y ∷ xs) x (inr h) = inr (has_map f xs x h)

pub select_has : (n : ℕ) (p : ℕ → Bool) (k : ℕ) → Has (select n p) k → (k < n) × (p k ≡ true)
unfolding select
select_has zero p k h = absurd h
select_has (suc n) p k h = go (p n) refl (has_either (select n p) (if p n then n ∷ [] else []) k h) (λ z. select_has n p k z)
  where
    up : k < n → k < suc n
    up l = omega (arith, l)

    last : n ≡ k → k < suc n
    last e = omega (arith, e)

    go :
        (b : Bool)
        → p n ≡ b
        → Has (select n p) k ⊎ Has (if p n then n ∷ [] else []) k
        → (Has (select n p) k → (k < n) × (p k ≡ true))
        → (k < suc n) × (p k ≡ true)
    go b e (inl a) rest = let y = rest a in (up y.0, y.1)
    go true e (inr a) rest = one (subst (λ t. Has (if t then n ∷ [] else []) k) e a)
      where
        one : (n ≡ k) ⊎ ⊥ → (k < suc n) × (p k ≡ true)
        one (inl same) = (last same, ap p (sym same) ∙ e)
        one (inr x) = absurd x
    go false e (inr a) rest = absurd (subst (λ t. Has (if t then n ∷ [] else []) k) e a)

has_select : (n : ℕ) (p : ℕ → Bool) (k : ℕ) → k < n → p k ≡ true → Has (select n p) k
unfolding select
has_select zero p k l t = absurd (omega (arith, l))
has_select (suc n) p k l t = go (ℕ_cases k n) (λ z. has_select n p k z t)
  where
    go : (k ≡ n) ⊎ (k ≢ n) → (k < n → Has (select n p) k) → Has (select n p ++ (if p n then n ∷ [] else [])) k
    go (inl e) rest =
        has_second (select n p) (if p n then n ∷ [] else []) k (subst (λ b. Has (if b then n ∷ [] else []) k) (sym (sym (ap p e) ∙ t)) (inl (sym e)))
    go (inr ne) rest = has_first (select n p) (if p n then n ∷ [] else []) k (rest (omega (arith, l, ne)))

pub any_has : (f : ℕ → Bool) (xs : List ℕ) → list_any f xs ≡ true → (x : ℕ) × Has xs x × (f x ≡ true)
any_has f [] h = absurd (cc)
any_has f (x ∷ xs) h = go (f x) refl h (λ k. any_has f xs k)
  where
    go : (b : Bool) → f x ≡ b → (b || list_any f xs) ≡ true → (list_any f xs ≡ true → (y : ℕ) × Has xs y × (f y ≡ true))
        → (y : ℕ) × ((x ≡ y) ⊎ Has xs y) × (f y ≡ true)
    go true e k rest = (x, inl refl, e)
    go false e k rest = let y = rest k in (y.0, inr y.1, y.2)

has_any : (f : ℕ → Bool) (xs : List ℕ) (x : ℕ) → Has xs x → f x ≡ true → list_any f xs ≡ true
has_any f [] x h t = absurd h
has_any f (y ∷ xs) x (inl e) t = ap (λ b. b || list_any f xs) (ap f e ∙ t)
has_any f (y ∷ xs) x (inr h) t = ap (λ b. f y || b) (has_any f xs x h t) ∙ or_true (f y)
  where
    or_true : (b : Bool) → (b || true) ≡ true
    or_true true = refl
    or_true false = refl

unseen_has : (seen : ℕ → Bool) (qs : List ℕ) (q : ℕ) → Has (unseen seen qs) q → Has qs q
unseen_has seen [] q h = absurd h
unseen_has seen (x ∷ qs) q h = go (seen x) h (λ k. unseen_has seen qs q k) (λ k. unseen_has (λ y. y == x || seen y) qs q k)
  where
    go : (b : Bool) → Has (if b then unseen seen qs else x ∷ unseen (λ y. y == x || seen y) qs) q → (Has (unseen seen qs) q → Has qs q)
        → (Has (unseen (λ y. y == x || seen y) qs) q → Has qs q) → (x ≡ q) ⊎ Has qs q
    go true k one two = inr (one k)
    go false (inl e) one two = inl e
    go false (inr k) one two = inr (two k)

has_unseen : (seen : ℕ → Bool) (qs : List ℕ) (q : ℕ) → Has qs q → (seen q ≡ true) ⊎ Has (unseen seen qs) q
has_unseen seen [] q h = absurd h
has_unseen seen (x ∷ qs) q h = go (seen x) refl h (λ k. has_unseen seen qs q k) (λ k. has_unseen (λ y. y == x || seen y) qs q k)
  where
    either : (a b : ℕ) (t : Bool) → (a == b || t) ≡ true → (b ≡ a) ⊎ (t ≡ true)
    either a b t h = grind (arith, nat_tests)

    more : (((q == x) || seen q) ≡ true) ⊎ Has (unseen (λ y. y == x || seen y) qs) q
        → (seen q ≡ true) ⊎ ((x ≡ q) ⊎ Has (unseen (λ y. y == x || seen y) qs) q)
    more (inl k) = elim (either q x (seen q) k) [ inl e ↦ inr (inl e) | inr t ↦ inl t ]
    more (inr k) = inr (inr k)

    go : (b : Bool) → seen x ≡ b → (x ≡ q) ⊎ Has qs q → (Has qs q → (seen q ≡ true) ⊎ Has (unseen seen qs) q)
        → (Has qs q → (((q == x) || seen q) ≡ true) ⊎ Has (unseen (λ y. y == x || seen y) qs) q)
        → (seen q ≡ true) ⊎ Has (if b then unseen seen qs else x ∷ unseen (λ y. y == x || seen y) qs) q
    go true t (inl e) one two = inl (ap seen (sym e) ∙ t)
    go true t (inr k) one two = one k
    go false t (inl e) one two = inr (inl e)
    go false t (inr k) one two = more (two k)

-- The page requests of a job.

pub asked_is : (w : World) (j q : ℕ) → Has (map (job_part w j).asked_page (asks (job_part w j) (w.job j).group)) q → IsAskedFor w j q
asked_is w j q h =
    let p = job_part w j in
    let is_of : ℕ → Bool = λ k. p.group_of (p.filing k) == (w.job j).group in
    let x = map_has p.asked_page (asks p (w.job j).group) q h in
    let y = map_has p.filing (select p.filings is_of) x.0 x.1 in
    let z = select_has p.filings is_of y.0 y.1 in
    record { filing = y.0; filed = z.0; of_group = eqb-true (p.group_of (p.filing y.0)) (w.job j).group z.1; of_page = ap p.asked_page y.2 ∙ x.2 }

filed_asks : (w : World) (j k : ℕ) → k < (job_part w j).filings → (job_part w j).group_of ((job_part w j).filing k) ≡ (w.job j).group
    → Has (asks (job_part w j) (w.job j).group) ((job_part w j).filing k)
filed_asks w j k l g =
    let p = job_part w j in
    has_map p.filing (select p.filings (λ i. p.group_of (p.filing i) == (w.job j).group)) k
    (has_select p.filings (λ i. p.group_of (p.filing i) == (w.job j).group) k l (eq-eqb (p.group_of (p.filing k)) (w.job j).group g))

is_asked : (w : World) (j q : ℕ) → IsAskedFor w j q → Has (map (job_part w j).asked_page (asks (job_part w j) (w.job j).group)) q
is_asked w j q a =
    let p = job_part w j in
    subst (λ z. Has (map p.asked_page (asks p (w.job j).group)) z) a.of_page
    (has_map p.asked_page (asks p (w.job j).group) (p.filing a.filing) (filed_asks w j a.filing a.filed a.of_group))

written_is : (w : World) (j q : ℕ) → is_write_asked w j q ≡ true → IsAskedToWrite w j q
written_is w j q h =
    let p = job_part w j in
    let is_of : ℕ → Bool = λ k. p.group_of (p.filing k) == (w.job j).group in
    let x = any_has (λ r. p.asked_page r == q && p.asks_write r) (asks p (w.job j).group) h in
    let y = map_has p.filing (select p.filings is_of) x.0 x.1 in
    let z = select_has p.filings is_of y.0 y.1 in
    record {
      filing = y.0;
      filed = z.0;
      of_group = eqb-true (p.group_of (p.filing y.0)) (w.job j).group z.1;
      of_page = ap p.asked_page y.2 ∙ eqb-true (p.asked_page x.0) q (first_holds (p.asked_page x.0 == q) (p.asks_write x.0) x.2);
      writes = ap p.asks_write y.2 ∙ second_holds (p.asked_page x.0 == q) (p.asks_write x.0) x.2;
    }

is_written : (w : World) (j q : ℕ) → IsAskedToWrite w j q → is_write_asked w j q ≡ true
is_written w j q a =
    let p = job_part w j in
    has_any (λ r. p.asked_page r == q && p.asks_write r) (asks p (w.job j).group) (p.filing a.filing) (filed_asks w j a.filing a.filed a.of_group)
    (both (p.asked_page (p.filing a.filing)) q (p.asks_write (p.filing a.filing)) a.of_page a.writes)
  where
    both : (a b : ℕ) (t : Bool) → a ≡ b → t ≡ true → (a == b && t) ≡ true
    both a b t h k = grind (arith, nat_tests)

-- The acts of a success.

record MapsEach (u v : World) (s : ℕ) (write : ℕ → Bool) (qs : List ℕ) : Type 0 where
  new : (m : ℕ) → u.mappings.made ≤ m → m < v.mappings.made → Has qs (v.mappings.page m) × (v.mappings.write m ≡ write (v.mappings.page m))
  all : (q : ℕ) → Has qs q → is_mapped v s q ≡ true
  kept : (m : ℕ) → m < u.mappings.made → (v.mappings.page m ≡ u.mappings.page m) × (v.mappings.write m ≡ u.mappings.write m)
  still : (q : ℕ) → is_mapped u s q ≡ true → is_mapped v s q ≡ true

none_mapped : (w : World) (x e : ℕ) (o : LocalAct) (s : ℕ) (write : ℕ → Bool) → MapsEach w (after_acts w (LetGo x ∷ AtEndpoint e o ∷ [])) s write []
none_mapped w x e o s write =
    record { new = λ m a b. absurd (omega (arith, a, b)); all = λ q h. absurd h; kept = λ m l. (refl, refl); still = λ q h. h }

-- one page, and the others
one_more : (w v : World) (s q f : ℕ) (write : ℕ → Bool) (qs : List ℕ) → MapsEach (act w (Map s q f (write q))) v s write qs → MapsEach w v s write (q ∷ qs)
one_more w v s q f write qs b =
    record {
      new = λ m l k. new m l k (cases_lt m (suc w.mappings.made));
      all = λ r h. all r h;
      kept = λ m l.
          let y = b.kept m (omega (arith, l)) in
          let ne : m ≢ w.mappings.made = omega (arith, l) in
          (y.0 ∙ put-other w.mappings.page w.mappings.made q m ne, y.1 ∙ put-other w.mappings.write w.mappings.made (write q) m ne);
      still = λ r h. b.still r (was r h (ℕ_cases r q));
    }
  where
    at : (act w (Map s q f (write q))).mappings.at s ≡ put (w.mappings.at s) q (Some w.mappings.made)
    at = put-same w.mappings.at s (put (w.mappings.at s) q (Some w.mappings.made))

    now : is_mapped (act w (Map s q f (write q))) s q ≡ true
    now = ap (λ g. is_some (g q)) at ∙ ap is_some (put-same (w.mappings.at s) q (Some w.mappings.made))

    was : (r : ℕ) → is_mapped w s r ≡ true → (r ≡ q) ⊎ (r ≢ q) → is_mapped (act w (Map s q f (write q))) s r ≡ true
    was r h (inl e) = subst (λ z. is_mapped (act w (Map s q f (write q))) s z ≡ true) (sym e) now
    was r h (inr ne) = ap (λ g. is_some (g r)) at ∙ ap is_some (put-other (w.mappings.at s) q (Some w.mappings.made) r ne) ∙ h

    all : (r : ℕ) → (q ≡ r) ⊎ Has qs r → is_mapped v s r ≡ true
    all r (inl e) = b.still r (subst (λ z. is_mapped (act w (Map s q f (write q))) s z ≡ true) e now)
    all r (inr h) = b.all r h

    first : v.mappings.page w.mappings.made ≡ q
    first = (b.kept w.mappings.made (omega arith)).0 ∙ put-same w.mappings.page w.mappings.made q

    flag : v.mappings.write w.mappings.made ≡ write q
    flag = (b.kept w.mappings.made (omega arith)).1 ∙ put-same w.mappings.write w.mappings.made (write q)

    at_first : ((q ≡ v.mappings.page w.mappings.made) ⊎ Has qs (v.mappings.page w.mappings.made))
        × (v.mappings.write w.mappings.made ≡ write (v.mappings.page w.mappings.made))
    at_first = (inl (sym first), flag ∙ ap write (sym first))

    new : (m : ℕ) → w.mappings.made ≤ m → m < v.mappings.made → (m < suc w.mappings.made) ⊎ (suc w.mappings.made ≤ m)
        → ((q ≡ v.mappings.page m) ⊎ Has qs (v.mappings.page m)) × (v.mappings.write m ≡ write (v.mappings.page m))
    new m l k (inl x) =
        let e : m ≡ w.mappings.made = omega (arith, l, x) in
        subst (λ z. ((q ≡ v.mappings.page z) ⊎ Has qs (v.mappings.page z)) × (v.mappings.write z ≡ write (v.mappings.page z))) (sym e) at_first
    new m l k (inr x) = let y = b.new m x k in (inr y.0, y.1)

all_mapped : (s : ℕ) (write : ℕ → Bool) (qs fs : List ℕ) (x e : ℕ) (o : LocalAct) (w : World) → length qs ≤ length fs
    → MapsEach w (after_acts w (maps_to s write qs fs ++ LetGo x ∷ AtEndpoint e o ∷ [])) s write qs
all_mapped s write [] fs x e o w l = none_mapped w x e o s write
all_mapped s write (q ∷ qs) [] x e o w l = absurd (omega (arith, l))
all_mapped s write (q ∷ qs) (f ∷ fs) x e o w l =
    one_more w (after_acts (act w (Map s q f (write q))) (maps_to s write qs fs ++ LetGo x ∷ AtEndpoint e o ∷ [])) s q f write qs
    (all_mapped s write qs fs x e o (act w (Map s q f (write q))) (omega (arith, l)))

-- The law.

maps_asked : (w v : World) (j : ℕ) → MapsEach w v (job_space w j) (is_write_asked w j) (newly_mapped w j) → MapsWhatIsAsked w v j
maps_asked w v j m =
    record {
      asked = λ n l k. asked (v.mappings.page n) (m.new n l k).0;
      all = λ q a. all q (has_unseen (is_mapped w (job_space w j)) (map (job_part w j).asked_page (asks (job_part w j) (w.job j).group)) q (is_asked w j q a));
      writable = λ n l k.
          let y = (m.new n l k).1 in
          ((λ h. written_is w j (v.mappings.page n) (sym y ∙ h)), (λ a. y ∙ is_written w j (v.mappings.page n) a));
    }
  where
    asked : (q : ℕ) → Has (newly_mapped w j) q → IsAskedFor w j q
    asked q h =
        asked_is w j q (unseen_has (is_mapped w (job_space w j)) (map (job_part w j).asked_page (asks (job_part w j) (w.job j).group)) q h)

    all : (q : ℕ) → (is_mapped w (job_space w j) q ≡ true) ⊎ Has (newly_mapped w j) q → is_mapped v (job_space w j) q ≡ true
    all q (inl h) = m.still q h
    all q (inr h) = m.all q h

-- a reply of success
success_maps : (w : World) (x j : ℕ) (v : Verdict) (o : Option Code) (count : ℕ) → response_to w j v ≡ o
    → (reply_outcome w x j (reply_maps w j v) o).answer ≡ answer.Success count
    → (replies_success w j v && nat_lt (free_frames w) (length (newly_mapped w j))) ≡ false
    → MapsEach w (after_acts w (reply_outcome w x j (reply_maps w j v) o).acts) (job_space w j) (is_write_asked w j) (newly_mapped w j)
success_maps w x j v None count r a room = absurd (cc)
success_maps w x j v (Some InvalidCode) count r a room = absurd (cc)
success_maps w x j v (Some FailureCode) count r a room = absurd (cc)
success_maps w x j v (Some SuccessCode) count r a room =
    subst (λ b. MapsEach w (after_acts w ((if b then pages else []) ++ LetGo x ∷ AtEndpoint (w.job j).endpoint sent ∷ [])) (job_space w j)
    (is_write_asked w j) (newly_mapped w j)) (sym succeeds)
    (all_mapped (job_space w j) (is_write_asked w j) (newly_mapped w j) (free_list w) x (w.job j).endpoint sent w
    (subst (λ n. length (newly_mapped w j) ≤ n) (sym (length_select w.config.frames (is_free w)))
    (ltb-false (free_frames w) (length (newly_mapped w j)) (other_fails (replies_success w j v) _ room succeeds))))
  where
    sent : LocalAct
    sent = LocalAct.Respond (w.job j).group SuccessCode

    pages : List Act
    pages = maps_to (job_space w j) (is_write_asked w j) (newly_mapped w j) (free_list w)

    succeeds : replies_success w j v ≡ true
    succeeds = ap is_success r

pub always_maps_asked : (rule : PasidRule) (config : Config) (steps : List Step) (x j : ℕ) (v : Verdict) (count : ℕ)
    → reply (world_after rule config steps) (step.Reply x v) ≡ Ok (answer.Success count) → (world_after rule config steps).hand x ≡ Some j
    → MapsWhatIsAsked (world_after rule config steps) (world_after rule config (steps ++ step.Reply x v ∷ [])) j
always_maps_asked rule config steps x j v count h hand =
    let w = world_after rule config steps in
    let s = step.Reply x v in
    let i = the (w.hand x) in
    let accept = accepted (refusals w s) (outcome w s) (answer.Success count) h in
    subst (λ z. MapsWhatIsAsked w (world_after rule config (steps ++ s ∷ [])) z) (ap the hand)
    (subst (λ z. MapsWhatIsAsked w z i) (sym (after_one rule config steps s ∙ ap (after_acts w) accept.2))
    (maps_asked w (after_acts w (outcome w s).acts) i (success_maps w x i v (response_to w i v) count refl accept.1 accept.0.1.1.1.0)))

-- What a reply is answered.

pub live_code : (b : Bool) (s : Stage) (v : Verdict) (code : Code) → response b s v ≡ Some code → (code ≡ SuccessCode) ⊎ (code ≡ FailureCode)
    → (b ≡ true) × (s ≡ Live) × (code_of_verdict v ≡ code)
live_code true Live v code h e = (refl, refl, cc)
live_code b s v code h e = absurd (grind arith)

pub success_of : (v : Verdict) → code_of_verdict v ≡ SuccessCode → v ≡ verdict_is.Success
success_of v h = grind arith

failure_of : (v : Verdict) → code_of_verdict v ≡ FailureCode → v ≡ verdict_is.Failure
failure_of v h = grind arith

invalid_of : (v : Verdict) → code_of_verdict v ≡ InvalidCode → v ≡ verdict_is.Invalid
invalid_of v h = grind arith

invalid_code : (b : Bool) (s : Stage) (v : Verdict) → response b s v ≡ Some InvalidCode
    → (b ≡ true) × (((s ≡ Live) × (v ≡ verdict_is.Invalid)) ⊎ (((m : Bool) × (s ≡ Stopping m)) ⊎ ((x : ℕ) × (s ≡ Draining x))))
invalid_code true Live v h = (refl, inl (refl, invalid_of v cc))
invalid_code true (Stopping m) v h = (refl, inr (inl (m, refl)))
invalid_code true (Draining x) v h = (refl, inr (inr (x, refl)))
invalid_code b s v h = absurd (grind arith)

no_code : (b : Bool) (s : Stage) (v : Verdict) → response b s v ≡ None → (b ≡ false) ⊎ (is_before_invalidating s ≡ false)
no_code false s v h = inl refl
no_code true Live v h = absurd (cc)
no_code true (Stopping m) v h = absurd (cc)
no_code true (Draining x) v h = absurd (cc)
no_code true s v h = inr refl

replies_by : (w : World) (x j : ℕ) (v : Verdict) (said : Answer) (o : Option Code) → response_to w j v ≡ o
    → (reply_outcome w x j (reply_maps w j v) o).answer ≡ said → RepliesBy w j v said
replies_by w x j v said None r a =
    record {
      success = λ n h. absurd (cc (a ∙ h));
      failure = λ h. absurd (cc (a ∙ h));
      invalid = λ h. absurd (cc (a ∙ h));
      dropped = λ h. elim (no_code (is_open (job_part w j).phase) (stage_of w j) v r) [ inl b ↦ inl (closed_is (job_part w j) b) | inr b ↦ inr b ];
      one_of_four = inr (inr (inr (sym a)));
    }
replies_by w x j v said (Some SuccessCode) r a =
    let y = live_code (is_open (job_part w j).phase) (stage_of w j) v SuccessCode r (inl refl) in
    record {
      success = λ n h. (open_is (job_part w j) y.0, y.1, success_of v y.2);
      failure = λ h. absurd (cc (a ∙ h));
      invalid = λ h. absurd (cc (a ∙ h));
      dropped = λ h. absurd (cc (a ∙ h));
      one_of_four = inl (length (reply_maps w j v), sym a);
    }
replies_by w x j v said (Some FailureCode) r a =
    let y = live_code (is_open (job_part w j).phase) (stage_of w j) v FailureCode r (inr refl) in
    record {
      success = λ n h. absurd (cc (a ∙ h));
      failure = λ h. (open_is (job_part w j) y.0, y.1, failure_of v y.2);
      invalid = λ h. absurd (cc (a ∙ h));
      dropped = λ h. absurd (cc (a ∙ h));
      one_of_four = inr (inl (sym a));
    }
replies_by w x j v said (Some InvalidCode) r a =
    let y = invalid_code (is_open (job_part w j).phase) (stage_of w j) v r in
    record {
      success = λ n h. absurd (cc (a ∙ h));
      failure = λ h. absurd (cc (a ∙ h));
      invalid = λ h. (open_is (job_part w j) y.0, y.1);
      dropped = λ h. absurd (cc (a ∙ h));
      one_of_four = inr (inr (inl (sym a)));
    }

pub always_replies_by : (rule : PasidRule) (config : Config) (steps : List Step) (x j : ℕ) (v : Verdict) (said : Answer)
    → reply (world_after rule config steps) (step.Reply x v) ≡ Ok said → (world_after rule config steps).hand x ≡ Some j
    → RepliesBy (world_after rule config steps) j v said
always_replies_by rule config steps x j v said h hand =
    let w = world_after rule config steps in
    let i = the (w.hand x) in
    let accept = accepted (refusals w (step.Reply x v)) (outcome w (step.Reply x v)) said h in
    subst (λ z. RepliesBy w z v said) (ap the hand) (replies_by w x i v said (response_to w i v) refl accept.1)
