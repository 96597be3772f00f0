-- The pages that are asked for and aren't mapped, each once.
use Rattle.std.proofs.Common.{◌≡◌, ℕ, ◌+◌, ◌<◌, ◌≤◌, ◌==◌, Bool, true, false, List, Some, None, [], ◌∷◌, ◌++◌, length, get_or, take, refl, sym, ap, ◌∙◌}
use Rattle.std.proofs.Common.{arith, if◌then◌else◌}
use Rattle.std.specs.Prelude.{◌||◌, map, is_some}
use Rattle.std.specs.List.{list_any}
use Rattle.std.proofs.lemmas.Bool.Decides.{nat_tests}
use Rattle.std.proofs.lemmas.List.{length-map, append-nil, take_all, take_more}
use Rattle.sva_model.specs.Replies.{unseen}
use Rattle.sva_model.specs.Wire.{PageWire, AskWire, insert_by, is_lower_page}
use Rattle.sva_labels.specs.Finding.{page_at, is_mapped}
use Rattle.sva_prq.specs.declared.jobs.Ask.{Ask}
use Rattle.sva_address_spaces.specs.Asked.{asks_seen}
use Rattle.sva_prq.specs.Job.{ask_seen}
use Rattle.sva_labels.specs.Replying.{new_among}

pub flipped : (a b : ℕ) → (a == b) ≡ (b == a)
flipped a b = grind (arith, nat_tests)

-- No page of a list is seen, and none stands there twice.

abbrev pub AreNew : (ℕ → Bool) → List ℕ → Type 0
AreNew seen [] = Unit {0}
AreNew seen (q ∷ qs) = (seen q ≡ false) × AreNew (λ x. x == q || seen x) qs

pub unseen_new : (seen : ℕ → Bool) (qs : List ℕ) → AreNew seen (unseen seen qs)
unseen_new seen [] = tt
unseen_new seen (q ∷ qs) = go (unseen_new seen qs) (unseen_new (λ x. x == q || seen x) qs) (seen q) refl
  where
    go :
        AreNew seen (unseen seen qs) → AreNew (λ x. x == q || seen x) (unseen (λ x. x == q || seen x) qs) → (b : Bool) → seen q ≡ b
        → AreNew seen (if b then unseen seen qs else q ∷ unseen (λ x. x == q || seen x) qs)
    go here there true is = here
    go here there false is = (is, there)

-- which are seen decides, and not how
pub same_new : (seen other : ℕ → Bool) (qs : List ℕ) → ((x : ℕ) → seen x ≡ other x) → AreNew seen qs → AreNew other qs
same_new seen other [] same new = tt
same_new seen other (q ∷ qs) same new = (
  sym (same q) ∙ new.0,
  same_new (λ x. x == q || seen x) (λ x. x == q || other x) qs (λ x. ap (λ b. x == q || b) (same x)) new.1,
)

-- They are listed one after another.

pub unseen_more : (seen : ℕ → Bool) (qs : List ℕ) (p : ℕ)
    → unseen seen (qs ++ p ∷ []) ≡ unseen seen qs ++ (if seen p || list_any (λ q. q == p) (unseen seen qs) then [] else p ∷ [])
unseen_more seen [] p = go (seen p)
  where
    go : (b : Bool) → (if b then [] else p ∷ []) ≡ (if b || false then [] else p ∷ [])
    go true = refl
    go false = refl
unseen_more seen (q ∷ qs) p = go (seen q) (unseen_more seen qs p) (unseen_more (λ x. x == q || seen x) qs p)
  where
    same : (a b c m : Bool) → b ≡ c → ((b || a) || m) ≡ (a || (c || m))
    same true true c m e = refl
    same true false c m e = refl
    same false true c m e = ap (λ d. d || m) e
    same false false c m e = ap (λ d. d || m) e

    go :
        (b : Bool)
        → unseen seen (qs ++ p ∷ []) ≡ unseen seen qs ++ (if seen p || list_any (λ r. r == p) (unseen seen qs) then [] else p ∷ [])
        → unseen (λ x. x == q || seen x) (qs ++ p ∷ [])
        ≡ unseen (λ x. x == q || seen x) qs
        ++ (if (p == q || seen p) || list_any (λ r. r == p) (unseen (λ x. x == q || seen x) qs) then [] else p ∷ [])
        → (if b then unseen seen (qs ++ p ∷ []) else q ∷ unseen (λ x. x == q || seen x) (qs ++ p ∷ []))
        ≡ (if b then unseen seen qs else q ∷ unseen (λ x. x == q || seen x) qs)
        ++ (if seen p || list_any (λ r. r == p) (if b then unseen seen qs else q ∷ unseen (λ x. x == q || seen x) qs) then [] else p ∷ [])
    go true here there = here
    go false here there =
        ap (λ rs. q ∷ rs) there
        ∙ ap (λ b. q ∷ unseen (λ x. x == q || seen x) qs ++ (if b then [] else p ∷ []))
        (same (seen p) (p == q) (q == p) (list_any (λ r. r == p) (unseen (λ x. x == q || seen x) qs)) (flipped p q))

pub unseen_few : (seen : ℕ → Bool) (qs : List ℕ) → length (unseen seen qs) ≤ length qs
unseen_few seen [] = omega arith
unseen_few seen (q ∷ qs) = go (seen q) (unseen_few seen qs) (unseen_few (λ x. x == q || seen x) qs)
  where
    go :
        (b : Bool) → length (unseen seen qs) ≤ length qs → length (unseen (λ x. x == q || seen x) qs) ≤ length qs
        → length (if b then unseen seen qs else q ∷ unseen (λ x. x == q || seen x) qs) ≤ length (q ∷ qs)
    go true here there = omega (arith, here)
    go false here there = omega (arith, there)

-- A page more is mapped.

abbrev pub page_of : (page frame : ℕ) (write : Bool) → PageWire
page_of q f x = record { page = q; frame = f; write = x }

pub mapped_more : (q f : ℕ) (x : Bool) (ps : List PageWire) (y : ℕ) → is_mapped (insert_by is_lower_page (page_of q f x) ps) y ≡ (y == q || is_mapped ps y)
mapped_more q f x [] y = go (q == y) (y == q) (flipped q y)
  where
    go : (a b : Bool) → a ≡ b → is_some (if a then Some (page_of q f x) else None) ≡ (b || false)
    go true true e = refl
    go false false e = refl
    go true false e = absurd (cc (e))
    go false true e = absurd (cc (e))
mapped_more q f x (p ∷ ps) y = go (mapped_more q f x ps y) (is_lower_page p (page_of q f x))
  where
    behind :
        (a c : Bool) → is_mapped (insert_by is_lower_page (page_of q f x) ps) y ≡ (c || is_mapped ps y)
        → is_some (if a then Some p else page_at (insert_by is_lower_page (page_of q f x) ps) y) ≡ (c || is_some (if a then Some p else page_at ps y))
    behind true true rest = refl
    behind true false rest = refl
    behind false c rest = rest

    before : (a b c : Bool) → b ≡ c
        → is_some (if b then Some (page_of q f x) else (if a then Some p else page_at ps y)) ≡ (c || is_some (if a then Some p else page_at ps y))
    before a true true e = refl
    before a false false e = refl
    before a true false e = absurd (cc (e))
    before a false true e = absurd (cc (e))

    go :
        is_mapped (insert_by is_lower_page (page_of q f x) ps) y ≡ (y == q || is_mapped ps y) → (l : Bool)
        → is_some (page_at (if l then p ∷ insert_by is_lower_page (page_of q f x) ps else page_of q f x ∷ p ∷ ps) y) ≡ (y == q || is_mapped (p ∷ ps) y)
    go rest true = behind (p.page == y) (y == q) rest
    go rest false = before (p.page == y) (q == y) (y == q) (flipped q y)

-- What the requests of a job ask for, one after another.

asks_more : (asks : List Ask) (ask : Ask)
    → map (λ (a : AskWire). a.page) (asks_seen (asks ++ ask ∷ [])) ≡ map (λ (a : AskWire). a.page) (asks_seen asks) ++ ask.page ∷ []
asks_more [] ask = refl
asks_more (a ∷ asks) ask = ap (λ qs. a.page ∷ qs) (asks_more asks ask)

pub new_more : (ps : List PageWire) (asks : List Ask) (ask : Ask)
    → new_among ps (asks_seen (asks ++ ask ∷ []))
    ≡ new_among ps (asks_seen asks) ++ (if is_mapped ps ask.page || list_any (λ q. q == ask.page) (new_among ps (asks_seen asks)) then [] else ask.page ∷ [])
new_more ps asks ask =
    ap (unseen (is_mapped ps)) (asks_more asks ask) ∙ unseen_more (is_mapped ps) (map (λ (a : AskWire). a.page) (asks_seen asks)) ask.page

pub new_few : (ps : List PageWire) (asks : List Ask) → length (new_among ps (asks_seen asks)) ≤ length asks
new_few ps asks =
    let few = unseen_few (is_mapped ps) (map (λ (a : AskWire). a.page) (asks_seen asks)) in
    let same : length (map (λ (a : AskWire). a.page) (asks_seen asks)) ≡ length asks = length-map (asks_seen asks) (λ (a : AskWire). a.page)
    ∙ length-map asks ask_seen in
    omega (arith, few, same)

pub any_seen : (test : AskWire → Bool) (asks : List Ask) → list_any test (asks_seen asks) ≡ list_any (λ a. test (ask_seen a)) asks
any_seen test [] = refl
any_seen test (ask ∷ asks) = ap (λ b. test (ask_seen ask) || b) (any_seen test asks)

-- the list after one request more
pub listed_more : (ps : List PageWire) (asks : List Ask) (i : ℕ) (d : Ask) (listed listed_after : List ℕ) (b : Bool) → i < length asks
    → listed ≡ new_among ps (asks_seen (take i asks))
    → b ≡ (is_mapped ps (get_or asks i d).page || list_any (λ q. q == (get_or asks i d).page) listed)
    → listed_after ≡ (if b then listed else listed ++ (get_or asks i d).page ∷ [])
    → listed_after ≡ new_among ps (asks_seen (take (i + 1) asks))
listed_more ps asks i d listed listed_after b within is known after =
    after ∙ ap (λ c. if c then listed else listed ++ ask.page ∷ []) known ∙ joined (is_mapped ps ask.page || list_any (λ q. q == ask.page) listed)
    ∙ ap (λ qs. qs ++ (if is_mapped ps ask.page || list_any (λ q. q == ask.page) qs then [] else ask.page ∷ [])) is
    ∙ sym (ap (λ (some : List Ask). new_among ps (asks_seen some)) (take_more asks i d within) ∙ new_more ps (take i asks) ask)
  where
    ask : Ask
    ask = get_or asks i d

    joined : (c : Bool) → (if c then listed else listed ++ ask.page ∷ []) ≡ listed ++ (if c then [] else ask.page ∷ [])
    joined true = sym (append-nil listed)
    joined false = refl

pub all_listed : (ps : List PageWire) (asks : List Ask) (i : ℕ) (listed : List ℕ) → length asks ≤ i → listed ≡ new_among ps (asks_seen (take i asks))
    → listed ≡ new_among ps (asks_seen asks)
all_listed ps asks i listed end is = is ∙ ap (λ (some : List Ask). new_among ps (asks_seen some)) (take_all i asks end)
