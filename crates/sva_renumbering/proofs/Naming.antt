-- Places of numbers among messages in flight: once more are in flight behind them, and once one has left.
use Rattle.std.proofs.Common.{◌≡◌, ◌⊎◌, inl, inr, refl, ap, ap₂, sym, subst, ◌∙◌, ℕ, suc, ◌+◌, ◌-◌, ◌<◌, ◌≤◌, Bool, true, false, arith}
use Rattle.std.specs.Prelude.{◌==◌, nat_lt, if◌then◌else◌, Option, Some, None, List, [], ◌∷◌, ◌++◌, length}
use Rattle.std.proofs.lemmas.Bool.{eqb-true, ltb-true, cases_lt}
use Rattle.std.proofs.lemmas.Bool.Decides.{nat_tests}
use Rattle.sva_labels.proofs.Tests.{is_itself, turned, lower_differs}
use Rattle.sva_model.specs.Wire.{FlightWire}
use Rattle.sva_renumbering.specs.InFlight.{FlightPlace, messages_of, behind, place_among}
use Rattle.sva_renumbering.specs.Alike.{Rise}
use Rattle.sva_renumbering.proofs.Rising.{left, at, rise_ends, absent_low}
use Rattle.sva_renumbering.proofs.Splits.{IsSplit, counted}
use Rattle.sva_renumbering.proofs.Leaving.{Both, left_parts}

-- More behind them.

-- the places of those in front stay
place_in_front : (fs gs : List FlightWire) (a : ℕ) → place_among gs a ≡ None → place_among (fs ++ gs) a ≡ place_among fs a
place_in_front [] gs a h = h
place_in_front (f ∷ fs) gs a h = ap (at (f.number == a) f) (place_in_front fs gs a h)

-- a place behind all of these
abbrev past : List FlightWire → Option FlightPlace → Option FlightPlace
past [] o = o
past (f ∷ fs) o = behind f.endpoint (past fs o)

place_behind : (l n : ℕ) (fs gs : List FlightWire) (a : ℕ) → Rise l fs n → n ≤ a → place_among (fs ++ gs) a ≡ past fs (place_among gs a)
place_behind l n [] gs a h k = refl
place_behind l n (f ∷ fs) gs a h k =
    ap (λ b. at b f (place_among (fs ++ gs) a)) (lower_differs f.number a higher) ∙ ap (behind f.endpoint) (place_behind (suc f.number) n fs gs a h.1 k)
  where
    higher : f.number < a
    higher = let end = rise_ends (suc f.number) n fs h.1 in omega (arith, end, k)

-- it counts those of its endpoint
past_none : (fs : List FlightWire) → past fs None ≡ None
past_none [] = refl
past_none (f ∷ fs) = ap (behind f.endpoint) (past_none fs)

past_some : (fs : List FlightWire) (p : FlightPlace)
    → past fs (Some p) ≡ Some (record { endpoint = p.endpoint; older = length (messages_of p.endpoint fs) + p.older })
past_some [] p = ap (λ k. Some (record { endpoint = p.endpoint; older = k })) none
  where
    none : p.older ≡ 0 + p.older
    none = omega arith
past_some (f ∷ fs) p =
    ap (behind f.endpoint) (past_some fs p) ∙ ap (λ k. Some (record { endpoint = p.endpoint; older = k })) (go (f.endpoint == p.endpoint))
  where
    go : (b : Bool) → (if b then suc (length (messages_of p.endpoint fs) + p.older) else length (messages_of p.endpoint fs) + p.older)
        ≡ length (if b then f.message ∷ messages_of p.endpoint fs else messages_of p.endpoint fs) + p.older
    go true = omega arith
    go false = refl

past_alike : (fs gs : List FlightWire) (o : Option FlightPlace) → ((e : ℕ) → messages_of e fs ≡ messages_of e gs) → past fs o ≡ past gs o
past_alike fs gs None h = past_none fs ∙ sym (past_none gs)
past_alike fs gs (Some p) h =
    past_some fs p
    ∙ ap (λ ms. Some (record { endpoint = p.endpoint; older = length ms + p.older })) (h p.endpoint)
    ∙ sym (past_some gs p)

-- Once one has left.

-- a place with one message fewer before it; none where it was that message's own
abbrev lower : (is_own is_behind : Bool) → FlightPlace → Option FlightPlace
lower true is_behind p = None
lower false true p = Some (record p { older = p.older - 1 })
lower false false p = Some p

-- a place once the message of another place, or its own, has left
abbrev without : (gone : FlightPlace) → Option FlightPlace → Option FlightPlace
without g None = None
without g (Some p) = if g.endpoint == p.endpoint then lower (g.older == p.older) (nat_lt g.older p.older) p else Some p

-- the place behind one more message
abbrev raised : (endpoint : ℕ) → FlightPlace → FlightPlace
raised e g = record g { older = if e == g.endpoint then suc g.older else g.older }

lower_behind : (e : ℕ) (g p : FlightPlace) (b : Bool) → (e == p.endpoint) ≡ b
    → behind e (lower (g.older == p.older) (nat_lt g.older p.older) p)
    ≡ lower ((if b then suc g.older else g.older) == (if b then suc p.older else p.older))
    (nat_lt (if b then suc g.older else g.older) (if b then suc p.older else p.older))
    (record p { older = if b then suc p.older else p.older })
lower_behind e g p true h =
    go (g.older == p.older) (nat_lt g.older p.older) refl
    ∙ ap₂ (λ b c. lower b c (record p { older = suc p.older })) (same_next g.older p.older) (less_next g.older p.older)
  where
    same_next : (a b : ℕ) → (a == b) ≡ (suc a == suc b)
    same_next a b = grind (arith, nat_tests)

    less_next : (a b : ℕ) → nat_lt a b ≡ nat_lt (suc a) (suc b)
    less_next a b = grind (arith, nat_tests)

    up_and_down : (a b : ℕ) → a < b → suc (b - 1) ≡ suc b - 1
    up_and_down a b l = omega (arith, l)

    go : (b c : Bool) → nat_lt g.older p.older ≡ c → behind e (lower b c p) ≡ lower b c (record p { older = suc p.older })
    go true c k = refl
    go false true k =
        ap (λ z. Some (record p { older = if z then suc (p.older - 1) else p.older - 1 })) h
        ∙ ap (λ z. Some (record p { older = z })) (up_and_down g.older p.older (ltb-true g.older p.older k))
    go false false k = ap (λ z. Some (record p { older = if z then suc p.older else p.older })) h
lower_behind e g p false h = go (g.older == p.older) (nat_lt g.older p.older)
  where
    go : (b c : Bool) → behind e (lower b c p) ≡ lower b c p
    go true c = refl
    go false true = ap (λ z. Some (record p { older = if z then suc (p.older - 1) else p.older - 1 })) h
    go false false = ap (λ z. Some (record p { older = if z then suc p.older else p.older })) h

without_behind : (e : ℕ) (g : FlightPlace) (o : Option FlightPlace) → behind e (without g o) ≡ without (raised e g) (behind e o)
without_behind e g None = refl
without_behind e g (Some p) = go (g.endpoint == p.endpoint) refl
  where
    go : (b : Bool) → (g.endpoint == p.endpoint) ≡ b
        → behind e (if b then lower (g.older == p.older) (nat_lt g.older p.older) p else Some p)
        ≡ (if b
        then lower ((if e == g.endpoint then suc g.older else g.older) == (if e == p.endpoint then suc p.older else p.older))
        (nat_lt (if e == g.endpoint then suc g.older else g.older) (if e == p.endpoint then suc p.older else p.older))
        (record p { older = if e == p.endpoint then suc p.older else p.older })
        else Some (record p { older = if e == p.endpoint then suc p.older else p.older }))
    go false h = refl
    go true h =
        lower_behind e g p (e == p.endpoint) refl
        ∙ ap
        (λ k. lower (k == (if e == p.endpoint then suc p.older else p.older)) (nat_lt k (if e == p.endpoint then suc p.older else p.older))
        (record p { older = if e == p.endpoint then suc p.older else p.older }))
        (ap (λ z. if e == z then suc g.older else g.older) (sym (eqb-true g.endpoint p.endpoint h)))

-- the first place is lower than the one behind it
first_stays : (e : ℕ) (g : FlightPlace) → Some (record { endpoint = e; older = 0 }) ≡ without (raised e g) (Some (record { endpoint = e; older = 0 }))
first_stays e g = go (g.endpoint == e) (e == g.endpoint) (turned g.endpoint e)
  where
    not_first : (k : ℕ) → (suc k == 0) ≡ false
    not_first k = grind (arith, nat_tests)

    not_below : (k : ℕ) → nat_lt (suc k) 0 ≡ false
    not_below k = grind (arith, nat_tests)

    go : (b c : Bool) → b ≡ c
        → ◌≡◌ {A = Option FlightPlace} (Some (record { endpoint = e; older = 0 }))
        (if b
        then lower ((if c then suc g.older else g.older) == 0) (nat_lt (if c then suc g.older else g.older) 0) (record { endpoint = e; older = 0 })
        else Some (record { endpoint = e; older = 0 }))
    go false c h = refl
    go true false h = absurd (cc (h))
    go true true h = sym (ap₂ (λ x y. lower x y (record { endpoint = e; older = 0 })) (not_first g.older) (not_below g.older))

place_without :
    (l n : ℕ) (xs : List FlightWire) (f : FlightWire) (ys : List FlightWire) (c : ℕ) → Rise l (xs ++ f ∷ ys) n
    → place_among (xs ++ ys) c
    ≡ without (record { endpoint = f.endpoint; older = length (messages_of f.endpoint xs) }) (place_among (xs ++ f ∷ ys) c)
place_without l n [] f ys c h = go (f.number == c) refl
  where
    its : FlightPlace
    its = record { endpoint = f.endpoint; older = 0 }

    none_there : f.number ≡ c → place_among ys c ≡ None
    none_there e = absent_low c (suc f.number) n ys h.1 (omega (arith, e))

    first_later : (k : ℕ) → (0 == suc k) ≡ false
    first_later k = grind (arith, nat_tests)

    below_later : (k : ℕ) → nat_lt 0 (suc k) ≡ true
    below_later k = grind (arith, nat_tests)

    down_again : (k : ℕ) → k ≡ suc k - 1
    down_again k = omega arith

    by_endpoint : (p : FlightPlace) (b : Bool) → Some p
        ≡ (if b
        then lower (0 == (if b then suc p.older else p.older)) (nat_lt 0 (if b then suc p.older else p.older))
        (record p { older = if b then suc p.older else p.older })
        else Some (record p { older = if b then suc p.older else p.older }))
    by_endpoint p true =
        ap (λ k. Some (record p { older = k })) (down_again p.older)
        ∙ sym (ap₂ (λ x y. lower x y (record p { older = suc p.older })) (first_later p.older) (below_later p.older))
    by_endpoint p false = refl

    passed : (o : Option FlightPlace) → o ≡ without (record { endpoint = f.endpoint; older = 0 }) (behind f.endpoint o)
    passed None = refl
    passed (Some p) = by_endpoint p (f.endpoint == p.endpoint)

    go : (b : Bool) → (f.number == c) ≡ b
        → place_among ys c ≡ without (record { endpoint = f.endpoint; older = 0 }) (at b f (place_among ys c))
    go true e =
        none_there (eqb-true f.number c e) ∙ sym (ap (λ z. if z then lower (0 == 0) (nat_lt 0 0) its else Some its) (is_itself f.endpoint))
    go false e = passed (place_among ys c)
place_without l n (x ∷ xs) f ys c h =
    ap (at (x.number == c) x) (place_without (suc x.number) n xs f ys c h.1)
    ∙ go (x.number == c) (place_among (xs ++ f ∷ ys) c)
    ∙ ap (λ g. without g (at (x.number == c) x (place_among (xs ++ f ∷ ys) c)))
    (counted (x.endpoint == f.endpoint) f.endpoint x.message (messages_of f.endpoint xs))
  where
    its : FlightPlace
    its = record { endpoint = f.endpoint; older = length (messages_of f.endpoint xs) }

    go : (b : Bool) (o : Option FlightPlace) → at b x (without its o) ≡ without (raised x.endpoint its) (at b x o)
    go true o = first_stays x.endpoint its
    go false o = without_behind x.endpoint its o

-- where the number itself is in flight
abbrev gone : Option FlightPlace → Option FlightPlace → Option FlightPlace
gone None o = o
gone (Some g) o = without g o

place_left : (n : ℕ) (fs : List FlightWire) (a c : ℕ) → IsSplit fs a → Rise 0 fs n → place_among (left a fs) c ≡ gone (place_among fs a) (place_among fs c)
place_left n fs a c s h =
    ap (λ z. place_among z c) (left_parts n fs a s h)
    ∙ place_without 0 n s.before s.flight s.after c (subst (λ z. Rise 0 z n) (sym s.whole) h)
    ∙ ap (λ z. without (record { endpoint = s.flight.endpoint; older = length (messages_of s.flight.endpoint s.before) }) (place_among z c)) s.whole
    ∙ ap (λ z. gone z (place_among fs c)) (sym s.place)

-- Numbers of two hosts that name the same message, or none.

pub record AreNamed (n : ℕ) (fs gs : List FlightWire) (a b : ℕ) : Type 0 where
  pub place : place_among fs a ≡ place_among gs b
  pub lasting : (a ≡ b) ⊎ ((a < n) × (b < n))

pub named_more :
    (n m : ℕ) (fs gs hs : List FlightWire) (a b : ℕ) → Both n fs gs → Rise n hs m → AreNamed n fs gs a b → AreNamed m (fs ++ hs) (gs ++ hs) a b
named_more n m fs gs hs a b both h named = go named.lasting
  where
    end : n ≤ m
    end = rise_ends n m hs h

    old : a < n → b < n → place_among (fs ++ hs) a ≡ place_among (gs ++ hs) b
    old l k =
        place_in_front fs hs a (absent_low a n m hs h l) ∙ named.place ∙ sym (place_in_front gs hs b (absent_low b n m hs h k))

    new : n ≤ a → place_among (fs ++ hs) a ≡ place_among (gs ++ hs) a
    new l =
        place_behind 0 n fs hs a both.one l ∙ past_alike fs gs (place_among hs a) both.same ∙ sym (place_behind 0 n gs hs a both.two l)

    either : a ≡ b → (a < n) ⊎ (n ≤ a) → place_among (fs ++ hs) a ≡ place_among (gs ++ hs) b
    either e (inl l) = old l (subst (λ z. z < n) e l)
    either e (inr l) = new l ∙ ap (place_among (gs ++ hs)) e

    both_below : (a < n) × (b < n) → (a < m) × (b < m)
    both_below l = (below a l.0, below b l.1)
      where
        below : (z : ℕ) → z < n → z < m
        below z k = omega (arith, k, end)

    go : (a ≡ b) ⊎ ((a < n) × (b < n)) → AreNamed m (fs ++ hs) (gs ++ hs) a b
    go (inl e) = record { place = either e (cases_lt a n); lasting = inl e }
    go (inr l) = record { place = old l.0 l.1; lasting = inr (both_below l) }

pub named_left :
    (n : ℕ) (fs gs : List FlightWire) (a b c d : ℕ) → IsSplit fs a → IsSplit gs b → Both n fs gs → place_among fs a ≡ place_among gs b
    → AreNamed n fs gs c d
    → AreNamed n (left a fs) (left b gs) c d
named_left n fs gs a b c d s t both p named =
    record {
      place = place_left n fs a c s both.one ∙ ap₂ gone p named.place ∙ sym (place_left n gs b d t both.two);
      lasting = named.lasting;
    }
