-- Messages in flight in two hosts, the same at each endpoint under whatever numbers: more of them in both; and without
-- one that has the same place in both, which is the same message, and held back in both or in neither.
use Rattle.std.proofs.Common.{◌≡◌, refl, ap, ap₂, sym, subst, ◌∙◌, ℕ, Bool, true, false, arith}
use Rattle.std.specs.Prelude.{◌==◌, if◌then◌else◌, Option, Some, None, List, [], ◌∷◌, ◌++◌, length}
use Rattle.std.specs.List.{list_any}
use Rattle.std.proofs.lemmas.Bool.{eqb-true}
use Rattle.sva_labels.proofs.Tests.{is_itself}
use Rattle.sva_model.specs.Wire.{FlightWire}
use Rattle.sva_labels.specs.Finding.{holds_back}
use Rattle.sva_renumbering.specs.InFlight.{FlightPlace, messages_of, place_among}
use Rattle.sva_renumbering.specs.Alike.{Rise}
use Rattle.sva_renumbering.proofs.Rising.{left, rise_left, rise_both, left_of}
use Rattle.sva_renumbering.proofs.Splits.{IsSplit, messages_both, stays_after, held_by_older}

-- Lists that are the same, and are parted after as many.

abbrev first_or : {A : Type 0} → A → List A → A
first_or a [] = a
first_or a (x ∷ xs) = x

abbrev rest_of : {A : Type 0} → List A → List A
rest_of [] = []
rest_of (x ∷ xs) = xs

pub record AreParts {A : Type 0} (xs us : List A) (y v : A) (ys vs : List A) : Type 0 where
  pub front : xs ≡ us
  pub here : y ≡ v
  pub back : ys ≡ vs

pub same_parts : {A : Type 0} (xs us : List A) (y v : A) (ys vs : List A) → length xs ≡ length us → xs ++ y ∷ ys ≡ us ++ v ∷ vs → AreParts xs us y v ys vs
same_parts [] [] y v ys vs l h = record { front = refl; here = ap (first_or y) h; back = ap rest_of h }
same_parts [] (u ∷ us) y v ys vs l h = absurd (omega (arith, l))
same_parts (x ∷ xs) [] y v ys vs l h = absurd (omega (arith, l))
same_parts (x ∷ xs) (u ∷ us) y v ys vs l h =
    let rest = same_parts xs us y v ys vs (omega (arith, l)) (ap rest_of h) in
    record { front = ap₂ (λ z zs. z ∷ zs) (ap (first_or x) h) rest.front; here = rest.here; back = rest.back }

-- The messages in flight in both.

pub record Both (n : ℕ) (fs gs : List FlightWire) : Type 0 where
  pub same : (e : ℕ) → messages_of e fs ≡ messages_of e gs
  pub one : Rise 0 fs n
  pub two : Rise 0 gs n

pub both_more : (n m : ℕ) (fs gs hs : List FlightWire) → Both n fs gs → Rise n hs m → Both m (fs ++ hs) (gs ++ hs)
both_more n m fs gs hs b h =
    record {
      same = λ e. messages_both e fs hs ∙ ap (λ ms. ms ++ messages_of e hs) (b.same e) ∙ sym (messages_both e gs hs);
      one = rise_both 0 n m fs hs b.one h;
      two = rise_both 0 n m gs hs b.two h;
    }

-- A message that has the same place in both.

abbrev endpoint_in : Option FlightPlace → ℕ
endpoint_in None = 0
endpoint_in (Some p) = p.endpoint

abbrev older_in : Option FlightPlace → ℕ
older_in None = 0
older_in (Some p) = p.older

pub record AreTwins {fs gs : List FlightWire} {a b : ℕ} (s : IsSplit fs a) (t : IsSplit gs b) : Type 0 where
  pub endpoint : s.flight.endpoint ≡ t.flight.endpoint
  pub older : length (messages_of s.flight.endpoint s.before) ≡ length (messages_of t.flight.endpoint t.before)

pub are_twins : (fs gs : List FlightWire) (a b : ℕ) (s : IsSplit fs a) (t : IsSplit gs b) → place_among fs a ≡ place_among gs b → AreTwins s t
are_twins fs gs a b s t p = record { endpoint = ap endpoint_in same; older = ap older_in same }
  where
    same :
        ◌≡◌ {A = Option FlightPlace} (Some (record { endpoint = s.flight.endpoint; older = length (messages_of s.flight.endpoint s.before) }))
        (Some (record { endpoint = t.flight.endpoint; older = length (messages_of t.flight.endpoint t.before) }))
    same = sym s.place ∙ p ∙ t.place

-- what is in flight at an endpoint, by the parts before and behind the message
by_parts : (fs : List FlightWire) (a e : ℕ) (s : IsSplit fs a) (b : Bool) → (s.flight.endpoint == e) ≡ b
    → messages_of e fs
    ≡ messages_of e s.before ++ (if b then s.flight.message ∷ messages_of e s.after else messages_of e s.after)
by_parts fs a e s b h =
    ap (messages_of e) (sym s.whole)
    ∙ messages_both e s.before (s.flight ∷ s.after)
    ∙ ap (λ c. messages_of e s.before ++ (if c then s.flight.message ∷ messages_of e s.after else messages_of e s.after)) h

pub parts_there :
    (n : ℕ) (fs gs : List FlightWire) (a b e : ℕ) (s : IsSplit fs a) (t : IsSplit gs b) → Both n fs gs → AreTwins s t
    → (s.flight.endpoint == e) ≡ true
    → AreParts (messages_of e s.before) (messages_of e t.before) s.flight.message t.flight.message (messages_of e s.after) (messages_of e t.after)
parts_there n fs gs a b e s t both twins h =
    same_parts (messages_of e s.before) (messages_of e t.before) s.flight.message t.flight.message (messages_of e s.after) (messages_of e t.after) as_many
    (sym (by_parts fs a e s true h) ∙ both.same e ∙ by_parts gs b e t true (ap (λ z. z == e) (sym twins.endpoint) ∙ h))
  where
    here : s.flight.endpoint ≡ e
    here = eqb-true s.flight.endpoint e h

    as_many : length (messages_of e s.before) ≡ length (messages_of e t.before)
    as_many =
        ap (λ z. length (messages_of z s.before)) (sym here)
        ∙ twins.older
        ∙ ap (λ z. length (messages_of z t.before)) (sym twins.endpoint ∙ here)

-- it is the same message
pub same_message : (n : ℕ) (fs gs : List FlightWire) (a b : ℕ) (s : IsSplit fs a) (t : IsSplit gs b) → Both n fs gs → AreTwins s t
    → s.flight.message ≡ t.flight.message
same_message n fs gs a b s t both twins = (parts_there n fs gs a b s.flight.endpoint s t both twins (is_itself s.flight.endpoint)).here

-- it is held back in both or in neither
held_there : (n : ℕ) (fs : List FlightWire) (a : ℕ) (s : IsSplit fs a) → Rise 0 fs n
    → list_any (holds_back s.flight) fs ≡ list_any (stays_after s.flight.message) (messages_of s.flight.endpoint s.before)
held_there n fs a s h =
    ap (list_any (holds_back s.flight)) (sym s.whole)
    ∙ held_by_older 0 n s.before s.flight s.after (subst (λ z. Rise 0 z n) (sym s.whole) h)

pub held_alike : (n : ℕ) (fs gs : List FlightWire) (a b : ℕ) (s : IsSplit fs a) (t : IsSplit gs b) → Both n fs gs → AreTwins s t
    → list_any (holds_back s.flight) fs ≡ list_any (holds_back t.flight) gs
held_alike n fs gs a b s t both twins =
    held_there n fs a s both.one
    ∙ ap₂ (λ m ms. list_any (stays_after m) ms) parts.here (parts.front ∙ ap (λ z. messages_of z t.before) twins.endpoint)
    ∙ sym (held_there n gs b t both.two)
  where
    parts :
        AreParts (messages_of s.flight.endpoint s.before) (messages_of s.flight.endpoint t.before) s.flight.message t.flight.message
        (messages_of s.flight.endpoint s.after)
        (messages_of s.flight.endpoint t.after)
    parts = parts_there n fs gs a b s.flight.endpoint s t both twins (is_itself s.flight.endpoint)

-- what is left without it

pub left_parts : (n : ℕ) (fs : List FlightWire) (a : ℕ) (s : IsSplit fs a) → Rise 0 fs n → left a fs ≡ s.before ++ s.after
left_parts n fs a s h =
    ap₂ left (sym s.number) (sym s.whole) ∙ left_of 0 n s.before s.flight s.after (subst (λ z. Rise 0 z n) (sym s.whole) h)

left_there : (n : ℕ) (fs : List FlightWire) (a e : ℕ) (s : IsSplit fs a) → Rise 0 fs n
    → messages_of e (left a fs) ≡ messages_of e s.before ++ messages_of e s.after
left_there n fs a e s h = ap (messages_of e) (left_parts n fs a s h) ∙ messages_both e s.before s.after

pub both_left : (n : ℕ) (fs gs : List FlightWire) (a b : ℕ) (s : IsSplit fs a) (t : IsSplit gs b) → Both n fs gs → AreTwins s t → Both n (left a fs) (left b gs)
both_left n fs gs a b s t both twins =
    record {
      same = λ e. left_there n fs a e s both.one ∙ go e (s.flight.endpoint == e) refl ∙ sym (left_there n gs b e t both.two);
      one = rise_left a 0 n fs both.one;
      two = rise_left b 0 n gs both.two;
    }
  where
    go : (e : ℕ) (c : Bool) → (s.flight.endpoint == e) ≡ c → messages_of e s.before ++ messages_of e s.after ≡ messages_of e t.before ++ messages_of e t.after
    go e true h =
        let parts = parts_there n fs gs a b e s t both twins h in
        ap₂ (λ xs ys. xs ++ ys) parts.front parts.back
    go e false h = sym (by_parts fs a e s false h) ∙ both.same e ∙ by_parts gs b e t false (ap (λ z. z == e) (sym twins.endpoint) ∙ h)
