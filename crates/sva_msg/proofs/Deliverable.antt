-- The code's test of all older messages is the definition, which looks them up by their numbers.
use Rattle.std.proofs.Common.{◌≡◌, ◌↔◌, ℕ, ◌+◌, ◌<◌, ◌≤◌, Bool, true, false, not, cond, ◌&&◌, ◌||◌, nat_eq, nat_lt}
use Rattle.std.proofs.Common.{IsTrue, List, [], ◌∷◌, zero, suc, Some, refl, ap, sym, ◌∙◌}
use Rattle.std.proofs.Common.{arith}
use Rattle.std.proofs.lemmas.Bool.Decides.{nat_tests}
use Rattle.std.specs.Prelude.{take}
use Rattle.std.specs.List.{list_any}
use Rattle.std.specs.Map.{lookup}
use Rattle.sva_model.specs.LinkOrder.{MessageKind, StartKind, StopKind, ResetKind, CompletionKind, InvalidateKind, ResponseKind, RequestKind, InvalidatedKind}
use Rattle.sva_model.specs.LinkOrder.{PageRequestKind, MarkerKind, ResetDoneKind, stays_behind}
use Rattle.sva_msg.specs.Kind.{kind_of, is_ordered}
use Rattle.sva_msg.specs.Bag.{InFlight, AreNumbered, IsNumbered, MayDeliver, message_at, must_follow}
use Rattle.sva_msg.specs.declared.messages.Message.{Message}
use Rattle.sva_msg.proofs.Numbered.{lookup-below, number_at, number_above}

-- no older message passes the test f, by their numbers
abbrev pub NoneOlder : (Message → Bool) → ℕ → List (ℕ × Message) → Type 0
NoneOlder f n es = (k : ℕ) (older : Message) → k < n → lookup (nat_eq k) es ≡ Some older → f older ≡ false

module _ (f : Message → Bool) (n : ℕ) where
  -- the code's test
  abbrev pub any_older : List (ℕ × Message) → Bool
  any_older = list_any (λ e. nat_lt e.0 n && f e.1)

  pub NoneOlder-from_any : (es : List (ℕ × Message)) → any_older es ≡ false → NoneOlder f n es
  NoneOlder-from_any [] h k older lt at = cc
  NoneOlder-from_any (p ∷ ps) h k older lt at = by (nat_eq k p.0) refl at (λ found. NoneOlder-from_any ps (grind (arith, nat_tests)) k older lt found)
    where
      by : (b : Bool) → nat_eq k p.0 ≡ b → cond b (Some p.1) (lookup (nat_eq k) ps) ≡ Some older
          → (lookup (nat_eq k) ps ≡ Some older → f older ≡ false) → f older ≡ false
      by true is found rest =
          let same : p.1 ≡ older = cc in
          let first : f p.1 ≡ false = grind (arith, nat_tests) in
          rw (← same) first
      by false is found rest = rest found

  -- what holds of the rest of a list, of the older messages by their numbers
  pub NoneOlder-tail : (low high : ℕ) (p : ℕ × Message) (ps : List (ℕ × Message)) → AreNumbered low high (p ∷ ps) → NoneOlder f n (p ∷ ps) → NoneOlder f n ps
  NoneOlder-tail low high p ps h none k older lt at = by (nat_lt p.0 k) refl
    where
      by : (b : Bool) → nat_lt p.0 k ≡ b → f older ≡ false
      by true above =
          let other : nat_eq k p.0 ≡ false = grind (arith, nat_tests) in
          none k older lt (rw other at)
      by false under =
          let gone = lookup-below (p.0 + 1) high k ps (grind (arith, nat_tests)) h.1 in
          cc

  pub NoneOlder-head : (p : ℕ × Message) (ps : List (ℕ × Message)) → NoneOlder f n (p ∷ ps) → p.0 < n → f p.1 ≡ false
  NoneOlder-head p ps none lt =
      let itself : nat_eq p.0 p.0 ≡ true = grind (arith, nat_tests) in
      none p.0 p.1 lt (rw itself refl)

  pub any_from_NoneOlder : (low high : ℕ) (es : List (ℕ × Message)) → AreNumbered low high es → NoneOlder f n es → any_older es ≡ false
  any_from_NoneOlder low high [] h none = refl
  any_from_NoneOlder low high (p ∷ ps) h none =
      let rest = any_from_NoneOlder (p.0 + 1) high ps h.1 (NoneOlder-tail low high p ps h none) in
      rw rest (by (nat_lt p.0 n) refl)
    where
      by : (b : Bool) → nat_lt p.0 n ≡ b → (b && f p.1) || false ≡ false
      by true lt = rw (NoneOlder-head p ps none (grind (arith, nat_tests))) refl
      by false ge = refl

  -- none is older than the first number
  none_newer : (low high : ℕ) (es : List (ℕ × Message)) → n ≤ low → AreNumbered low high es → any_older es ≡ false
  none_newer low high [] le h = refl
  none_newer low high (p ∷ ps) le h =
      let rest = none_newer (p.0 + 1) high ps (omega (arith, le, h.0)) h.1 in
      let first : nat_lt p.0 n ≡ false = grind (arith, nat_tests) in
      ap (λ (b : Bool). (b && f p.1) || any_older ps) first ∙ rest

  -- the older ones are those ahead of it
  pub any_ahead : (low high k : ℕ) (es : List (ℕ × Message)) → AreNumbered low high es → number_at es k ≡ Some n
      → list_any (λ e. f e.1) (take k es) ≡ any_older es
  any_ahead low high k [] h at = absurd (cc (at))
  any_ahead low high zero (p ∷ ps) h at =
      let same : p.0 ≡ n = cc in
      let first : nat_lt p.0 n ≡ false = grind (arith, nat_tests) in
      sym (ap (λ (b : Bool). (b && f p.1) || any_older ps) first ∙ none_newer (p.0 + 1) high ps (omega (arith, same)) h.1)
  any_ahead low high (suc k) (p ∷ ps) h at =
      let above = number_above (p.0 + 1) high n k ps h.1 at in
      let first : nat_lt p.0 n ≡ true = grind (arith, nat_tests) in
      ap (λ (b : Bool). f p.1 || b) (any_ahead (p.0 + 1) high k ps h.1 at) ∙ sym (ap (λ (b : Bool). (b && f p.1) || any_older ps) first)

-- the code's answer where the message is in flight
pub may_deliver-is : (bag : InFlight) (n : ℕ) (m : Message) (r : Bool) → IsNumbered bag → message_at bag n ≡ Some m
    → r ≡ any_older (must_follow m) n bag.messages → IsTrue (not r) ↔ MayDeliver bag n
may_deliver-is bag n m r numbered at is = (to, from)
  where
    to : IsTrue (not r) → MayDeliver bag n
    to passes = (m, at, NoneOlder-from_any (must_follow m) n bag.messages (sym is ∙ grind (arith, nat_tests)))

    from : MayDeliver bag n → IsTrue (not r)
    from h =
        let same : h.0 ≡ m = cc in
        let none : NoneOlder (must_follow m) n bag.messages = rw (← same) h.2 in
        let any = any_from_NoneOlder (must_follow m) n 0 bag.next bag.messages numbered.0 none in
        grind (arith, nat_tests)

-- a message that is ordered behind none may be delivered
never_behind : (s older : MessageKind) → is_ordered s ≡ false → stays_behind s older ≡ false
never_behind (PageRequestKind false) older is = refl
never_behind (PageRequestKind true) older is = absurd (cc)
never_behind StartKind older is = absurd (cc)
never_behind StopKind older is = absurd (cc)
never_behind ResetKind older is = absurd (cc)
never_behind MarkerKind older is = absurd (cc)
never_behind ResetDoneKind older is = absurd (cc)
never_behind CompletionKind older is = refl
never_behind InvalidateKind older is = refl
never_behind ResponseKind older is = refl
never_behind RequestKind older is = refl
never_behind InvalidatedKind older is = refl

pub may_overtake : (bag : InFlight) (n : ℕ) (m : Message) → message_at bag n ≡ Some m → is_ordered (kind_of m.kind) ≡ false → MayDeliver bag n
may_overtake bag n m at is =
    (m, at, λ k older lt there. neither (nat_eq m.endpoint older.endpoint) (never_behind (kind_of m.kind) (kind_of older.kind) is))
  where
    neither : {t : Bool} → (s : Bool) → t ≡ false → (s && t) ≡ false
    neither true h = h
    neither false h = refl
