-- Lists of messages whose numbers rise.
use Rattle.std.proofs.Common.{◌≡◌, ℕ, zero, suc, ◌+◌, ◌-◌, ◌<◌, ◌≤◌, Bool, true, false, cond, nat_eq, List, [], ◌∷◌}
use Rattle.std.proofs.Common.{◌++◌, Option, None, Some, refl, ap, sym, ◌∙◌, arith}
use Rattle.std.specs.Prelude.{option_map, slice_get, take, drop, remove}
use Rattle.std.proofs.lemmas.Bool.Decides.{nat_tests}
use Rattle.std.specs.Map.{lookup, lookup_key}
use Rattle.std.proofs.lemmas.List.FromFn.{map-range_with_len_more}
use Rattle.indexmap.specs.IndexMap.{shift_remove_entry}
use Rattle.sva_msg.specs.Bag.{AreNumbered, copies_of}
use Rattle.sva_msg.specs.declared.messages.Message.{Message}

pub bounds_in_order : (low high : ℕ) (es : List (ℕ × Message)) → AreNumbered low high es → low ≤ high
bounds_in_order low high [] h = h
bounds_in_order low high (p ∷ ps) h = let rest = bounds_in_order (p.0 + 1) high ps h.1 in omega arith

-- a smaller lower bound
pub AreNumbered-lower : (low from high : ℕ) (es : List (ℕ × Message)) → low ≤ from → AreNumbered from high es → AreNumbered low high es
AreNumbered-lower low from high [] le h = omega arith
AreNumbered-lower low from high (p ∷ ps) le h = (omega arith, h.1)

-- copies are numbered from the first on
pub AreNumbered-copies_of : (m : Message) (low first copies : ℕ) → low ≤ first → AreNumbered low (first + copies) (copies_of m first copies)
AreNumbered-copies_of m low first zero le = omega arith
AreNumbered-copies_of m low first (suc copies) le =
    let same : first + 1 + copies ≡ first + suc copies = omega arith in
    let rest = AreNumbered-copies_of m (first + 1) (first + 1) copies (omega arith) in
    (le, rw (← same) rest)

-- copies that are numbered from the upper bound on
pub AreNumbered-sent : (low high copies : ℕ) (es : List (ℕ × Message)) (m : Message) → AreNumbered low high es
    → AreNumbered low (high + copies) (es ++ copies_of m high copies)
AreNumbered-sent low high copies [] m h = AreNumbered-copies_of m low high copies h
AreNumbered-sent low high copies (p ∷ ps) m h = (h.0, AreNumbered-sent (p.0 + 1) high copies ps m h.1)

-- the copies that are numbered below `number`
pub AreNumbered-so_far : (low high number : ℕ) (old es : List (ℕ × Message)) (m : Message) → high ≤ number → AreNumbered low high old → es ≡ old
    ++ copies_of m high (number - high) → AreNumbered low number es
AreNumbered-so_far low high number old es m le h is =
    let sum : high + (number - high) ≡ number = omega arith in
    rw is (rw sum at (AreNumbered-sent low high (number - high) old m h))

-- a number from the upper bound on isn't there
pub lookup-above : (low high n : ℕ) (es : List (ℕ × Message)) → high ≤ n → AreNumbered low high es → lookup (nat_eq n) es ≡ None
lookup-above low high n [] le h = refl
lookup-above low high n (p ∷ ps) le h =
    let rest = bounds_in_order (p.0 + 1) high ps h.1 in
    let other : nat_eq n p.0 ≡ false = grind (arith, nat_tests) in
    rw other (lookup-above (p.0 + 1) high n ps le h.1)

-- nor is a number below the lower bound
pub lookup-below : (low high n : ℕ) (es : List (ℕ × Message)) → n < low → AreNumbered low high es → lookup (nat_eq n) es ≡ None
lookup-below low high n [] lt h = refl
lookup-below low high n (p ∷ ps) lt h =
    let other : nat_eq n p.0 ≡ false = grind (arith, nat_tests) in
    rw other (lookup-below (p.0 + 1) high n ps (omega arith) h.1)

-- one message is taken out
pub AreNumbered-remove : (low high n : ℕ) (es : List (ℕ × Message)) → AreNumbered low high es → AreNumbered low high (shift_remove_entry (nat_eq n) es)
AreNumbered-remove low high n [] h = h
AreNumbered-remove low high n (p ∷ ps) h =
    elim (nat_eq n p.0) as (λ b. AreNumbered low high (cond b ps (p ∷ shift_remove_entry (nat_eq n) ps))) [
      | true ↦ AreNumbered-lower low (p.0 + 1) high ps (omega arith) h.1
      | false ↦ (h.0, AreNumbered-remove (p.0 + 1) high n ps h.1)
    ]

-- one copy more
pub copies_of-more : (m : Message) (first number : ℕ) → first ≤ number → copies_of m first (number + 1 - first) ≡ copies_of m first (number - first)
    ++ (number, m) ∷ []
copies_of-more m first number le =
    let count : number + 1 - first ≡ (number - first) + 1 = omega arith in
    rw count (map-range_with_len_more (λ n. (n, m)) first (number - first) number (omega arith))

-- What is found under a number has that number.

pub key_is : (n k : ℕ) (es : List (ℕ × Message)) → lookup_key (nat_eq n) es ≡ Some k → k ≡ n
key_is n k [] is = absurd (cc (is))
key_is n k (p ∷ ps) is = go (nat_eq n p.0) refl is (key_is n k ps)
  where
    go : (b : Bool) → nat_eq n p.0 ≡ b → cond b (Some p.0) (lookup_key (nat_eq n) ps) ≡ Some k → (lookup_key (nat_eq n) ps ≡ Some k → k ≡ n) → k ≡ n
    go true same found rest =
        let first : p.0 ≡ k = cc in
        grind (arith, nat_tests)
    go false other found rest = rest found

-- What stands at a place.

abbrev pub number_at : List (ℕ × Message) → ℕ → Option ℕ
number_at es k = option_map (λ e. e.0) (slice_get es k)

pub number_above : (low high n k : ℕ) (es : List (ℕ × Message)) → AreNumbered low high es → number_at es k ≡ Some n → low ≤ n
number_above low high n k [] h at = absurd (cc (at))
number_above low high n zero (p ∷ ps) h at =
    let same : p.0 ≡ n = cc in
    let first = h.0 in
    omega arith
number_above low high n (suc k) (p ∷ ps) h at =
    let above = number_above (p.0 + 1) high n k ps h.1 at in
    let first = h.0 in
    omega arith

-- taken out at its place, it is taken out under its number
pub remove-at : (low high n k : ℕ) (es : List (ℕ × Message)) → AreNumbered low high es → number_at es k ≡ Some n
    → remove es k ≡ shift_remove_entry (nat_eq n) es
remove-at low high n k [] h at = absurd (cc (at))
remove-at low high n zero (p ∷ ps) h at =
    let same : p.0 ≡ n = cc in
    let here : nat_eq n p.0 ≡ true = grind (arith, nat_tests) in
    sym (ap (λ (b : Bool). cond b ps (p ∷ shift_remove_entry (nat_eq n) ps)) here)
remove-at low high n (suc k) (p ∷ ps) h at =
    let above = number_above (p.0 + 1) high n k ps h.1 at in
    let other : nat_eq n p.0 ≡ false = grind (arith, nat_tests) in
    ap (λ (l : List (ℕ × Message)). p ∷ l) (remove-at (p.0 + 1) high n k ps h.1 at)
    ∙ sym (ap (λ (b : Bool). cond b ps (p ∷ shift_remove_entry (nat_eq n) ps)) other)

-- and it stands there still once others were sent
pub number_at-sent : (n k : ℕ) (es more : List (ℕ × Message)) → number_at es k ≡ Some n → number_at (es ++ more) k ≡ Some n
number_at-sent n k [] more at = absurd (cc (at))
number_at-sent n zero (p ∷ ps) more at = at
number_at-sent n (suc k) (p ∷ ps) more at = number_at-sent n k ps more at
