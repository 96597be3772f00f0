-- A part and what it is without a chain: messages that are sent, tests that are passed, and lists of which something is left out.
use Rattle.std.proofs.Common.{arith, ◌≡◌, ◌∙◌, ℕ, Bool, true, false, Option, Some, None, List, [], ◌∷◌, refl, ap}
use Rattle.std.specs.Prelude.{⊤, ◌≡◌, max, if◌then◌else◌, filter}
use Rattle.sva_open.specs.declared.frames.Mapping.{Mapping}
use Rattle.sva_open.specs.declared.messages.Message.{Message}
use Rattle.sva_open.specs.declared.settings.Settings.{Settings}
use Rattle.sva_open.specs.declared.acts.LocalAct.{LocalAct}
use Rattle.sva_open.specs.Acts.{next_part}
use Rattle.sva_open.specs.Devices.{highest}
use Rattle.sva_open.specs.World.{Part, if_so, sent}
use Rattle.sva_open_laws.specs.Occasions.{Chain, is_message_left, is_sent_left, part_without}
use Rattle.sva_open_laws.specs.Occasions.Chain.{Asks, Faults}
use Rattle.sva_open_laws.proofs.Filters.{filter_left, filter_without}

-- what an act leads to without the chain
abbrev pub next_at : Chain → Settings → List Mapping → Part → Option LocalAct → Option Part
next_at chain settings mappings part None = Some (part_without chain part)
next_at chain settings mappings part (Some its) = next_part settings mappings (part_without chain part) its

-- where the one is permitted, so is the other, and it leads to what the one leaves without the chain
abbrev pub IsLed : Chain → (one other : Option Part) → Type 0
IsLed chain None other = ⊤
IsLed chain (Some one) None = ⊥
IsLed chain (Some one) (Some other) = part_without chain one ≡ other

-- ---- messages

-- one that isn't of the chain
pub sends : (chain : Chain) (part : Part) (owner number : ℕ) (one : Message) → is_message_left chain one ≡ true
    → part_without chain (sent part owner number one) ≡ sent (part_without chain part) owner number one
sends Asks part owner number one h = λ i. record (part_without Asks part) {
  flight = filter_left (is_sent_left Asks) part.flight (record { message = one; owner = owner; number = number }) h i;
}
sends Faults part owner number one h = λ i. record (part_without Faults part) {
  flight = filter_left (is_sent_left Faults) part.flight (record { message = one; owner = owner; number = number }) h i;
}

-- and one that is
pub gone : (chain : Chain) (part : Part) (owner number : ℕ) (one : Message) → is_message_left chain one ≡ false
    → part_without chain (sent part owner number one) ≡ part_without chain part
gone Asks part owner number one h = λ i. record (part_without Asks part) {
  flight = filter_without (is_sent_left Asks) part.flight (record { message = one; owner = owner; number = number }) h i;
}
gone Faults part owner number one h = λ i. record (part_without Faults part) {
  flight = filter_without (is_sent_left Faults) part.flight (record { message = one; owner = owner; number = number }) h i;
}

-- ---- tests

-- where the test of the whole is passed, so is the one without the chain
pub where_so : (chain : Chain) (b c : Bool) (one other : Part) → (b ≡ true → c ≡ true) → part_without chain one ≡ other
    → IsLed chain (if_so b one) (if_so c other)
where_so chain false c one other passes h = tt
where_so chain true true one other passes h = h
where_so chain true false one other passes h = let never : false ≡ true = passes refl in absurd (cc)

-- where nothing is tested any more
pub at_once : (chain : Chain) (b : Bool) (one other : Part) → part_without chain one ≡ other → IsLed chain (if_so b one) (Some other)
at_once chain true one other h = h
at_once chain false one other h = tt

pub where_open : (chain : Chain) (b : Bool) (one after other after_other : Part) → part_without chain one ≡ other → part_without chain after ≡ after_other
    → part_without chain (if b then after else one) ≡ (if b then after_other else other)
where_open chain true one after other after_other h k = k
where_open chain false one after other after_other h k = h

pub same_open : (chain : Chain) (b : Bool) (one after other : Part) → part_without chain one ≡ other → part_without chain after ≡ other
    → part_without chain (if b then after else one) ≡ other
same_open chain true one after other h k = k
same_open chain false one after other h k = h

pub if_takes : (chain : Chain) (b : Bool) (one other : Option Part) → IsLed chain one other
    → IsLed chain (if b then one else None) (if b then other else None)
if_takes chain true one other h = h
if_takes chain false one other h = tt

pub unless : (chain : Chain) (b : Bool) (one other : Option Part) → IsLed chain one other
    → IsLed chain (if b then None else one) (if b then None else other)
unless chain true one other h = tt
unless chain false one other h = h

-- ---- the highest of all is the highest of what is left, where all else is none

above_none : (n : ℕ) → max 0 n ≡ n
above_none n = omega arith

highest_by : {X : Type 0} (at : X → ℕ) (p : X → Bool) (x : X) (xs : List X) (b : Bool) → p x ≡ b → (p x ≡ false → at x ≡ 0)
    → highest at xs ≡ highest at (filter p xs) → max (at x) (highest at xs) ≡ highest at (if b then (x ∷ filter p xs) else filter p xs)
highest_by at p x xs true h so rest = ap (max (at x)) rest
highest_by at p x xs false h so rest =
    let none : at x ≡ 0 = so h in (λ i. max (none i) (highest at xs)) ∙ above_none (highest at xs) ∙ rest

pub highest_left : {X : Type 0} (at : X → ℕ) (p : X → Bool) → ((x : X) → p x ≡ false → at x ≡ 0) → (xs : List X)
    → highest at xs ≡ highest at (filter p xs)
highest_left at p so [] = refl
highest_left at p so (x ∷ xs) = highest_by at p x xs (p x) refl (so x) (highest_left at p so xs)
