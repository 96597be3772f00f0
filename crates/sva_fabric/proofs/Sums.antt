-- Receipts and calls of several ports.
use Rattle.std.specs.Prelude.{Option, Some, None, IfSome, IfNone}
use Rattle.std.proofs.Common.{◌≡◌, ℕ, suc, ◌+◌, List, [], ◌∷◌, ◌++◌, length, refl, sym, ap, subst, arith, inl, inr}
use Rattle.sva_core.specs.declared.journal.Entry.{Entry}
use Rattle.sva_fabric.specs.Receipts.{PortState, new_ports_from, new_port}
use Rattle.sva_fabric.specs.Audits.{EachStands, IsFirstBadOf, calls_of}

pub calls_append : (xs ys : List PortState) → calls_of (xs ++ ys) ≡ calls_of xs + calls_of ys
calls_append [] ys = omega arith
calls_append (x ∷ xs) ys = omega (arith, calls_append xs ys)

next_is : (n : ℕ) (x : PortState) (xs : List PortState) → n + 1 + length xs ≡ n + length (x ∷ xs)
next_is n x xs = omega arith

pub each_append : (entries : List Entry) (n : ℕ) (xs ys : List PortState) → EachStands entries n xs → EachStands entries (n + length xs) ys
    → EachStands entries n (xs ++ ys)
each_append entries n [] ys h k =
    let same : n + 0 ≡ n = omega arith in
    subst (λ (m : ℕ). EachStands entries m ys) same k
each_append entries n (x ∷ xs) ys h k = (h.0, each_append entries (n + 1) xs ys h.1 (subst (λ (m : ℕ). EachStands entries m ys) (sym (next_is n x xs)) k))

pub bad_before : (entries : List Entry) (n : ℕ) (xs ys : List PortState) (port place : ℕ) → IsFirstBadOf entries n xs port place
    → IsFirstBadOf entries n (xs ++ ys) port place
bad_before entries n [] ys port place h = absurd h
bad_before entries n (x ∷ xs) ys port place (inl h) = inl h
bad_before entries n (x ∷ xs) ys port place (inr h) = inr (h.0, bad_before entries (n + 1) xs ys port place h.1)

pub bad_behind : (entries : List Entry) (n : ℕ) (xs ys : List PortState) (port place : ℕ) → EachStands entries n xs
    → IsFirstBadOf entries (n + length xs) ys port place → IsFirstBadOf entries n (xs ++ ys) port place
bad_behind entries n [] ys port place h k =
    let same : n + 0 ≡ n = omega arith in
    subst (λ (m : ℕ). IsFirstBadOf entries m ys port place) same k
bad_behind entries n (x ∷ xs) ys port place h k =
    inr (h.0, bad_behind entries (n + 1) xs ys port place h.1 (subst (λ (m : ℕ). IsFirstBadOf entries m ys port place) (sym (next_is n x xs)) k))

pub length_both : (xs ys : List PortState) → length (xs ++ ys) ≡ length xs + length ys
length_both [] ys = omega arith
length_both (x ∷ xs) ys = omega (arith, length_both xs ys)

-- new ports
pub new_ports_next : (first count : ℕ) → new_ports_from first (count + 1) ≡ new_ports_from first count ++ new_port (first + count) ∷ []
unfolding new_ports_from
new_ports_next first count =
    let same : count + 1 ≡ suc count = omega arith in
    ap (new_ports_from first) same

pub new_ports_none : (first : ℕ) → new_ports_from first 0 ≡ []
unfolding new_ports_from
new_ports_none first = refl

-- what a `None` or a `Some` gives, one step on
pub none_map : {A P Q : Type 0} (o : Option A) → (P → Q) → IfNone o P → IfNone o Q
none_map None f p = f p
none_map (Some x) f p = tt

pub some_map : {A : Type 0} {P Q : A → Type 0} (o : Option A) → ((x : A) → P x → Q x) → IfSome o P → IfSome o Q
some_map None f p = tt
some_map (Some x) f p = f x p
