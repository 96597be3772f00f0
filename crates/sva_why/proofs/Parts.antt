-- Parts of texts.
use Rattle.std.proofs.Common.{◌≡◌, ◌∙◌, ap, arith, subst, sym, ℕ, zero, suc, ◌+◌, Bool, true, false, List, [], ◌∷◌, ◌++◌, append-nil, append_assoc, flat_map}
use Rattle.std.proofs.lemmas.Option.{same_Some}
use Rattle.std.specs.Prelude.{Option, Some, None, if◌then◌else◌, slice_get}
use Rattle.sva_lines.specs.Pieces.{rows}
use Rattle.sva_why.specs.Standing.{Has}

pub has_all : (text : List ℕ) → Has text text
has_all text = record { before = []; after = []; is = sym (append-nil text) }

pub has_left : (front back part : List ℕ) → Has front part → Has (front ++ back) part
has_left front back part has = record {
  before = has.before;
  after = has.after ++ back;
  is = ap (λ l. l ++ back) has.is ∙ append_assoc has.before (part ++ has.after) back ∙ ap (λ l. has.before ++ l) (append_assoc part has.after back);
}

pub has_right : (front back part : List ℕ) → Has back part → Has (front ++ back) part
has_right front back part has = record {
  before = front ++ has.before;
  after = has.after;
  is = ap (λ l. front ++ l) has.is ∙ sym (append_assoc front has.before (part ++ has.after));
}

-- a part of a part
pub has_within : (whole part inner : List ℕ) → Has whole part → Has part inner → Has whole inner
has_within whole part inner has own =
    subst (λ text. Has text inner) (sym has.is) (has_right has.before (part ++ has.after) inner (has_left part has.after inner own))

-- what is said where something holds
pub has_where : (test : Bool) (text other part : List ℕ) → test ≡ true → Has text part → Has (if test then text else other) part
has_where test text other part holds has = subst (λ b. Has (if b then text else other) part) (sym holds) has

pub has_unless : (test : Bool) (other text part : List ℕ) → test ≡ false → Has text part → Has (if test then other else text) part
has_unless test other text part fails has = subst (λ b. Has (if b then other else text) part) (sym fails) has

-- what is said of each thing has what is said of one of them
pub has_each : {A : Type 0} (said : A → List ℕ) (things : List A) (place : ℕ) (thing : A) → slice_get things place ≡ Some thing
    → Has (flat_map said things) (said thing)
has_each said [] place thing there = absurd (cc there)
has_each said (first ∷ things) zero thing there =
    subst (λ t. Has (said first ++ flat_map said things) (said t)) (same_Some first thing there)
    (has_left (said first) (flat_map said things) (said first) (has_all (said first)))
has_each said (first ∷ things) (suc place) thing there =
    has_right (said first) (flat_map said things) (said thing) (has_each said things place thing there)

-- the same of the places of a table
has_row_from : {A : Type 0} (said : ℕ → A → List ℕ) (at : ℕ) (places : List A) (place : ℕ) (thing : A) → slice_get places place ≡ Some thing
    → Has (rows said at places) (said (at + place) thing)
has_row_from said at [] place thing there = absurd (cc there)
has_row_from said at (first ∷ places) zero thing there =
    let here : at ≡ at + zero = omega arith in
    subst (λ part. Has (said at first ++ rows said (suc at) places) part) (ap (said at) (same_Some first thing there) ∙ ap (λ n. said n thing) here)
    (has_left (said at first) (rows said (suc at) places) (said at first) (has_all (said at first)))
has_row_from said at (first ∷ places) (suc place) thing there =
    let next : suc at + place ≡ at + suc place = omega arith in
    subst (λ n. Has (said at first ++ rows said (suc at) places) (said n thing)) next
    (has_right (said at first) (rows said (suc at) places) (said (suc at + place) thing) (has_row_from said (suc at) places place thing there))

pub has_row : {A : Type 0} (said : ℕ → A → List ℕ) (places : List A) (place : ℕ) (thing : A) → slice_get places place ≡ Some thing
    → Has (rows said 0 places) (said place thing)
has_row said places place thing there =
    let here : 0 + place ≡ place = omega arith in
    subst (λ n. Has (rows said 0 places) (said n thing)) here (has_row_from said 0 places place thing there)

-- ---- What is said of what was found

pub has_found : {A : Type 0} (said : Option A → List ℕ) (found : Option A) (thing : A) (part : List ℕ) → found ≡ Some thing
    → Has (said (Some thing)) part → Has (said found) part
has_found said found thing part is has = subst (λ o. Has (said o) part) (sym is) has
