-- Room by counting: what is pending at a unit is among fewer than 64 cookies, as those of the waits in its queue are.
use Rattle.std.proofs.Common.{◌≡◌, ℕ, suc, ◌<◌, ◌≤◌, ◌==◌, Bool, true, false, cond, List, Option, [], ◌∷◌, length, refl, sym, ap, ◌∙◌, arith}
use Rattle.std.specs.Prelude.{not, ◌||◌, filter}
use Rattle.std.specs.Set.{distinct_count, is_member, unique_keys}
use Rattle.std.proofs.lemmas.Bool.Decides.{nat_tests}
use Rattle.sva_model.specs.Wire.{TargetWire}
use Rattle.sva_model.specs.Wire.TargetWire.{Cookie, ResetEnd}
use Rattle.sva_labels.specs.Sound.{cookies_in}
use Rattle.sva_address_spaces.specs.Room.{HasRoom}

abbrev is_other : ℕ → ℕ → Bool
is_other y x = not (x == y)

abbrev others : ℕ → List ℕ → List ℕ
others y xs = filter (is_other y) xs

same_flipped : (a b : ℕ) (t : Bool) → (a == b) ≡ t → (b == a) ≡ t
same_flipped a b t is = grind (arith, nat_tests)

equal : (a b : ℕ) → (a == b) ≡ true → a ≡ b
equal a b is = grind (arith, nat_tests)

-- what isn't there isn't left out
others-all : (xs : List ℕ) (y : ℕ) → is_member (◌==◌) xs y ≡ false → others y xs ≡ xs
others-all [] y absent = refl
others-all (x ∷ xs) y absent = go (y == x) refl absent (others-all xs y)
  where
    go : (b : Bool) → (y == x) ≡ b → (b || is_member (◌==◌) xs y) ≡ false → (is_member (◌==◌) xs y ≡ false → others y xs ≡ xs)
        → cond (not (x == y)) (x ∷ others y xs) (others y xs) ≡ x ∷ xs
    go true is absent rest = absurd (cc)
    go false is absent rest = ap (λ b. cond (not b) (x ∷ others y xs) (others y xs)) (same_flipped y x false is) ∙ ap (λ zs. x ∷ zs) (rest absent)

-- the others stay
others-member : (xs : List ℕ) (y q : ℕ) → (q == y) ≡ false → is_member (◌==◌) (others y xs) q ≡ is_member (◌==◌) xs q
others-member [] y q apart = refl
others-member (x ∷ xs) y q apart = go (x == y) refl (others-member xs y q apart)
  where
    elsewhere : (x y q : ℕ) → (x == y) ≡ true → (q == y) ≡ false → (q == x) ≡ false
    elsewhere x y q is apart = grind (arith, nat_tests)

    go : (b : Bool) → (x == y) ≡ b → is_member (◌==◌) (others y xs) q ≡ is_member (◌==◌) xs q
        → is_member (◌==◌) (cond (not b) (x ∷ others y xs) (others y xs)) q ≡ ((q == x) || is_member (◌==◌) xs q)
    go true is rest = rest ∙ sym (ap (λ b. b || is_member (◌==◌) xs q) (elsewhere x y q is apart))
    go false is rest = ap (λ b. (q == x) || b) rest

-- one that is left out counts once
others-count : (xs : List ℕ) (y : ℕ) → distinct_count (◌==◌) xs ≤ suc (distinct_count (◌==◌) (others y xs))
others-count [] y = omega arith
others-count (x ∷ xs) y = go (x == y) (is_member (◌==◌) xs x) refl refl (others-count xs y)
  where
    go : (b m : Bool) → (x == y) ≡ b → is_member (◌==◌) xs x ≡ m → distinct_count (◌==◌) xs ≤ suc (distinct_count (◌==◌) (others y xs))
        → length (cond m (unique_keys (◌==◌) xs) (x ∷ unique_keys (◌==◌) xs)) ≤ suc (distinct_count (◌==◌) (cond (not b) (x ∷ others y xs) (others y xs)))
    go true true is there rest = rest
    go true false is absent rest =
        let all : others y xs ≡ xs = others-all xs y (ap (is_member (◌==◌) xs) (sym (equal x y is)) ∙ absent) in
        omega (arith, ap (distinct_count (◌==◌)) all)
    go false true is there rest =
        let kept : distinct_count (◌==◌) (x ∷ others y xs) ≡ distinct_count (◌==◌) (others y xs) =
        ap (λ b. length (cond b (unique_keys (◌==◌) (others y xs)) (x ∷ unique_keys (◌==◌) (others y xs)))) (others-member xs y x is ∙ there) in
        omega (arith, rest, kept)
    go false false is absent rest =
        let more : distinct_count (◌==◌) (x ∷ others y xs) ≡ suc (distinct_count (◌==◌) (others y xs)) =
        ap (λ b. length (cond b (unique_keys (◌==◌) (others y xs)) (x ∷ unique_keys (◌==◌) (others y xs)))) (others-member xs y x is ∙ absent) in
        omega (arith, rest, more)

-- a list whose members are those of another has no more of them than that is long
count-among : (ys xs : List ℕ) → ((c : ℕ) → is_member (◌==◌) xs c ≡ true → is_member (◌==◌) ys c ≡ true) → distinct_count (◌==◌) xs ≤ length ys
count-among [] [] among = omega arith
count-among [] (x ∷ xs) among = absurd (none (among x (ap (λ b. b || is_member (◌==◌) xs x) (itself x))))
  where
    none : false ≡ true → ⊥
    none h = cc

    itself : (x : ℕ) → (x == x) ≡ true
    itself x = grind (arith, nat_tests)
count-among (y ∷ ys) xs among =
    let fewer : distinct_count (◌==◌) (others y xs) ≤ length ys = count-among ys (others y xs) (λ c there. go c (c == y) refl there) in
    omega (arith, others-count xs y, fewer)
  where
    left_out : (zs : List ℕ) (c : ℕ) → (c == y) ≡ true → is_member (◌==◌) (others y zs) c ≡ false
    left_out [] c is = refl
    left_out (z ∷ zs) c is = by_test (z == y) refl (left_out zs c is)
      where
        elsewhere : (z y c : ℕ) → (z == y) ≡ false → (c == y) ≡ true → (c == z) ≡ false
        elsewhere z y c apart is = grind (arith, nat_tests)

        by_test : (b : Bool) → (z == y) ≡ b → is_member (◌==◌) (others y zs) c ≡ false
            → is_member (◌==◌) (cond (not b) (z ∷ others y zs) (others y zs)) c ≡ false
        by_test true at rest = rest
        by_test false at rest = ap (λ b. b || is_member (◌==◌) (others y zs) c) (elsewhere z y c at is) ∙ rest

    go : (c : ℕ) (b : Bool) → (c == y) ≡ b → is_member (◌==◌) (others y xs) c ≡ true → is_member (◌==◌) ys c ≡ true
    go c true is there = absurd (cc (sym there ∙ left_out xs c is))
    go c false is there = sym (ap (λ b. b || is_member (◌==◌) ys c) is) ∙ among c (sym (others-member xs y c is) ∙ there)

pub room_among : (targets : List (Option TargetWire)) (cookies : List ℕ) (t : TargetWire)
    → ((c : ℕ) → is_member (◌==◌) (cookies_in targets) c ≡ true → is_member (◌==◌) cookies c ≡ true) → length cookies < 64 → HasRoom targets t
room_among targets cookies ResetEnd among few = tt
room_among targets cookies (Cookie c) among few =
    λ absent. below (distinct_count (◌==◌) (cookies_in targets)) (length cookies) (count-among cookies (cookies_in targets) among) few
  where
    below : (a b : ℕ) → a ≤ b → b < 64 → a < 64
    below a b h l = omega arith
