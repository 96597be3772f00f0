-- Tests of numbers and of Bools, where std has none of this form (its own stand in `lemmas.Bool`): for all crates of laws.
use Rattle.std.proofs.Common.{◌≡◌, ◌⊎◌, inl, inr, refl, sym, ℕ, ◌+◌, ◌-◌, ◌<◌, ◌≤◌, suc, Bool, true, false, arith}
use Rattle.std.specs.Prelude.{Some, ◌&&◌, ◌||◌, not, ◌==◌, nat_lt}
use Rattle.std.proofs.lemmas.Bool.Decides.{nat_tests}
use Rattle.sva_step.specs.declared.answers.Answer.TheVariants as answer

-- Of two Bools.
pub first_holds : (a b : Bool) → (a && b) ≡ true → a ≡ true
first_holds a b h = grind arith

pub second_holds : (a b : Bool) → (a && b) ≡ true → b ≡ true
second_holds a b h = grind arith

pub first_fails : (a b : Bool) → (a || b) ≡ false → a ≡ false
first_fails a b h = grind arith

pub second_fails : (a b : Bool) → (a || b) ≡ false → b ≡ false
second_fails a b h = grind arith

-- where both don't hold, and the first does, the second doesn't
pub other_fails : (a b : Bool) → (a && b) ≡ false → a ≡ true → b ≡ false
other_fails a b h k = grind arith

pub one_holds : (a b : Bool) → (a || b) ≡ true → (a ≡ true) ⊎ (b ≡ true)
one_holds true b h = inl refl
one_holds false b h = inr h

-- where the first holds, and not the first alone, the second does
pub second_holds_too : (a b : Bool) → a ≡ true → (a && not b) ≡ false → b ≡ true
second_holds_too a b h k = grind arith

pub first_alone : (a b : Bool) → a ≡ true → b ≡ false → (a && not b) ≡ true
first_alone a b h k = grind arith

pub all_three : (a b c : Bool) → a ≡ true → b ≡ true → c ≡ true → (a && b && not (not c)) ≡ true
all_three a b c h k l = grind arith

pub or_no : (b : Bool) → (b || false) ≡ b
or_no b = grind arith

pub and_no : (b : Bool) → (b && false) ≡ false
and_no b = grind arith

-- Of numbers.
pub is_itself : (a : ℕ) → (a == a) ≡ true
is_itself a = grind (arith, nat_tests)

pub both_same : (a b c d : ℕ) → a ≡ b → c ≡ d → (a == b && c == d) ≡ true
both_same a b c d h k = grind (arith, nat_tests)

pub lower_differs : (a b : ℕ) → a < b → (a == b) ≡ false
lower_differs a b l = grind (arith, nat_tests)

pub turned : (a b : ℕ) → (a == b) ≡ (b == a)
turned a b = grind (arith, nat_tests)

pub not_below_itself : (a : ℕ) → nat_lt a a ≡ false
not_below_itself a = grind (arith, nat_tests)

pub is_less : (a b : ℕ) → not (nat_lt a b) ≡ false → a < b
is_less a b h = grind (arith, nat_tests)

pub added_back : (a b : ℕ) → a ≤ b → a + (b - a) ≡ b
added_back a b l = omega arith

pub taken_off : (a b c : ℕ) → a + c ≡ b → b - a ≡ c
taken_off a b c e = omega arith

pub none_before : (n : ℕ) → 0 + n ≡ n
none_before n = omega arith

pub one_shifted : (a b : ℕ) → a + 1 + b ≡ a + suc b
one_shifted a b = omega arith

pub same_inside : {a b : ℕ} → Some a ≡ Some b → a ≡ b
same_inside e = cc e

pub same_frame : (a b : ℕ) → answer.Frame a ≡ answer.Frame b → a ≡ b
same_frame a b h = cc

pub same_bool : (a b : Bool) → (a ≡ true → b ≡ true) → (b ≡ true → a ≡ true) → a ≡ b
same_bool true b f g = sym (f refl)
same_bool false true f g = g refl
same_bool false false f g = refl
