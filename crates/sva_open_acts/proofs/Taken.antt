-- Whether a unit may take a descriptor of so many that begin at a place.
use Rattle.std.proofs.Common.{◌≡◌, ◌<◌, ◌≤◌, ℕ, suc, ◌+◌, ◌-◌, true, false, ap, sym, ◌∙◌, refl, arith}
use Rattle.std.specs.Prelude.{if◌then◌else◌, is_some}
use Rattle.sva_open.specs.declared.settings.Settings.{Settings}
use Rattle.sva_open.specs.World.{Part}
use Rattle.sva_open.specs.Units.{pump_at, takes_any}

none_left : (settings : Settings) (part : Part) (place : ℕ) → takes_any settings part 0 place ≡ false
unfolding takes_any
none_left settings part place = refl

behind_barred : (settings : Settings) (part : Part) (many place : ℕ) → is_some (pump_at settings part place) ≡ false
    → takes_any settings part (suc many) place ≡ takes_any settings part many (suc place)
unfolding takes_any
behind_barred settings part many place h = ap (λ b. if b then true else takes_any settings part many (suc place)) h

at_free : (settings : Settings) (part : Part) (many place : ℕ) → is_some (pump_at settings part place) ≡ true
    → takes_any settings part (suc many) place ≡ true
unfolding takes_any
at_free settings part many place h = ap (λ b. if b then true else takes_any settings part many (suc place)) h

pub goes_on : (settings : Settings) (part : Part) (count place : ℕ) → place < count → is_some (pump_at settings part place) ≡ false
    → takes_any settings part (count - (place + 1)) (place + 1) ≡ takes_any settings part (count - place) place
goes_on settings part count place low h =
    let many : count - place ≡ suc (count - (place + 1)) = omega (arith, low) in
    let next : place + 1 ≡ suc place = omega arith in
    ap (λ n. takes_any settings part (count - (place + 1)) n) next
    ∙ sym (behind_barred settings part (count - (place + 1)) place h) ∙ ap (λ n. takes_any settings part n place) (sym many)

pub found : (settings : Settings) (part : Part) (count place : ℕ) → place < count → is_some (pump_at settings part place) ≡ true
    → takes_any settings part (count - place) place ≡ true
found settings part count place low h =
    let many : count - place ≡ suc (count - (place + 1)) = omega (arith, low) in
    ap (λ n. takes_any settings part n place) many ∙ at_free settings part (count - (place + 1)) place h

pub found_none : (settings : Settings) (part : Part) (count place : ℕ) → count ≤ place → takes_any settings part (count - place) place ≡ false
found_none settings part count place high =
    let none : count - place ≡ 0 = omega (arith, high) in
    ap (λ n. takes_any settings part n place) none ∙ none_left settings part place
