-- Lines, one after another.
use Rattle.std.proofs.Common.{◌≡◌, ◌∙◌, ◌+◌, ◌-◌, ◌<◌, ap, arith, sym, ℕ, suc, zero, Bool, true, false, cond, Option, Some, None}
use Rattle.std.specs.Prelude.{Result, Ok, Err, slice_get}
use Rattle.sva_grammar.specs.Grammar.{◌>>=◌}
use Rattle.sva_open_safe.specs.Wrongs.{first_wrong}
use Rattle.sva_open_safe.specs.declared.wrongs.Wrong.{Wrong}
use Rattle.sva_search.specs.Rules.{IsStep}
use Rattle.sva_search.proofs.Steps.{none_refused, some_taken}
use Rattle.sva_open.specs.declared.drivers.Driver.{Driver}
use Rattle.sva_judge.specs.Choices.{next_in}
use Rattle.sva_judge.specs.Spots.{Spot, start_of}
use Rattle.sva_driver_texts.specs.declared.kept.Halt.{Halt}
use Rattle.sva_driver_texts.specs.declared.kept.Halt.TheVariants as halt
use Rattle.sva_driver_texts.specs.Texts.{behind_first, behind_next, by_next, is_left_out, line_choice, number_of, unless_wrong}

pub none_first : (driver : Driver) (spot : Spot) → spot ≡ start_of driver → behind_first driver 0 ≡ Ok spot
unfolding behind_first
none_first driver spot is = ap Ok (sym is)

one_more : (driver : Driver) (place : ℕ) (spot : Spot) → behind_first driver place ≡ Ok spot
    → behind_first driver (suc place) ≡ behind_next driver place spot
unfolding behind_first
one_more driver place spot so_far = ap (λ (led : Result Spot Halt). led >>= behind_next driver place) so_far

-- behind one that ends it nothing comes
stays : (driver : Driver) (first : ℕ) (end : Halt) (more : ℕ) → behind_first driver first ≡ Err end → behind_first driver (more + first) ≡ Err end
unfolding behind_first
stays driver first end zero is =
    let same : zero + first ≡ first = omega arith in
    ap (behind_first driver) same ∙ is
stays driver first end (suc more) is =
    let same : suc more + first ≡ suc (more + first) = omega arith in
    ap (behind_first driver) same
    ∙ ap (λ (led : Result Spot Halt). led >>= behind_next driver (more + first)) (stays driver first end more is)

-- the line at a place is left out
pub first_past : (driver : Driver) (place : ℕ) (spot : Spot) → behind_first driver place ≡ Ok spot
    → is_left_out spot place (slice_get driver.lines.items place) ≡ true → behind_first driver (place + 1) ≡ Ok spot
first_past driver place spot so_far past =
    let same : place + 1 ≡ suc place = omega arith in
    ap (behind_first driver) same ∙ one_more driver place spot so_far
    ∙ ap (λ so. cond so (Ok spot) (by_next place (number_of (slice_get driver.lines.items place)) (next_in driver spot (line_choice place)))) past

-- the line at a place is tried
module _ (driver : Driver) (place : ℕ) (done : Bool) (old new : Spot) (so_far : behind_first driver place ≡ Ok old)
    (ahead : is_left_out old place (slice_get driver.lines.items place) ≡ false)
    (step : IsStep (next_in driver old (line_choice place)) done old new) where
  abbrev number : ℕ
  number = number_of (slice_get driver.lines.items place)

  opened : (next : Option Spot) → next_in driver old (line_choice place) ≡ next → behind_first driver (place + 1) ≡ by_next place number next
  opened next is =
      let same : place + 1 ≡ suc place = omega arith in
      ap (behind_first driver) same ∙ one_more driver place old so_far
      ∙ ap (λ so. cond so (Ok old) (by_next place number (next_in driver old (line_choice place)))) ahead ∙ ap (by_next place number) is

  went : done ≡ true → behind_first driver (place + 1) ≡ unless_wrong number new (first_wrong new.world)
  went goes = opened (Some new) (some_taken (next_in driver old (line_choice place)) done old new step goes)

  pub first_next : done ≡ true → first_wrong new.world ≡ None → behind_first driver (place + 1) ≡ Ok new
  first_next goes fine = went goes ∙ ap (unless_wrong number new) fine

  ended : (count : ℕ) (end : Halt) → place < count → behind_first driver (place + 1) ≡ Err end → behind_first driver count ≡ Err end
  ended count end inside is =
      let sum : count ≡ (count - (place + 1)) + (place + 1) = omega (arith, inside) in
      ap (behind_first driver) sum ∙ stays driver (place + 1) end (count - (place + 1)) is

  -- it isn't permitted
  pub first_stop : (count : ℕ) → place < count → done ≡ false → behind_first driver count ≡ Err (halt.Refused place)
  first_stop count inside stops =
      ended count (halt.Refused place) inside
      (opened None (none_refused (next_in driver old (line_choice place)) done old new step stops).0)

  -- something is wrong behind it
  pub first_leak : (count : ℕ) (found : Wrong) → place < count → done ≡ true → first_wrong new.world ≡ Some found
      → behind_first driver count ≡ Err (halt.Leaks number found)
  first_leak count found inside goes is =
      ended count (halt.Leaks number found) inside (went goes ∙ ap (unless_wrong number new) is)
