-- The lines of each driver that is read from a text go forward.
use Rattle.std.proofs.Common.{◌≡◌, ◌∙◌, ◌<◌, ℕ, zero, suc, ◌+◌, Bool, true, false, Option, Some, None, option_map, List, [], ◌∷◌, map}
use Rattle.std.proofs.Common.{refl, ap, sym, subst, arith}
use Rattle.std.proofs.lemmas.Option.{same_Some, slice_get-map}
use Rattle.std.specs.Prelude.{⊤, if◌then◌else◌, slice_get, Result, Ok, Err}
use Rattle.sva_step.specs.declared.limits.Config.{Config}
use Rattle.sva_grammar.specs.Grammar.{◌>>=◌}
use Rattle.sva_open.specs.declared.drivers.Driver.{Driver}
use Rattle.sva_open.specs.declared.drivers.Line.{Line}
use Rattle.sva_open.specs.World.{Open}
use Rattle.sva_open_safe.specs.Wrongs.{first_wrong}
use Rattle.sva_open_safe.specs.declared.wrongs.Wrong.{Wrong}
use Rattle.sva_judge.specs.Choices.{next_in}
use Rattle.sva_judge.specs.Spots.{Spot}
use Rattle.sva_driver_words.specs.Awaits.{LineSaid}
use Rattle.sva_driver_texts.specs.Pasids.{pasids_of}
use Rattle.sva_driver_texts.specs.Readings.{Reading}
use Rattle.sva_driver_texts.specs.Texts.{DriverRead, IsText, ReadsDriver, StandsAt, StandsBy, behind_first, behind_next, by_next, conduct_of, driver_of}
use Rattle.sva_driver_texts.specs.Texts.{is_left_out, line_choice, number_of, opened_by, unless_wrong}
use Rattle.sva_driver_texts.specs.Ways.{first_behind, first_from, is_on_way, left_by, looks, other_of, threads_of, way_of, way_seen, ways_from, ways_of}
use Rattle.sva_driver_texts.specs.declared.kept.Begun.TheVariants.{Stands}
use Rattle.sva_driver_texts.specs.declared.kept.Halt.{Halt}
use Rattle.sva_driver_texts.specs.declared.kept.Halt.TheVariants as halt
use Rattle.sva_driver_texts.specs.declared.kept.Read.{Read}
use Rattle.sva_driver_texts.specs.declared.kept.Text.{Text}
use Rattle.sva_driver_texts.specs.declared.ways.Way.{Way}
use Rattle.sva_open_laws.specs.Ends.{GoesForward, IsBehind, TextsGoForward}
use Rattle.sva_open_laws.specs.Weights.{AreNumbered}
use Rattle.sva_open_laws.proofs.Lowered.{each_event_leaves}
use Rattle.sva_open_laws.proofs.OneUnit.{opened_numbered}

-- ---- the first such line from a place on stands there or behind it

found_by : (such : LineSaid → Bool) (place at : ℕ) (lines : List LineSaid) → place < at → IsBehind place (first_from such at lines)
unfolding first_from
found_by such place at [] low = tt
found_by such place at (line ∷ lines) low = by_test (such line) (found_by such place (at + 1) lines (omega (arith, low)))
  where
    by_test : (b : Bool) → IsBehind place (first_from such (at + 1) lines) → IsBehind place (if b then Some at else first_from such (at + 1) lines)
    by_test true rest = low
    by_test false rest = rest

first_is_behind : (place : ℕ) (line : LineSaid) (found : Bool) (behind : List LineSaid) → IsBehind place (first_behind place line found behind)
first_is_behind place line found behind = found_by (is_on_way line.thread (left_by place line found)) place (place + 1) behind (omega arith)

other_is_behind : (place : ℕ) (line : LineSaid) (behind : List LineSaid) → IsBehind place (other_of place line behind)
other_is_behind place line behind = by_test (looks line.saying)
  where
    by_test : (b : Bool) → IsBehind place (if b then first_behind place line false behind else None)
    by_test true = first_is_behind place line false behind
    by_test false = tt

-- ---- the ways of all lines

ways_go_on : (threads : List (List ℕ)) (from : ℕ) (lines : List LineSaid) (k place : ℕ) (way : Way) → place ≡ from + k
    → slice_get (ways_from threads from lines) k ≡ Some way → IsBehind place way.next × IsBehind place way.other
unfolding ways_from
ways_go_on threads from [] k place way is h = absurd (cc)
ways_go_on threads from (line ∷ behind) zero place way is h =
    let same : way_of threads from line behind ≡ way = same_Some _ way h in
    let here : from ≡ place = omega (arith, is) in
    subst (λ n. IsBehind n way.next × IsBehind n way.other) here
    (subst (λ (it : Way). IsBehind from it.next × IsBehind from it.other) same
    (first_is_behind from line true behind, other_is_behind from line behind))
ways_go_on threads from (line ∷ behind) (suc k) place way is h = ways_go_on threads (from + 1) behind k place way (omega (arith, is)) h

opening_goes : (lines : List Line) (said : List LineSaid) → map way_seen lines ≡ ways_of said
    → (place : ℕ) (line : Line) → slice_get lines place ≡ Some line → IsBehind place line.next × IsBehind place line.other
opening_goes lines said same place line h =
    let seen : slice_get (map way_seen lines) place ≡ Some (way_seen line) = slice_get-map way_seen lines place ∙ ap (option_map way_seen) h in
    ways_go_on (threads_of said) 0 said place place (way_seen line) (omega arith)
    (ap (λ (ways : List Way). slice_get ways place) (sym same) ∙ seen)

-- ---- the lines before `race` leave each endpoint at its number

abbrev NumberedAt : Result Spot Halt → Type 0
NumberedAt (Ok spot) = AreNumbered spot.world.parts
NumberedAt (Err halt) = ⊤

module _ (driver : Driver) (forward : GoesForward driver) where
  unless_wrong_numbered : (number : ℕ) (spot : Spot) (o : Option Wrong) → AreNumbered spot.world.parts → NumberedAt (unless_wrong number spot o)
  unless_wrong_numbered number spot None h = h
  unless_wrong_numbered number spot (Some found) h = tt

  next_numbered : (place number : ℕ) (spot : Spot) (o : Option Spot) → next_in driver spot (line_choice place) ≡ o → AreNumbered spot.world.parts
      → NumberedAt (by_next place number o)
  next_numbered place number spot None is h = tt
  next_numbered place number spot (Some next) is h =
      unless_wrong_numbered number next (first_wrong next.world) (each_event_leaves driver forward spot next (line_choice place) is h)

  behind_numbered : (place : ℕ) (spot : Spot) → AreNumbered spot.world.parts → NumberedAt (behind_next driver place spot)
  behind_numbered place spot h = by_test (is_left_out spot place (slice_get driver.lines.items place))
    where
      by_test : (b : Bool) → NumberedAt (if b then Ok spot else
          by_next place (number_of (slice_get driver.lines.items place)) (next_in driver spot (line_choice place)))
      by_test true = h
      by_test false =
          next_numbered place (number_of (slice_get driver.lines.items place)) spot (next_in driver spot (line_choice place)) refl h

  first_numbered : AreNumbered driver.start.parts → (count : ℕ) → NumberedAt (behind_first driver count)
  unfolding behind_first
  first_numbered h zero = h
  first_numbered h (suc place) = by_result (behind_first driver place) (first_numbered h place)
    where
      by_result : (o : Result Spot Halt) → NumberedAt o → NumberedAt (o >>= behind_next driver place)
      by_result (Ok spot) h = behind_numbered place spot h
      by_result (Err halt) h = tt

opened_by_numbered : (config : Config) (reading : Reading) → AreNumbered (opened_by config reading).parts
opened_by_numbered config reading endpoint part h =
    opened_numbered (pasids_of reading.lines) 0 (map conduct_of reading.devices) endpoint part h ∙ omega arith

-- ---- a text

stands_at : (read : Read) (its : Text) (o : Result Spot Halt) (out : List ℕ) → StandsAt read o (Stands its) out → IsText read its
stands_at read its (Ok spot) out h = h.0
stands_at read its (Err (halt.Refused place)) out h = absurd h
stands_at read its (Err (halt.Leaks number found)) out h = absurd (cc)

stands_by : (read : Read) (its : Text) (is_race : Bool) (out : List ℕ) → StandsBy read is_race (Stands its) out → IsText read its
stands_by read its true out h = stands_at read its (behind_first read.opening read.before) out h
stands_by read its false out h = absurd (cc)

module _ (read : DriverRead) (its : Text) (out : List ℕ) (h : ReadsDriver (Ok read) (Stands its) out) where
  abbrev kept : Read
  kept = h.0

  text : IsText kept its
  text = stands_by kept its kept.is_race out h.2

  opening_forward : GoesForward kept.opening
  opening_forward = opening_goes kept.opening.lines.items read.reading.lines h.1.opening.ways

  forward : GoesForward its.driver
  forward = λ place line there. opening_forward place line (ap (λ lines. slice_get lines.items place) (sym text.driver.lines) ∙ there)

  start_numbered : AreNumbered kept.opening.start.parts
  start_numbered =
      subst (λ (now : Open). AreNumbered now.parts) (sym h.1.opening.start) (opened_by_numbered read.config read.reading)

  numbered : AreNumbered its.driver.start.parts
  numbered =
      subst (λ (now : Open). AreNumbered now.parts) (sym text.driver.start)
      (subst NumberedAt text.first (first_numbered kept.opening opening_forward start_numbered kept.before))

reads : (o : Result DriverRead (List ℕ)) (its : Text) (out : List ℕ) → ReadsDriver o (Stands its) out
    → GoesForward its.driver × AreNumbered its.driver.start.parts
reads (Err said) its out h = absurd (cc)
reads (Ok read) its out h = (forward read its out h, numbered read its out h)

pub texts_go_forward : TextsGoForward
texts_go_forward text its out h = reads (driver_of text) its out h
