-- Each event that is permitted lowers the measure of a driver whose lines go forward.
use Rattle.std.proofs.Common.{◌≡◌, ◌∙◌, ◌<◌, ◌≤◌, ℕ, ◌+◌, ◌-◌, Bool, true, false, Option, Some, None, option_map, List}
use Rattle.std.proofs.Common.{drop, get_or, length, refl, ap, sym, subst, arith, rules}
use Rattle.std.proofs.lemmas.Bool.{and_from, eqb-true, ltb-true}
use Rattle.std.proofs.lemmas.List.Sums.{sum_by-drop_more}
use Rattle.std.proofs.lemmas.Option.{get_or_from_slice_get, slice_get_within}
use Rattle.std.specs.Prelude.{⊤, ◌==◌, ◌&&◌, nat_lt, if◌then◌else◌, slice_get, slice_set, sum_by}
use Rattle.sva_open.specs.declared.frames.Mapping.{Mapping}
use Rattle.sva_open.specs.declared.frames.Translation.{Translation}
use Rattle.sva_open.specs.declared.descriptors.Filed.{Filed}
use Rattle.sva_open.specs.declared.descriptors.Issued.{Issued}
use Rattle.sva_open.specs.declared.descriptors.Issued.TheVariants.{Sent as Issue, Waiting}
use Rattle.sva_open.specs.declared.works.Group.{Group}
use Rattle.sva_open.specs.declared.settings.Settings.{Settings}
use Rattle.sva_open.specs.declared.acts.Act.{Act}
use Rattle.sva_open.specs.declared.acts.Act.TheVariants as act
use Rattle.sva_open.specs.declared.acts.LocalAct.{LocalAct}
use Rattle.sva_open.specs.declared.acts.LocalAct.TheVariants as local
use Rattle.sva_open.specs.declared.drivers.Budget.{Budget}
use Rattle.sva_open.specs.declared.drivers.Device.{Device}
use Rattle.sva_open.specs.declared.drivers.Driver.{Driver}
use Rattle.sva_open.specs.declared.drivers.Fault.{Fault}
use Rattle.sva_open.specs.declared.drivers.Line.{Line}
use Rattle.sva_open.specs.declared.drivers.Page.{Page}
use Rattle.sva_open.specs.declared.drivers.Saying.{Saying}
use Rattle.sva_open.specs.declared.drivers.Saying.TheVariants.{Does, Names, AwaitsLine, AwaitsWaits, Locks, Unlocks, Sets, Looks}
use Rattle.sva_open.specs.declared.naming.Named.{Named}
use Rattle.sva_open.specs.declared.naming.Named.TheVariants as named
use Rattle.sva_open.specs.World.{Open, Part}
use Rattle.sva_open.specs.Acts.{next_open, next_part}
use Rattle.sva_open.specs.Finding.{found, is_draining, is_of_kind, is_taken, is_use, more_of, nth}
use Rattle.sva_open.specs.Host.{is_group}
use Rattle.sva_judge.specs.Choices as choice
use Rattle.sva_judge.specs.Choices.{act_of, behind_act, behind_choice, behind_line, behind_named, behind_own, found_at, goes_on}
use Rattle.sva_judge.specs.Choices.{has_left, if_taken, is_at, is_found, is_locked, is_next, is_open_to, local_act, next_in, noted, own_act}
use Rattle.sva_judge.specs.Choices.{said, spent, was_taken, with_flag, with_leave, with_lock, with_spent, with_world}
use Rattle.sva_judge.specs.Spots.{Spot}
use Rattle.sva_judge.specs.declared.choices.Choice.{Choice}
use Rattle.sva_judge.specs.declared.choices.Doing.{Doing}
use Rattle.sva_judge.specs.declared.choices.Doing.TheVariants as doing
use Rattle.sva_open_laws.specs.Ends.{EachEventLowers, GoesForward, IsBehind, ahead_of, budget_weight, line_price, measure, named_price, saying_price}
use Rattle.sva_open_laws.specs.Weights.{AreNumbered, act_price, further_price, local_price, part_weight, world_weight}
use Rattle.sva_open_laws.proofs.Weighed.{any_at, further_behind, put_in}
use Rattle.sva_open_laws.proofs.HostPaid.{IsBelow}
use Rattle.sva_open_laws.proofs.WorldsPaid.{IsPaid, act_at, act_in, acts_for, answer_at, more_paid}

-- ---- what a line says: only the world may weigh more, by its price

-- all that the threads and the budgets have is as it was, the world weighs less than so much, and each endpoint stays at its number
record IsSaid (spot : Spot) (bound : ℕ) (next : Spot) : Type 0 where
  at : next.at ≡ spot.at
  left : next.left ≡ spot.left
  world : world_weight next.world < bound
  numbered : AreNumbered spot.world.parts → AreNumbered next.world.parts

abbrev Says : Spot → (bound : ℕ) → Option Spot → Type 0
Says spot bound None = ⊤
Says spot bound (Some next) = IsSaid spot bound next

acted : (spot : Spot) (bound : ℕ) (o : Option Open) → IsPaid spot.world bound o → Says spot bound (option_map (with_world spot) o)
acted spot bound None h = tt
acted spot bound (Some next) h = record { at = refl; left = refl; world = h.0; numbered = h.1 }

acts : (spot : Spot) (one : Act) → AreNumbered spot.world.parts → Says spot (world_weight spot.world + act_price one) (behind_act spot one)
acts spot one numbered = acted spot (world_weight spot.world + act_price one) (next_open spot.world one) (act_in spot.world one numbered)

if_so : (spot : Spot) (bound : ℕ) (b : Bool) (o : Option Spot) → Says spot bound o → Says spot bound (if_taken b o)
if_so spot bound true o h = h
if_so spot bound false o h = tt

-- an act that a line names costs what its name does
abbrev Costs : (price : ℕ) → Option LocalAct → Type 0
Costs price None = ⊤
Costs price (Some its) = local_price its ≡ price

placed_costs : (by : ℕ → LocalAct) → ((place : ℕ) → local_price (by place) ≡ 0) → (o : Option ℕ) → Costs 0 (option_map by o)
placed_costs by free None = tt
placed_costs by free (Some place) = free place

more_costs : (pasid index page : ℕ) (write last : Bool) (o : Option (Option Group)) → Costs (further_price last) (more_of pasid index page write last o)
more_costs pasid index page write last None = tt
more_costs pasid index page write last (Some None) = tt
more_costs pasid index page write last (Some (Some group)) = by_test (group.pasid == pasid)
  where
    by_test : (b : Bool) → Costs (further_price last) (if b then Some (local.More index page write last) else None)
    by_test true = refl
    by_test false = tt

named_costs : (part : Part) (name : Named) → Costs (named_price name) (found part name)
named_costs part (named.Deliver own older) = placed_costs local.Deliver (λ place. refl) (nth (is_of_kind own) older part.flight)
named_costs part (named.End older) = placed_costs local.End (λ place. refl) (nth is_use older part.works)
named_costs part (named.Finish older) = placed_costs local.Finish (λ place. refl) (nth is_taken older part.works)
named_costs part (named.Pass older) = placed_costs local.Pass (λ place. refl) (nth is_draining older part.works)
named_costs part (named.More pasid index page write last) = more_costs pasid index page write last (slice_get part.groups index)
named_costs part (named.ForgetEntry pasid) = placed_costs local.ForgetEntry (λ place. refl) _
named_costs part (named.Forget pasid page) = placed_costs local.Forget (λ place. refl) _

found_costs : (name : Named) (o : Option Part) → Costs (named_price name) (found_at name o)
found_costs name None = tt
found_costs name (Some part) = named_costs part name

named_says : (spot : Spot) (endpoint price : ℕ) (o : Option LocalAct) → AreNumbered spot.world.parts → Costs price o
    → Says spot (world_weight spot.world + price) (behind_named spot endpoint o)
named_says spot endpoint price None numbered h = tt
named_says spot endpoint price (Some its) numbered h =
    subst (λ n. Says spot (world_weight spot.world + n) (behind_act spot (act.At endpoint its))) h (acts spot (act.At endpoint its) numbered)

-- a line that does nothing in the world
rests : (spot next : Spot) → next.at ≡ spot.at → next.left ≡ spot.left → next.world ≡ spot.world → IsSaid spot (world_weight spot.world + 1) next
rests spot next at left world =
    let same = ap world_weight world in
    record { at = at; left = left; world = omega (arith, same); numbered = λ h. subst (λ (now : Open). AreNumbered now.parts) (sym world) h }

line_says : (spot : Spot) (saying : Saying) → AreNumbered spot.world.parts
    → Says spot (world_weight spot.world + saying_price saying) (said spot saying)
line_says spot (Does its) numbered = acts spot its numbered
line_says spot (Names endpoint name) numbered =
    named_says spot endpoint (named_price name) (found_at name (slice_get spot.world.parts endpoint)) numbered
    (found_costs name (slice_get spot.world.parts endpoint))
line_says spot (AwaitsLine line) numbered = if_so spot _ (was_taken spot line) (Some spot) (rests spot spot refl refl refl)
line_says spot (AwaitsWaits endpoint line) numbered =
    if_so spot _ (was_taken spot line) (behind_act spot (act.At endpoint (local.AwaitWait line)))
    (acts spot (act.At endpoint (local.AwaitWait line)) numbered)
line_says spot (Locks lock) numbered =
    if_so spot _ _ (Some (with_lock lock true spot)) (rests spot (with_lock lock true spot) refl refl refl)
line_says spot (Unlocks lock) numbered =
    if_so spot _ (is_locked spot lock) (Some (with_lock lock false spot)) (rests spot (with_lock lock false spot) refl refl refl)
line_says spot (Sets flag on) numbered = rests spot (with_flag flag on spot) refl refl refl
line_says spot (Looks its so) numbered = rests spot spot refl refl refl

-- ---- a line that is taken: its thread has less before it

goes_by : (Such : Option ℕ → Type 0) (spot : Spot) (line : Line) (saying : Saying) → Such line.next → Such line.other
    → Such (goes_on spot line saying)
goes_by Such spot line (Looks its so) next other = by_test (is_found spot its so)
  where
    by_test : (b : Bool) → Such (if b then line.next else line.other)
    by_test true = next
    by_test false = other
goes_by Such spot line (Does its) next other = next
goes_by Such spot line (Names endpoint name) next other = next
goes_by Such spot line (AwaitsLine its) next other = next
goes_by Such spot line (AwaitsWaits endpoint its) next other = next
goes_by Such spot line (Locks lock) next other = next
goes_by Such spot line (Unlocks lock) next other = next
goes_by Such spot line (Sets flag on) next other = next

left_behind : (lines : List Line) (place : ℕ) (line : Line) (o : Option ℕ) → slice_get lines place ≡ Some line → IsBehind place o
    → ahead_of lines o + line_price line ≤ ahead_of lines (Some place)
left_behind lines place line o h forward = by_next o forward
  where
    same : line_price (get_or lines place line) ≡ line_price line
    same = ap line_price (get_or_from_slice_get lines place line line h)

    whole : sum_by line_price (drop place lines) ≡ line_price (get_or lines place line) + sum_by line_price (drop (place + 1) lines)
    whole = sum_by-drop_more line_price lines place line (slice_get_within lines place line h)

    by_next : (o : Option ℕ) → IsBehind place o → ahead_of lines o + line_price line ≤ ahead_of lines (Some place)
    by_next None low = omega (arith, whole, same)
    by_next (Some next) low =
        let less = further_behind line_price lines (place + 1) next (omega (arith, low)) in
        omega (arith, whole, same, less)

next_at : (place : ℕ) (o : Option (Option ℕ)) → is_at place o ≡ true → o ≡ Some (Some place)
next_at place None h = absurd (cc)
next_at place (Some None) h = absurd (cc)
next_at place (Some (Some next)) h = ap (λ n. Some (Some n)) (eqb-true next place h)

-- what is permitted lowers the measure, and leaves each endpoint at its number
abbrev Lowers : Driver → Spot → Option Spot → Type 0
Lowers driver spot None = ⊤
Lowers driver spot (Some next) =
    (measure driver next < measure driver spot) × (AreNumbered spot.world.parts → AreNumbered next.world.parts)

noted_lowers : (driver : Driver) (spot : Spot) (place : ℕ) (line : Line) (next : Option ℕ) (o : Option Spot)
    → slice_get driver.lines.items place ≡ Some line → slice_get spot.at line.thread ≡ Some (Some place) → IsBehind place next
    → Says spot (world_weight spot.world + line_price line) o
    → Lowers driver spot (option_map (noted place line.thread next) o)
noted_lowers driver spot place line next None h at forward said = tt
noted_lowers driver spot place line next (Some behind) h at forward said =
    let lines = driver.lines.items in
    let put = put_in (ahead_of lines) spot.at line.thread (Some place) next at in
    let threads = ap (λ (at : List (Option ℕ)). sum_by (ahead_of lines) (slice_set at line.thread next)) said.at in
    let budgets = ap (sum_by budget_weight) said.left in
    let less = left_behind lines place line next h forward in
    let world = said.world in
    (omega (arith, put, threads, budgets, less, world), said.numbered)

line_lowers : (driver : Driver) → GoesForward driver → (spot : Spot) → AreNumbered spot.world.parts → (place : ℕ) (o : Option Line)
    → slice_get driver.lines.items place ≡ o → Lowers driver spot (behind_line spot place o)
line_lowers driver forward spot numbered place None h = tt
line_lowers driver forward spot numbered place (Some line) h = by_test (is_next spot place line) refl
  where
    goes : IsBehind place (goes_on spot line line.saying)
    goes = goes_by (IsBehind place) spot line line.saying (forward place line h).0 (forward place line h).1

    by_test : (b : Bool) → is_next spot place line ≡ b
        → Lowers driver spot (if b then option_map (noted place line.thread (goes_on spot line line.saying)) (said spot line.saying) else None)
    by_test true is =
        noted_lowers driver spot place line (goes_on spot line line.saying) (said spot line.saying) h
        (next_at place (slice_get spot.at line.thread) is) goes (line_says spot line.saying numbered)
    by_test false is = tt

-- ---- what endpoints, units and workers do by themselves: their budgets pay for what it adds

abbrev doing_price : Doing → ℕ
doing_price doing.Ask = 6
doing_price doing.Use = 2
doing_price doing.Fault = 12
doing_price doing.Further = 12
doing_price own = 0

-- an act at a part costs no more than so much
abbrev Pays : Settings → List Mapping → Part → (price : ℕ) → Option LocalAct → Type 0
Pays settings mappings part price None = ⊤
Pays settings mappings part price (Some its) = IsBelow (part_weight part + price) (next_part settings mappings part its)

leave_pays : (settings : Settings) (mappings : List Mapping) (part : Part) (price : ℕ) (b : Bool) (its : LocalAct)
    → Pays settings mappings part price (Some its) → Pays settings mappings part price (with_leave b its)
leave_pays settings mappings part price true its h = h
leave_pays settings mappings part price false its h = tt

own_group : (filed : Filed) → is_group filed.pasid filed.index filed ≡ true
own_group filed = and_from (filed.pasid == filed.pasid) (filed.index == filed.index) (search rules) (search rules)

respond_pays : (settings : Settings) (mappings : List Mapping) (part : Part) (may fails : Bool) (number : ℕ) (o : Option Filed)
    → slice_get part.filed number ≡ o → Pays settings mappings part 0 (choice.respond may fails o)
respond_pays settings mappings part may fails number None h = tt
respond_pays settings mappings part may fails number (Some filed) h =
    leave_pays settings mappings part 0 (may && filed.is_whole) (local.Respond filed.pasid filed.index fails)
    (answer_at settings mappings part (local.Respond filed.pasid filed.index fails)
    (any_at (is_group filed.pasid filed.index) part.filed number filed h (own_group filed)))

module _ (settings : Settings) (mappings : List Mapping) (part : Part) where
  expires : (silent : Bool) (o : Option Issued) → Pays settings mappings part 0 (choice.expire silent o)
  expires silent None = tt
  expires silent (Some (Issue endpoint itag)) = act_at settings mappings part (local.Expire itag silent)
  expires silent (Some (Waiting name drain)) = tt

  completes : (index : ℕ) (o : Option (Option Group)) → Pays settings mappings part 0 (choice.complete index o)
  completes index None = tt
  completes index (Some None) = tt
  completes index (Some (Some group)) = act_at settings mappings part (local.More index 0 false true)

  asks : (o : Option Page) → Pays settings mappings part 6 (choice.ask o)
  asks None = tt
  asks (Some page) = act_at settings mappings part (local.Ask page.pasid page.page)

  uses : (o : Option Translation) → Pays settings mappings part 2 (choice.use_held o)
  uses None = tt
  uses (Some held) = act_at settings mappings part (local.Use held.pasid held.page)

  evicts : (b : Bool) (o : Option Translation) → Pays settings mappings part 0 (choice.evict b o)
  evicts b None = tt
  evicts b (Some held) =
      leave_pays settings mappings part 0 b (local.Evict held.pasid held.page) (act_at settings mappings part (local.Evict held.pasid held.page))

  faults : (o : Option Fault) → Pays settings mappings part 12 (choice.fault o)
  faults None = tt
  faults (Some it) = act_at settings mappings part (local.Fault it.pasid it.page it.write it.last)

  goes_further : (b : Bool) (index : ℕ) (o : Option (Option Group)) → Pays settings mappings part 12 (choice.further b index o)
  goes_further b index None = tt
  goes_further b index (Some None) = tt
  goes_further b index (Some (Some group)) =
      leave_pays settings mappings part 12 b (local.More index 0 false false)
      (more_paid (part_weight part + 6) (part_weight part + 12) (next_part settings mappings part (local.More index 0 false false))
      (omega arith) (act_at settings mappings part (local.More index 0 false false)))

own_pays : (driver : Driver) (device : Device) (settings : Settings) (mappings : List Mapping) (part : Part) (own : Doing) (number : ℕ)
    → Pays settings mappings part (doing_price own) (local_act driver device part own number)
own_pays driver device settings mappings part doing.Line number = tt
own_pays driver device settings mappings part doing.Deliver number = act_at settings mappings part (local.Deliver number)
own_pays driver device settings mappings part doing.Pump number = act_at settings mappings part local.Pump
own_pays driver device settings mappings part doing.PumpAt number = act_at settings mappings part (local.PumpAt number)
own_pays driver device settings mappings part doing.Write number = act_at settings mappings part local.Write
own_pays driver device settings mappings part doing.Expire number = expires settings mappings part device.is_silent (slice_get part.issued number)
own_pays driver device settings mappings part doing.Serve number =
    leave_pays settings mappings part 0 driver.workers.are_there local.Serve (act_at settings mappings part local.Serve)
own_pays driver device settings mappings part doing.Answer number =
    respond_pays settings mappings part (driver.workers.are_there && driver.workers.answer) false number (slice_get part.filed number) refl
own_pays driver device settings mappings part doing.Fail number =
    respond_pays settings mappings part (driver.workers.are_there && driver.workers.fail) true number (slice_get part.filed number) refl
own_pays driver device settings mappings part doing.End number = act_at settings mappings part (local.End number)
own_pays driver device settings mappings part doing.Finish number = act_at settings mappings part (local.Finish number)
own_pays driver device settings mappings part doing.Pass number = act_at settings mappings part (local.Pass number)
own_pays driver device settings mappings part doing.Quit number = act_at settings mappings part (local.Quit number)
own_pays driver device settings mappings part doing.Complete number = completes settings mappings part number (slice_get part.groups number)
own_pays driver device settings mappings part doing.Ask number = asks settings mappings part (slice_get device.pages.items number)
own_pays driver device settings mappings part doing.Use number = uses settings mappings part (slice_get part.held number)
own_pays driver device settings mappings part doing.Fault number = faults settings mappings part (slice_get device.faults.items number)
own_pays driver device settings mappings part doing.Further number =
    goes_further settings mappings part (nat_lt 0 (length device.faults.items)) number (slice_get part.groups number)
own_pays driver device settings mappings part doing.Evict number = evicts settings mappings part device.evicts (slice_get part.held number)
own_pays driver device settings mappings part doing.ForgetEntry number = act_at settings mappings part (local.ForgetEntry number)
own_pays driver device settings mappings part doing.Forget number = act_at settings mappings part (local.Forget number)
own_pays driver device settings mappings part doing.Leave number =
    leave_pays settings mappings part 0 device.leaves local.Leave (act_at settings mappings part local.Leave)

-- so it is of what there is at an endpoint
its_pays : (driver : Driver) (settings : Settings) (mappings : List Mapping) (own : Doing) (number : ℕ) (device : Option Device) (part : Part)
    → Pays settings mappings part (doing_price own) (own_act driver own number device (Some part))
its_pays driver settings mappings own number None part = tt
its_pays driver settings mappings own number (Some device) part = own_pays driver device settings mappings part own number

-- ---- budgets

one_less : (n : ℕ) → nat_lt 0 n ≡ true → n - 1 + 1 ≡ n
one_less n h =
    let some = ltb-true 0 n h in
    omega (arith, some)

spent_pays : (left : Budget) (own : Doing) → has_left left own ≡ true → budget_weight (spent left own) + doing_price own ≤ budget_weight left
spent_pays left doing.Ask h =
    let less = one_less left.asks h in
    omega (arith, less)
spent_pays left doing.Use h =
    let less = one_less left.uses h in
    omega (arith, less)
spent_pays left doing.Fault h =
    let less = one_less left.faults h in
    omega (arith, less)
spent_pays left doing.Further h =
    let less = one_less left.faults h in
    omega (arith, less)
spent_pays left own h = omega arith

-- ---- each choice

spent_lowers : (driver : Driver) (spot : Spot) (own : Doing) (at : ℕ) (left : Budget) (o : Option Spot)
    → slice_get spot.left at ≡ Some left → has_left left own ≡ true → Says spot (world_weight spot.world + doing_price own) o
    → Lowers driver spot (option_map (with_spent at (spent left own)) o)
spent_lowers driver spot own at left None h so said = tt
spent_lowers driver spot own at left (Some behind) h so said =
    let put = put_in budget_weight spot.left at left (spent left own) h in
    let budgets = ap (λ (all : List Budget). sum_by budget_weight (slice_set all at (spent left own))) said.left in
    let threads = ap (sum_by (ahead_of driver.lines.items)) said.at in
    let paid = spent_pays left own so in
    let world = said.world in
    (omega (arith, put, budgets, threads, paid, world), said.numbered)

own_lowers : (driver : Driver) (spot : Spot) → AreNumbered spot.world.parts → (own : Doing) (at number : ℕ) (left : Option Budget)
    (its : Option LocalAct) → slice_get spot.left at ≡ left → act_of driver spot own at number ≡ its
    → Lowers driver spot (behind_own spot own at left its)
own_lowers driver spot numbered own at number None its h is = tt
own_lowers driver spot numbered own at number (Some left) None h is = tt
own_lowers driver spot numbered own at number (Some left) (Some its) h is = by_test (has_left left own) refl
  where
    pays : (part : Part) → slice_get spot.world.parts at ≡ Some part
        → IsBelow (part_weight part + doing_price own) (next_part spot.world.settings spot.world.mappings part its)
    pays part there =
        subst (λ (one : Option LocalAct). Pays spot.world.settings spot.world.mappings part (doing_price own) one)
        (sym (ap (own_act driver own number (slice_get driver.devices.items at)) there) ∙ is)
        (its_pays driver spot.world.settings spot.world.mappings own number (slice_get driver.devices.items at) part)

    says : Says spot (world_weight spot.world + doing_price own) (behind_act spot (act.At at its))
    says = acted spot (world_weight spot.world + doing_price own) (next_open spot.world (act.At at its))
        (acts_for spot.world at (doing_price own) its numbered pays)

    by_test : (b : Bool) → has_left left own ≡ b
        → Lowers driver spot (if b then option_map (with_spent at (spent left own)) (behind_act spot (act.At at its)) else None)
    by_test true so = spent_lowers driver spot own at left (behind_act spot (act.At at its)) h so says
    by_test false so = tt

choice_lowers : (driver : Driver) → GoesForward driver → (spot : Spot) → AreNumbered spot.world.parts → (own : Doing) (at number : ℕ)
    → Lowers driver spot (behind_choice driver spot own at number)
choice_lowers driver forward spot numbered doing.Line at number =
    line_lowers driver forward spot numbered number (slice_get driver.lines.items number) refl
choice_lowers driver forward spot numbered own at number =
    own_lowers driver spot numbered own at number (slice_get spot.left at) (act_of driver spot own at number) refl refl

lowers : (driver : Driver) → GoesForward driver → (spot : Spot) → AreNumbered spot.world.parts → (one : Choice)
    → Lowers driver spot (next_in driver spot one)
lowers driver forward spot numbered one = by_test (is_open_to driver spot one)
  where
    by_test : (b : Bool) → Lowers driver spot (if b then behind_choice driver spot one.doing one.at one.number else None)
    by_test true = choice_lowers driver forward spot numbered one.doing one.at one.number
    by_test false = tt

pub each_event_lowers : EachEventLowers
each_event_lowers driver forward spot next one numbered h =
    (subst (λ (o : Option Spot). Lowers driver spot o) h (lowers driver forward spot numbered one)).0

pub each_event_leaves : (driver : Driver) → GoesForward driver → (spot next : Spot) (one : Choice) → next_in driver spot one ≡ Some next
    → AreNumbered spot.world.parts → AreNumbered next.world.parts
each_event_leaves driver forward spot next one h numbered =
    (subst (λ (o : Option Spot). Lowers driver spot o) h (lowers driver forward spot numbered one)).1 numbered
