-- A witness as a driver without `race`: its front, and a line for each event, with who acts.
use Rattle.std.specs.Prelude.{ℕ, zero, suc, ◌+◌, ◌-◌, nat_lt, ◌&&◌, not, if◌then◌else◌, Bool, true, false, List, [], ◌∷◌, ◌++◌, codes, decimal, flat_map}
use Rattle.std.specs.Prelude.{◌||◌, length, replicate, slice_get, Option, Some, None, is_some}
use Rattle.std.specs.Option.{unwrap_or}
use Rattle.sva_step.specs.declared.limits.Config.{Config}
use Rattle.sva_open.specs.World.{Part}
use Rattle.sva_open.specs.declared.acts.Act.TheVariants as act
use Rattle.sva_open.specs.declared.acts.LocalAct.{LocalAct}
use Rattle.sva_open.specs.declared.acts.LocalAct.TheVariants as local
use Rattle.sva_open.specs.declared.settings.Settings.{Settings}
use Rattle.sva_open.specs.declared.settings.Link.{Link}
use Rattle.sva_open.specs.declared.settings.Link.TheVariants.{Free, Posted}
use Rattle.sva_open.specs.declared.settings.Stopped.{Stopped}
use Rattle.sva_open.specs.declared.settings.Stopped.TheVariants.{Marker, Status, Known}
use Rattle.sva_open.specs.declared.settings.Timeouts.{Timeouts}
use Rattle.sva_open.specs.declared.settings.Timeouts.TheVariants as timeouts
use Rattle.sva_judge.specs.declared.choices.Choice.{Choice}
use Rattle.sva_judge.specs.declared.choices.Doing.{Doing}
use Rattle.sva_judge.specs.declared.choices.Doing.TheVariants as doing
use Rattle.sva_open.specs.declared.drivers.Line.{Line}
use Rattle.sva_open.specs.declared.drivers.Saying.{Saying}
use Rattle.sva_open.specs.declared.drivers.Saying.TheVariants as saying
use Rattle.sva_open.specs.declared.drivers.Workers.{Workers}
use Rattle.sva_judge.specs.Choices.{act_of, is_found, next_in}
use Rattle.sva_judge.specs.Spots.{Spot}
use Rattle.sva_driver_texts.specs.Texts.{line_choice}
use Rattle.sva_driver_texts.specs.declared.kept.Said.{Said}
use Rattle.sva_driver_texts.specs.declared.kept.Text.{Text}
use Rattle.sva_driver_words.specs.Pieces.{and_number, places_text, with_endpoint}
use Rattle.sva_driver_words.specs.Units.{units_text}
use Rattle.sva_driver_reports.specs.Events.{local_text}

-- ---- Lines

-- an act that waits and does nothing else
abbrev pub is_wait : LocalAct → Bool
is_wait (local.AwaitWait name) = true
is_wait (local.AwaitPassed pasid thread) = true
is_wait local.AwaitQueue = true
is_wait (local.AwaitQueueOf pasid) = true
is_wait (local.AwaitGroups pasid) = true
is_wait local.AwaitResets = true
is_wait local.AwaitIdle = true
is_wait local.AwaitGone = true
is_wait _ = false

-- a line that waits or looks, and does nothing else, stands as a comment
abbrev pub is_comment : Saying → Bool
is_comment (saying.AwaitsLine line) = true
is_comment (saying.AwaitsWaits endpoint line) = true
is_comment (saying.Looks condition so) = true
is_comment (saying.Does (act.At endpoint its)) = is_wait its
is_comment _ = false

-- what a line that looks finds: is the branch behind it gone?
abbrev pub answer_text : (is_found : Bool) → List ℕ
answer_text true = codes ": yes"
answer_text false = codes ": no"

abbrev pub answer_of : Spot → Saying → List ℕ
answer_of spot (saying.Looks condition so) = answer_text (is_found spot condition so)
answer_of spot _ = []

-- before `race` a line has no thread
abbrev pub threaded : (thread : List ℕ) → List ℕ
threaded [] = []
threaded thread = thread ++ codes ", "

abbrev pub line_who : (thread : List ℕ) → (number : ℕ) → List ℕ
line_who thread number = threaded thread ++ codes "line " ++ decimal number

-- ---- Events

-- its line, with what it finds; who acts; and whether it stands as a comment
pub record EventSaid : Type 0 where
  pub text : List ℕ
  pub who : List ℕ
  pub is_comment : Bool

abbrev pub line_event : Spot → Option Line → Option Said → Option EventSaid
line_event spot (Some line) (Some said) =
    Some
    (record {
      text = said.text.items ++ answer_of spot line.saying;
      who = line_who said.thread.items line.number;
      is_comment = is_comment line.saying;
    })
line_event spot line said = None

abbrev pub who_text : Doing → (at : ℕ) → List ℕ
who_text doing.Line at = []
who_text doing.Deliver at = codes "link"
who_text doing.Pump at = with_endpoint (codes "unit") at
who_text doing.PumpAt at = with_endpoint (codes "unit") at
who_text doing.Expire at = with_endpoint (codes "unit") at
who_text doing.Write at = with_endpoint (codes "unit") at
who_text doing.ForgetEntry at = with_endpoint (codes "unit") at
who_text doing.Forget at = with_endpoint (codes "unit") at
who_text doing.Serve at = codes "worker"
who_text doing.Answer at = codes "worker"
who_text doing.Fail at = codes "worker"
who_text other at = with_endpoint (codes "endpoint") at

abbrev pub act_event : Doing → (at : ℕ) → Option Part → Option LocalAct → Option EventSaid
act_event own at (Some part) (Some its) = Some (record { text = local_text part at its; who = who_text own at; is_comment = false })
act_event own at part its = None

abbrev pub own_by : Text → Spot → Doing → (at number : ℕ) → Option EventSaid
own_by text spot own at number = act_event own at (slice_get spot.world.parts at) (act_of text.driver spot own at number)

abbrev pub own_event : Text → Spot → Choice → Option EventSaid
own_event text spot choice = own_by text spot choice.doing choice.at choice.number

abbrev pub event_by : Text → Spot → Doing → (at number : ℕ) → Option EventSaid
event_by text spot doing.Line at number = line_event spot (slice_get text.driver.lines.items number) (slice_get text.said.items number)
event_by text spot own at number = own_by text spot own at number

abbrev pub event_of : Text → Spot → Choice → Option EventSaid
event_of text spot choice = event_by text spot choice.doing choice.at choice.number

abbrev pub with_event : Option EventSaid → Option Spot → (rest : Spot → List EventSaid) → List EventSaid
with_event None next rest = []
with_event (Some event) None rest = event ∷ []
with_event (Some event) (Some next) rest = event ∷ rest next

-- the events of choices, one after another
unfoldable pub events_from : Text → Spot → List Choice → List EventSaid
events_from text spot [] = []
events_from text spot (choice ∷ choices) =
    with_event (event_of text spot choice) (next_in text.driver spot choice) (λ next. events_from text next choices)

-- where they lead
abbrev pub spot_behind : Spot → Option EventSaid → Option Spot → (rest : Spot → Spot) → Spot
spot_behind spot None next rest = spot
spot_behind spot (Some event) None rest = spot
spot_behind spot (Some event) (Some next) rest = rest next

unfoldable pub last_spot : Text → Spot → List Choice → Spot
last_spot text spot [] = spot
last_spot text spot (choice ∷ choices) =
    spot_behind spot (event_of text spot choice) (next_in text.driver spot choice) (λ next. last_spot text next choices)

-- ---- Their lines: who acts begins in one column

abbrev pub wider : (width : ℕ) → EventSaid → ℕ
wider width event = if not event.is_comment && nat_lt width (length event.text) then length event.text else width

unfoldable pub width_from : (width : ℕ) → List EventSaid → ℕ
width_from width [] = width
width_from width (event ∷ events) = width_from (wider width event) events

abbrev pub padded : (width : ℕ) → List ℕ → List ℕ
padded width text = text ++ replicate (width - length text) 32

abbrev pub comment_line : EventSaid → List ℕ
comment_line event = codes "# " ++ event.who ++ codes ": " ++ event.text ++ 10 ∷ []

abbrev pub doing_line : (width : ℕ) → EventSaid → List ℕ
doing_line width event = padded width event.text ++ codes " # " ++ event.who ++ 10 ∷ []

abbrev pub event_line : (width : ℕ) → EventSaid → List ℕ
event_line width event = if event.is_comment then comment_line event else doing_line width event

abbrev pub events_text : List EventSaid → List ℕ
events_text events = flat_map (event_line (width_from 0 events)) events

-- ---- The front

abbrev pub link_text : Link → List ℕ
link_text Free = codes ""
link_text Posted = codes "link posted\n"

abbrev pub stopped_text : Stopped → List ℕ
stopped_text Marker = codes ""
stopped_text Status = codes "stopped status\n"
stopped_text Known = codes "stopped known\n"

abbrev pub timeouts_text : Timeouts → List ℕ
timeouts_text timeouts.Off = codes ""
timeouts_text timeouts.On = codes "timeouts on\n"
timeouts_text timeouts.Stop = codes "timeouts stop\n"

abbrev pub said_if : Bool → List ℕ → List ℕ
said_if true text = text
said_if false text = []

-- the settings of a pair that aren't those that hold where nothing is said
abbrev pub pairs_text : Settings → List ℕ
pairs_text settings =
    link_text settings.link
    ++ said_if (not settings.all_fence) (codes "waits plain\n")
    ++ said_if (not settings.drain_empties) (codes "drain arrived\n")
    ++ said_if settings.has_caches (codes "caches on\n")
    ++ stopped_text settings.stopped
    ++ said_if settings.is_loose (codes "order loose\n")

-- the settings that are told only where they are said
abbrev pub unpaired_text : Settings → List ℕ
unpaired_text settings =
    said_if settings.clears_controls (codes "enables cleared\n") ++ timeouts_text settings.timeouts
    ++ said_if settings.refuses_drain (codes "refuses drain\n") ++ said_if settings.allows_no_group (codes "allow no-group\n")
    ++ places_text [] (codes "\n") settings.places

abbrev pub settings_text : Settings → List ℕ
settings_text settings = pairs_text settings ++ unpaired_text settings

-- the line that says how workers answer, where there are any
abbrev pub workers_line : Workers → List ℕ
workers_line workers =
    codes "workers" ++ said_if workers.answer (codes " success") ++ said_if workers.fail (codes " failure") ++ codes "\n"

abbrev pub workers_text : Workers → List ℕ
workers_text workers = said_if workers.are_there (workers_line workers)

-- the line that says what an endpoint is like
abbrev pub conduct_line : (endpoint : ℕ) → Part → List ℕ
conduct_line endpoint part =
    with_endpoint (codes "device") endpoint
    ++ said_if part.lies (codes " lies") ++ said_if part.awaits (codes " awaits") ++ codes "\n"

abbrev pub conduct_text : (endpoint : ℕ) → Part → List ℕ
conduct_text endpoint part = said_if (part.lies || part.awaits) (conduct_line endpoint part)

unfoldable pub conducts_from : (endpoint : ℕ) → List Part → List ℕ
conducts_from endpoint [] = []
conducts_from endpoint (part ∷ parts) = conduct_text endpoint part ++ conducts_from (endpoint + 1) parts

-- where a line leads that is taken in order: nowhere, where its thread has gone past it
abbrev pub behind_place : Text → Spot → (place : ℕ) → Spot
behind_place text spot place = unwrap_or (next_in text.driver spot (line_choice place)) spot

-- where those before a place lead
unfoldable pub spot_before : Text → (place : ℕ) → Spot
spot_before text zero = text.opened
spot_before text (suc place) = behind_place text (spot_before text place) place

-- a line before `race`, where it was taken
abbrev pub front_line : EventSaid → List ℕ
front_line event = if event.is_comment then comment_line event else event.text ++ 10 ∷ []

abbrev pub told_if : (taken : Bool) → Option EventSaid → List ℕ
told_if true (Some event) = front_line event
told_if taken event = []

abbrev pub before_text : Text → Spot → (place : ℕ) → List ℕ
before_text text spot place =
    told_if (is_some (next_in text.driver spot (line_choice place))) (event_of text spot (line_choice place))

-- so many of them
unfoldable pub befores : Text → (count : ℕ) → List ℕ
befores text zero = []
befores text (suc place) = befores text place ++ before_text text (spot_before text place) place

abbrev pub config_text : Config → List ℕ
config_text config = codes "config" ++ and_number config.endpoints ++ and_number config.frames ++ and_number config.workers ++ 10 ∷ []

abbrev pub front_text : Text → List ℕ
front_text text =
    config_text text.config ++ settings_text text.driver.start.settings
    ++ units_text text.driver.start.units [] (codes "\n") ++ workers_text text.driver.workers
    ++ conducts_from 0 text.driver.start.parts ++ befores text text.before ++ codes "# race\n"
