-- The report of a driver that was judged, and what it says in a word.
use Rattle.std.specs.Prelude.{ℕ, ◌+◌, ◌&&◌, not, nat_lt, if◌then◌else◌, Bool, true, false, List, [], ◌∷◌, ◌++◌}
use Rattle.std.specs.Prelude.{codes, length, slice_get}
use Rattle.std.specs.Prelude.{flat_map}
use Rattle.std.specs.Prelude.{Option, Some, None}
use Rattle.sva_open.specs.World.{Part, is_stopping}
use Rattle.sva_open.specs.declared.rows.Row.{Row}
use Rattle.sva_open.specs.declared.settings.Conduct.{Conduct}
use Rattle.sva_open.specs.declared.works.Group.{Group}
use Rattle.sva_open_safe.specs.Wrongs.{first_wrong}
use Rattle.sva_open_safe.specs.declared.wrongs.Wrong.{Wrong}
use Rattle.sva_judge.specs.declared.choices.Choice.{Choice}
use Rattle.sva_open.specs.declared.drivers.Device.{Device}
use Rattle.sva_open.specs.declared.drivers.Line.{Line}
use Rattle.sva_judge.specs.Choices.{is_next}
use Rattle.sva_judge.specs.Spots.{Spot, start_of}
use Rattle.sva_judge.specs.declared.findings.Finding.{Finding}
use Rattle.sva_judge.specs.declared.verdicts.Looked.{Looked}
use Rattle.sva_judge.specs.declared.verdicts.Verdict.{Verdict}
use Rattle.sva_judge.specs.declared.verdicts.Verdict.TheVariants as verdict
use Rattle.sva_driver_texts.specs.Budgets.{is_pageless, is_unasked, is_unstarted}
use Rattle.sva_driver_texts.specs.declared.kept.Said.{Said}
use Rattle.sva_driver_texts.specs.declared.kept.Text.{Text}
use Rattle.sva_driver_words.specs.Pieces.{and_number, counted_text, with_endpoint}
use Rattle.sva_driver_reports.specs.Limits.{limits_text}
use Rattle.sva_driver_reports.specs.Findings.{wrong_text}
use Rattle.sva_driver_reports.specs.Nevers.{is_tried, nevers_text, untried_text}
use Rattle.sva_driver_reports.specs.Witness.{EventSaid, events_from, events_text, front_text, last_spot, line_who, said_if}
use Rattle.sva_driver_reports.specs.declared.reports.Ruling.{Ruling}
use Rattle.sva_driver_reports.specs.declared.reports.Ruling.TheVariants as ruling

abbrev pub moments_text : (count : ℕ) → List ℕ
moments_text count = counted_text count (codes "moment") (codes "moments")

abbrev pub findings_count : (count : ℕ) → List ℕ
findings_count count = counted_text count (codes "finding") (codes "findings")

abbrev pub events_count : (count : ℕ) → List ℕ
events_count count = counted_text count (codes "event") (codes "events")

-- ---- What endpoints may do by themselves

-- what can't be made of it, and why
abbrev pub unmade_text : List Line → (endpoint : ℕ) → Device → List ℕ
unmade_text lines endpoint device =
    if is_unstarted lines endpoint device
    then codes "; none can be made: no line starts a PASID there"
    else said_if (is_pageless device) (codes "; no ask or fault can be made: it has no page")
    ++ said_if (is_unasked lines endpoint device) (codes "; no use can be made: nothing asks there")

abbrev pub within_text : List Line → (endpoint : ℕ) → Device → Conduct → List ℕ
within_text lines endpoint device conduct =
    with_endpoint (codes "within endpoint") endpoint ++ codes ": "
    ++ counted_text device.budget.asks (codes "ask") (codes "asks") ++ codes ", "
    ++ counted_text device.budget.uses (codes "use") (codes "uses") ++ codes ", "
    ++ counted_text device.budget.faults (codes "fault") (codes "faults")
    ++ said_if device.evicts (codes ", evicts") ++ said_if device.is_silent (codes ", silent")
    ++ said_if conduct.lies (codes ", lies") ++ said_if conduct.awaits (codes ", awaits") ++ said_if device.leaves (codes ", leaves")
    ++ unmade_text lines endpoint device ++ 10 ∷ []

abbrev pub conduct_in : Option Part → Conduct
conduct_in None = record { lies = false; awaits = false }
conduct_in (Some part) = record { lies = part.lies; awaits = part.awaits }

-- each line behind a mark
abbrev pub marked_text : (mark : List ℕ) → List Part → List Line → (endpoint : ℕ) → Device → List ℕ
marked_text mark parts lines endpoint device =
    mark ++ within_text lines endpoint device (conduct_in (slice_get parts endpoint))

unfoldable pub budgets_from : (mark : List ℕ) → List Part → List Line → (endpoint : ℕ) → List Device → List ℕ
budgets_from mark parts lines endpoint [] = []
budgets_from mark parts lines endpoint (device ∷ devices) =
    marked_text mark parts lines endpoint device ++ budgets_from mark parts lines (endpoint + 1) devices

abbrev pub budgets_text : (mark : List ℕ) → Text → List ℕ
budgets_text mark text =
    budgets_from mark text.driver.start.parts text.driver.lines.items 0 text.driver.devices.items

-- ---- What endpoints are at, where a line waits

abbrev pub stopping_text : (endpoint pasid : ℕ) → Row → List ℕ
stopping_text endpoint pasid row =
    said_if (is_stopping row.state)
    (with_endpoint (codes "# endpoint") endpoint ++ codes " is told to stop PASID" ++ and_number pasid ++ 10 ∷ [])

unfoldable pub rows_from : (endpoint pasid : ℕ) → List Row → List ℕ
rows_from endpoint pasid [] = []
rows_from endpoint pasid (row ∷ rows) = stopping_text endpoint pasid row ++ rows_from endpoint (pasid + 1) rows

abbrev pub finished_text : (is_finished : Bool) → List ℕ
finished_text true = codes ", which isn't answered\n"
finished_text false = codes ", which isn't finished\n"

abbrev pub group_text : (endpoint index : ℕ) → Option Group → List ℕ
group_text endpoint index None = []
group_text endpoint index (Some group) =
    with_endpoint (codes "# endpoint") endpoint ++ codes " has group" ++ and_number index ++ codes " of PASID"
    ++ and_number group.pasid ++ finished_text group.is_finished

unfoldable pub groups_from : (endpoint index : ℕ) → List (Option Group) → List ℕ
groups_from endpoint index [] = []
groups_from endpoint index (group ∷ groups) = group_text endpoint index group ++ groups_from endpoint (index + 1) groups

-- what is off at it
abbrev pub off_text : (endpoint : ℕ) → (is_on : Bool) → (what : List ℕ) → List ℕ
off_text endpoint is_on what = said_if (not is_on) (with_endpoint (codes "# endpoint") endpoint ++ what)

abbrev pub failed : List ℕ
failed = codes " may send no page request: a response was a Response Failure\n"

-- what is turned off at it, and whether it is gone
abbrev pub turned_text : (endpoint : ℕ) → (has_ats has_requests is_master is_gone : Bool) → List ℕ
turned_text endpoint has_ats has_requests is_master is_gone =
    off_text endpoint has_ats (codes " has ATS off, and answers no invalidation that comes\n")
    ++ off_text endpoint has_requests (codes " has page requests off\n")
    ++ off_text endpoint is_master (codes " has bus mastering off\n")
    ++ off_text endpoint (not is_gone) (codes " is gone, and answers nothing\n")

abbrev pub turned_at : (endpoint : ℕ) → Part → List ℕ
turned_at endpoint part = turned_text endpoint part.has_ats part.has_requests part.is_master part.is_gone

-- has its unit stopped at a time-out?
abbrev pub stalled_text : (endpoint : ℕ) → (is_stalled : Bool) → List ℕ
stalled_text endpoint is_stalled =
    said_if is_stalled (with_endpoint (codes "# unit of endpoint") endpoint ++ codes " has stopped at a time-out\n")

abbrev pub part_text : (endpoint : ℕ) → Part → List ℕ
part_text endpoint part =
    rows_from endpoint 0 part.rows ++ groups_from endpoint 0 part.groups
    ++ off_text endpoint part.is_enabled failed ++ turned_at endpoint part ++ stalled_text endpoint part.is_stalled

unfoldable pub parts_from : (endpoint : ℕ) → List Part → List ℕ
parts_from endpoint [] = []
parts_from endpoint (part ∷ parts) = part_text endpoint part ++ parts_from (endpoint + 1) parts

-- a line that is the next one of its thread
abbrev pub waits_by : Spot → (place : ℕ) → Line → Option Said → Bool
waits_by spot place line None = false
waits_by spot place line (Some said) = is_next spot place line

-- the place of the first of them
unfoldable pub waiting_place : Text → Spot → (place : ℕ) → List Line → Option ℕ
waiting_place text spot place [] = None
waiting_place text spot place (line ∷ lines) =
    if waits_by spot place line (slice_get text.said.items place) then Some place else waiting_place text spot (place + 1) lines

abbrev pub forever_text : (thread : List ℕ) → (number : ℕ) → List ℕ
forever_text thread number = line_who thread number ++ codes ", waits for ever"

abbrev pub waiting_told : Option Line → Option Said → List ℕ
waiting_told (Some line) (Some said) = forever_text said.thread.items line.number
waiting_told line said = []

abbrev pub waiting_at : Text → Option ℕ → List ℕ
waiting_at text None = []
waiting_at text (Some place) = waiting_told (slice_get text.driver.lines.items place) (slice_get text.said.items place)

abbrev pub waiting_text : Text → Spot → List ℕ
waiting_text text spot = waiting_at text (waiting_place text spot 0 text.driver.lines.items)

-- each line behind it that waits too: the next one of another thread
abbrev pub too_text : (thread : List ℕ) → (number : ℕ) → List ℕ
too_text thread number = codes "# " ++ line_who thread number ++ codes ", waits too\n"

abbrev pub other_text : Spot → (first place : ℕ) → Line → Option Said → List ℕ
other_text spot first place line None = []
other_text spot first place line (Some said) =
    said_if (nat_lt first place && is_next spot place line) (too_text said.thread.items line.number)

unfoldable pub others_from : Text → Spot → (first place : ℕ) → List Line → List ℕ
others_from text spot first place [] = []
others_from text spot first place (line ∷ lines) =
    other_text spot first place line (slice_get text.said.items place) ++ others_from text spot first (place + 1) lines

abbrev pub others_behind : Text → Spot → Option ℕ → List ℕ
others_behind text spot None = []
others_behind text spot (Some first) = others_from text spot first 0 text.driver.lines.items

abbrev pub others_text : Text → Spot → List ℕ
others_text text spot = others_behind text spot (waiting_place text spot 0 text.driver.lines.items)

-- ---- The report

abbrev pub finding_text : Option Wrong → List ℕ
finding_text None = []
finding_text (Some found) = wrong_text found

abbrev pub behind : Text → List Choice → Spot
behind text choices = last_spot text (start_of text.driver) choices

abbrev pub events_by : Text → List Choice → List EventSaid
events_by text choices = events_from text (start_of text.driver) choices

abbrev pub witness_by : Text → List EventSaid → List ℕ
witness_by text events = front_text text ++ events_text events

abbrev pub witness_text : Text → List Choice → List ℕ
witness_text text choices = witness_by text (events_by text choices)

abbrev pub unsafe_text : Text → List Choice → List ℕ
unsafe_text text choices =
    codes "unsafe in " ++ events_count (length choices) ++ codes ": " ++ finding_text (first_wrong (behind text choices).world)
    ++ 10 ∷ witness_text text choices

abbrev pub stuck_text : Text → List Choice → List ℕ
stuck_text text choices =
    codes "stuck in " ++ events_count (length choices) ++ codes ": "
    ++ waiting_text text (behind text choices)
    ++ 10 ∷ others_text text (behind text choices)
    ++ parts_from 0 (behind text choices).world.parts
    ++ budgets_text (codes "# ") text ++ witness_text text choices

-- the drivers of the endpoints were searched, one after another
abbrev pub apart_text : (is_apart : Bool) → List ℕ
apart_text is_apart = said_if is_apart (codes ", endpoint by endpoint")

abbrev pub safe_line : (moments : ℕ) → (is_apart tried : Bool) → List ℕ
safe_line moments is_apart tried =
    codes "safe in all " ++ moments_text moments ++ apart_text is_apart ++ untried_text tried ++ 10 ∷ []

abbrev pub safe_text : Text → (moments : ℕ) → (is_apart : Bool) → List Looked → List ℕ
safe_text text moments is_apart looked =
    safe_line moments is_apart (is_tried looked) ++ budgets_text (codes "") text ++ limits_text text ++ nevers_text text looked

abbrev pub cut_text : (moments events : ℕ) → List ℕ
cut_text moments events =
    codes "cut off at " ++ moments_text moments ++ codes ": safe in each list of fewer than " ++ events_count events ++ 10 ∷ []

-- ---- All findings

abbrev pub found_line : Finding → List ℕ
found_line one =
    codes "unsafe in " ++ events_count (length one.witness.items) ++ codes ": " ++ wrong_text one.wrong ++ 10 ∷ []

-- each with its witness, or without
abbrev pub found_text : Text → (is_brief : Bool) → Finding → List ℕ
found_text text true one = found_line one
found_text text false one = found_line one ++ witness_text text one.witness.items

-- what there is no more of: at all, or in fewer events than those behind which the search was cut off
abbrev pub no_more_text : (cut : Option ℕ) → (moments : ℕ) → List ℕ
no_more_text None moments = codes " in all " ++ moments_text moments
no_more_text (Some events) moments =
    codes ", cut off at " ++ moments_text moments ++ codes ": no other in fewer than " ++ events_count events

abbrev pub behind_text : List ℕ
behind_text = codes "; what is behind a finding was not searched\n"

abbrev pub last_text : (count : ℕ) → (cut : Option ℕ) → (moments : ℕ) → List ℕ
last_text count cut moments = findings_count count ++ no_more_text cut moments ++ behind_text

abbrev pub findings_text : Text → (is_brief : Bool) → List Finding → (cut : Option ℕ) → (moments : ℕ) → List ℕ
findings_text text is_brief found cut moments = flat_map (found_text text is_brief) found ++ last_text (length found) cut moments

-- ---- Each verdict

abbrev pub report_text : Text → (is_brief : Bool) → Verdict → List ℕ
report_text text is_brief (verdict.Safe moments looked) = safe_text text moments false looked.items
report_text text is_brief (verdict.SafeApart moments looked) = safe_text text moments true looked.items
report_text text is_brief (verdict.Unsafe witness) = unsafe_text text witness.items
report_text text is_brief (verdict.Findings found moments cut) = findings_text text is_brief found.items cut moments
report_text text is_brief (verdict.Stuck witness moments) = stuck_text text witness.items
report_text text is_brief (verdict.CutOff moments events) = cut_text moments events

-- where the search for all findings was cut off, some may not be told
abbrev pub ruling_of_all : (cut : Option ℕ) → Ruling
ruling_of_all None = ruling.Unsafe
ruling_of_all (Some events) = ruling.UnsafeSoFar

abbrev pub ruling_of : Verdict → Ruling
ruling_of (verdict.Safe moments looked) = if is_tried looked.items then ruling.Safe else ruling.Untried
ruling_of (verdict.SafeApart moments looked) = if is_tried looked.items then ruling.Safe else ruling.Untried
ruling_of (verdict.Unsafe witness) = ruling.Unsafe
ruling_of (verdict.Findings found moments cut) = ruling_of_all cut
ruling_of (verdict.Stuck witness moments) = ruling.Stuck
ruling_of (verdict.CutOff moments events) = ruling.CutOff
