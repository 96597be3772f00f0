-- What a whole search says never happened, although a budget or a line allows it.
use Rattle.std.specs.Prelude.{ℕ, ◌==◌, ◌&&◌, ◌||◌, not, nat_lt, if◌then◌else◌, Bool, true, false, List, [], ◌∷◌, ◌++◌, codes, slice_get}
use Rattle.std.specs.Prelude.{Option, Some, None}
use Rattle.std.specs.List.{list_any}
use Rattle.sva_open.specs.declared.acts.Act.TheVariants as act
use Rattle.sva_open.specs.declared.acts.LocalAct.{LocalAct}
use Rattle.sva_open.specs.declared.acts.LocalAct.TheVariants as local
use Rattle.sva_open.specs.declared.naming.Named.{Named}
use Rattle.sva_open.specs.declared.naming.Named.TheVariants as named
use Rattle.sva_open.specs.declared.drivers.Budget.{Budget}
use Rattle.sva_open.specs.declared.drivers.Device.{Device}
use Rattle.sva_open.specs.declared.drivers.Line.{Line}
use Rattle.sva_open.specs.declared.drivers.Saying.{Saying}
use Rattle.sva_open.specs.declared.drivers.Saying.TheVariants.{Does, Names}
use Rattle.sva_judge.specs.declared.facts.Fact.{Fact}
use Rattle.sva_judge.specs.declared.facts.Fact.TheVariants.{Holds, Uses, Faults, Leads, Taken}
use Rattle.sva_judge.specs.declared.verdicts.Looked.{Looked}
use Rattle.sva_driver_texts.specs.Budgets.{is_ask}
use Rattle.sva_driver_texts.specs.declared.kept.Text.{Text}
use Rattle.sva_driver_words.specs.Pieces.{and_number, with_endpoint}
use Rattle.sva_driver_reports.specs.Untaken.{untaken, untaken_text}
use Rattle.sva_driver_reports.specs.Witness.{said_if}

-- ---- Was anything tried that could go wrong?

-- an endpoint had a translation, or sent a page request
abbrev pub is_trial : Fact → Bool
is_trial (Holds endpoint) = true
is_trial (Uses endpoint) = false
is_trial (Faults endpoint) = true
is_trial (Leads line frame) = false
is_trial (Taken line) = false

abbrev pub tries : Looked → Bool
tries one = one.is_met && is_trial one.fact

abbrev pub is_tried : List Looked → Bool
is_tried looked = list_any tries looked

abbrev pub untried_text : Bool → List ℕ
untried_text tried = said_if (not tried) (codes ", but no endpoint ever held a translation or sent a page request")

-- ---- Does a budget or a line allow it?

abbrev pub is_budgeted : Fact → Budget → Bool
is_budgeted (Holds endpoint) budget = nat_lt 0 budget.asks
is_budgeted (Uses endpoint) budget = nat_lt 0 budget.uses
is_budgeted (Faults endpoint) budget = nat_lt 0 budget.faults
is_budgeted (Leads line frame) budget = false
is_budgeted (Taken line) budget = false

abbrev pub has_budget : Fact → Option Device → Bool
has_budget fact None = false
has_budget fact (Some device) = is_budgeted fact device.budget

-- is it the act by which such a fact comes?
abbrev pub is_use : LocalAct → Bool
is_use (local.Use pasid page) = true
is_use _ = false

abbrev pub is_fault : LocalAct → Bool
is_fault (local.Fault pasid page write last) = true
is_fault _ = false

abbrev pub is_act_of : Fact → LocalAct → Bool
is_act_of (Holds endpoint) its = is_ask its
is_act_of (Uses endpoint) its = is_use its
is_act_of (Faults endpoint) its = is_fault its
is_act_of (Leads line frame) its = false
is_act_of (Taken line) its = false

-- a group goes on with a page request
abbrev pub is_more : Named → Bool
is_more (named.More pasid index page write last) = true
is_more _ = false

abbrev pub is_named_by : Fact → Named → Bool
is_named_by (Holds endpoint) its = false
is_named_by (Uses endpoint) its = false
is_named_by (Faults endpoint) its = is_more its
is_named_by (Leads line frame) its = false
is_named_by (Taken line) its = false

-- does a line ask, use, or send a page request there?
abbrev pub does : (endpoint : ℕ) → Fact → Saying → Bool
does endpoint fact (Does (act.At own its)) = (own == endpoint) && is_act_of fact its
does endpoint fact (Names own its) = (own == endpoint) && is_named_by fact its
does endpoint fact _ = false

abbrev pub is_done : List Line → (endpoint : ℕ) → Fact → Bool
is_done lines endpoint fact = list_any (λ (line : Line). does endpoint fact line.saying) lines

abbrev pub is_possible : List Device → List Line → (endpoint : ℕ) → Fact → Bool
is_possible devices lines endpoint fact = has_budget fact (slice_get devices endpoint) || is_done lines endpoint fact

-- ---- What is said of it

abbrev pub what_text : (endpoint : ℕ) → (what : List ℕ) → List ℕ
what_text endpoint what = with_endpoint (codes "never: endpoint") endpoint ++ what

abbrev pub endpoint_text : List Device → List Line → (endpoint : ℕ) → Fact → (what : List ℕ) → List ℕ
endpoint_text devices lines endpoint fact what = said_if (is_possible devices lines endpoint fact) (what_text endpoint what)

abbrev pub giving_text : Saying → List ℕ
giving_text (Does (act.Freeze frame)) = codes " freezes, at any endpoint\n"
giving_text _ = codes " gives away, at any endpoint\n"

abbrev pub frame_text : (frame : ℕ) → Option Line → List ℕ
frame_text frame None = []
frame_text frame (Some line) =
    codes "never: a translation to frame" ++ and_number frame ++ codes ", which line" ++ and_number line.number ++ giving_text line.saying

-- lines that were never taken are told together, behind all others
abbrev pub never_of : List Device → List Line → Fact → List ℕ
never_of devices lines (Holds endpoint) = endpoint_text devices lines endpoint (Holds endpoint) (codes " holds a translation\n")
never_of devices lines (Uses endpoint) = endpoint_text devices lines endpoint (Uses endpoint) (codes " uses a translation\n")
never_of devices lines (Faults endpoint) = endpoint_text devices lines endpoint (Faults endpoint) (codes " sends a page request\n")
never_of devices lines (Leads line frame) = frame_text frame (slice_get lines line)
never_of devices lines (Taken line) = []

abbrev pub never_text : List Device → List Line → Looked → List ℕ
never_text devices lines one = if one.is_met then [] else never_of devices lines one.fact

unfoldable pub nevers_from : List Device → List Line → List Looked → List ℕ
nevers_from devices lines [] = []
nevers_from devices lines (one ∷ looked) = never_text devices lines one ++ nevers_from devices lines looked

-- of a search in which nothing was tried it isn't said: its first line says more
abbrev pub nevers_text : Text → List Looked → List ℕ
nevers_text text looked =
    if is_tried looked
    then nevers_from text.driver.devices.items text.driver.lines.items looked
    ++ untaken_text (untaken text.driver.taken.items text.driver.lines.items looked)
    else []
