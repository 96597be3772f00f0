-- What endpoints may do by themselves, by the lines that were read.
use Rattle.std.specs.Prelude.{ℕ, ◌+◌, ◌==◌, if◌then◌else◌, Bool, true, false, List, [], ◌∷◌, ◌++◌, flat_map, map, Option, Some, None}
use Rattle.std.specs.List.{list_any}
use Rattle.std.specs.Option.{unwrap_or}
use Rattle.sva_open.specs.declared.acts.Act.TheVariants as act
use Rattle.sva_open.specs.declared.acts.LocalAct.{LocalAct}
use Rattle.sva_open.specs.declared.acts.LocalAct.TheVariants as local
use Rattle.sva_open.specs.declared.drivers.Budget.{Budget}
use Rattle.sva_open.specs.declared.drivers.Device.{Device}
use Rattle.sva_open.specs.declared.drivers.Fault.{Fault}
use Rattle.sva_open.specs.declared.drivers.Page.{Page}
use Rattle.sva_driver_words.specs.Awaits.{LineSaid}
use Rattle.sva_driver_words.specs.Sayings.{SayingSaid}
use Rattle.sva_driver_words.specs.Sayings.SayingSaid.{DoesSaid}
use Rattle.sva_driver_texts.specs.Devices.{DeviceSaid}

-- a list with one more number, unless it has that
abbrev pub with_number : List ℕ → Option ℕ → List ℕ
with_number list None = list
with_number list (Some number) = if list_any (λ own. own == number) list then list else list ++ number ∷ []

-- the page that a `pte` line names
abbrev pub page_set : SayingSaid → Option ℕ
page_set (DoesSaid (act.SetPage space page frame write)) = Some page
page_set _ = None

-- the pages that lines name, behind others
unfoldable pub pages_by : (pages : List ℕ) → List LineSaid → List ℕ
pages_by pages [] = pages
pages_by pages (line ∷ lines) = pages_by (with_number pages (page_set line.saying)) lines

abbrev pub pages_set : List LineSaid → List ℕ
pages_set lines = pages_by [] lines

-- the PASID that a line starts at an endpoint
abbrev pub started_by : (is_there : Bool) → LocalAct → Option ℕ
started_by is_there (local.Start pasid) = if is_there then Some pasid else None
started_by is_there _ = None

abbrev pub started_at : (endpoint : ℕ) → SayingSaid → Option ℕ
started_at endpoint (DoesSaid (act.At own its)) = started_by (own == endpoint) its
started_at endpoint _ = None

-- the PASIDs that lines start at an endpoint, behind others: under no other does it anything
unfoldable pub pasids_by : (endpoint : ℕ) → (pasids : List ℕ) → List LineSaid → List ℕ
pasids_by endpoint pasids [] = pasids
pasids_by endpoint pasids (line ∷ lines) = pasids_by endpoint (with_number pasids (started_at endpoint line.saying)) lines

abbrev pub pasids_started : (endpoint : ℕ) → List LineSaid → List ℕ
pasids_started endpoint lines = pasids_by endpoint [] lines

-- each page under each PASID
abbrev pub page_under : (pasid page : ℕ) → Page
page_under pasid page = record { pasid = pasid; page = page }

abbrev pub under_one : (pages : List ℕ) → (pasid : ℕ) → List Page
under_one pages pasid = map (page_under pasid) pages

abbrev pub under : (pasids pages : List ℕ) → List Page
under pasids pages = flat_map (under_one pages) pasids

abbrev pub begun : Page → (write last : Bool) → Fault
begun page write last = record { pasid = page.pasid; page = page.page; write = write; last = last }

-- the page requests that may begin a group: to read and to write, the last of their group and not
abbrev pub begun_at : Page → List Fault
begun_at page = begun page false true ∷ begun page true true ∷ begun page false false ∷ begun page true false ∷ []

abbrev pub begun_by : List Page → List Fault
begun_by pages = flat_map begun_at pages

-- an endpoint that was told so, at its place
abbrev pub pages_of : List LineSaid → (endpoint : ℕ) → DeviceSaid → List Page
pages_of lines endpoint device = under (pasids_started endpoint lines) (unwrap_or device.pages (pages_set lines))

pub record Planned : Type 0 where
  pub budget : Budget
  pub pages : List Page
  pub faults : List Fault
  pub evicts : Bool
  pub is_silent : Bool
  pub leaves : Bool

abbrev pub planned : List LineSaid → (endpoint : ℕ) → DeviceSaid → Planned
planned lines endpoint device = record {
  budget = device.budget;
  pages = pages_of lines endpoint device;
  faults = begun_by (pages_of lines endpoint device);
  evicts = device.evicts;
  is_silent = device.is_silent;
  leaves = device.leaves;
}

-- all endpoints, from a place on
unfoldable pub planned_from : List LineSaid → (endpoint : ℕ) → List DeviceSaid → List Planned
planned_from lines endpoint [] = []
planned_from lines endpoint (device ∷ devices) = planned lines endpoint device ∷ planned_from lines (endpoint + 1) devices

abbrev pub device_seen : Device → Planned
device_seen device = record {
  budget = device.budget;
  pages = device.pages.items;
  faults = device.faults.items;
  evicts = device.evicts;
  is_silent = device.is_silent;
  leaves = device.leaves;
}
