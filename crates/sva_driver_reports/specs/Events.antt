-- What link, units, workers and endpoints do, as lines that are read as the same acts.
use Rattle.std.specs.Prelude.{ℕ, Bool, List, [], ◌++◌, codes, count_by, slice_get, take}
use Rattle.std.specs.Prelude.{Option, Some, None}
use Rattle.sva_open.specs.World.{Part}
use Rattle.sva_open.specs.declared.acts.LocalAct.{LocalAct}
use Rattle.sva_open.specs.declared.acts.LocalAct.TheVariants as local
use Rattle.sva_open.specs.declared.messages.Sent.{Sent}
use Rattle.sva_open.specs.declared.rows.KeptEntry.{KeptEntry}
use Rattle.sva_open.specs.declared.frames.Translation.{Translation}
use Rattle.sva_open.specs.declared.works.Group.{Group}
use Rattle.sva_open.specs.Finding.{is_draining, is_of_kind, is_taken, is_use, kind_of}
use Rattle.sva_driver_words.specs.Pieces.{access_text, and_number, and_older, code_text, kind_text, last_text}
use Rattle.sva_driver_words.specs.Pieces.{with_endpoint, with_page, with_pasid}

-- ---- What is named by its age

abbrev pub older_messages : List Sent → (place : ℕ) → Sent → ℕ
older_messages flight place one = count_by (is_of_kind (kind_of one.message)) (take place flight)

abbrev pub delivered_text : Part → (endpoint place : ℕ) → Option Sent → List ℕ
delivered_text part endpoint place None = []
delivered_text part endpoint place (Some one) =
    codes "deliver " ++ with_endpoint (kind_text (kind_of one.message)) endpoint ++ and_older (older_messages part.flight place one)

abbrev pub more_text : (endpoint pasid index page : ℕ) → (write last : Bool) → List ℕ
more_text endpoint pasid index page write last =
    with_page (codes "fault") endpoint pasid page ++ access_text write ++ and_number index ++ last_text last

abbrev pub more_request : (endpoint index page : ℕ) → (write last : Bool) → Option (Option Group) → List ℕ
more_request endpoint index page write last None = []
more_request endpoint index page write last (Some None) = []
more_request endpoint index page write last (Some (Some group)) = more_text endpoint group.pasid index page write last

abbrev pub entry_forgotten : (endpoint : ℕ) → Option KeptEntry → List ℕ
entry_forgotten endpoint None = []
entry_forgotten endpoint (Some kept) = with_pasid (codes "forget") endpoint kept.pasid

abbrev pub page_forgotten : (endpoint : ℕ) → Option Translation → List ℕ
page_forgotten endpoint None = []
page_forgotten endpoint (Some kept) = with_page (codes "forget") endpoint kept.pasid kept.page

abbrev pub response_text : (endpoint pasid index : ℕ) → (fails : Bool) → List ℕ
response_text endpoint pasid index fails = with_page (codes "respond") endpoint pasid index ++ code_text fails

abbrev pub begun_text : (endpoint pasid page : ℕ) → (write last : Bool) → List ℕ
begun_text endpoint pasid page write last =
    with_page (codes "fault") endpoint pasid page ++ access_text write ++ codes " new" ++ last_text last

-- it is told alike whether the endpoint may leave unanswered what has come to it, or nobody can answer
abbrev pub expired_text : (endpoint itag : ℕ) → List ℕ
expired_text endpoint itag = with_endpoint (codes "expire") endpoint ++ and_number itag

-- ---- Each act that comes by itself

abbrev pub local_text : Part → (endpoint : ℕ) → LocalAct → List ℕ
local_text part endpoint (local.Deliver place) = delivered_text part endpoint place (slice_get part.flight place)
local_text part endpoint local.Pump = with_endpoint (codes "pump") endpoint
local_text part endpoint (local.PumpAt place) = with_pasid (codes "pump") endpoint place
local_text part endpoint (local.Expire itag silent) = expired_text endpoint itag
local_text part endpoint local.Write = with_endpoint (codes "write") endpoint
local_text part endpoint local.Serve = with_endpoint (codes "serve") endpoint
local_text part endpoint (local.Respond pasid index fails) = response_text endpoint pasid index fails
local_text part endpoint (local.End place) =
    with_endpoint (codes "end") endpoint ++ and_older (count_by is_use (take place part.works))
local_text part endpoint (local.Finish place) =
    with_endpoint (codes "finish") endpoint ++ and_older (count_by is_taken (take place part.works))
local_text part endpoint (local.Pass place) =
    with_endpoint (codes "pass") endpoint ++ and_older (count_by is_draining (take place part.works))
local_text part endpoint (local.Quit pasid) = with_pasid (codes "quit") endpoint pasid
local_text part endpoint local.Leave = with_endpoint (codes "gone") endpoint
local_text part endpoint (local.More index page write last) =
    more_request endpoint index page write last (slice_get part.groups index)
local_text part endpoint (local.Ask pasid page) = with_page (codes "ask") endpoint pasid page
local_text part endpoint (local.Use pasid page) = with_page (codes "use") endpoint pasid page
local_text part endpoint (local.Fault pasid page write last) = begun_text endpoint pasid page write last
local_text part endpoint (local.Evict pasid page) = with_page (codes "evict") endpoint pasid page
local_text part endpoint (local.ForgetEntry place) = entry_forgotten endpoint (slice_get part.kept_entries place)
local_text part endpoint (local.Forget place) = page_forgotten endpoint (slice_get part.kept place)
local_text part endpoint _ = []
