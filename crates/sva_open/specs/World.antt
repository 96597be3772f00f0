-- The open world: what memory, endpoints, units and links have while a host of whatever kind acts. It has no rule of a host
-- in it.
use Rattle.std.specs.Prelude.{ℕ, suc, ◌-◌, ◌==◌, ◌&&◌, not, nat_lt, nat_le, Bool, true, false, List, [], ◌∷◌, ◌++◌}
use Rattle.std.specs.Prelude.{filter, length, replicate}
use Rattle.std.specs.Prelude.{Option, Some, None, is_none, position, slice_set}
use Rattle.sva_open.specs.declared.frames.Tenure.{Tenure}
use Rattle.sva_open.specs.declared.frames.Mapping.{Mapping}
use Rattle.sva_open.specs.declared.frames.Translation.{Translation}
use Rattle.sva_open.specs.declared.scopes.Scope.{Scope}
use Rattle.sva_open.specs.declared.scopes.Scope.TheVariants as scope
use Rattle.sva_open.specs.declared.rows.State.{State}
use Rattle.sva_open.specs.declared.rows.State.TheVariants.{Off, On, Stopping, Answering}
use Rattle.sva_open.specs.declared.rows.Row.{Row}
use Rattle.sva_open.specs.declared.rows.KeptEntry.{KeptEntry}
use Rattle.sva_open.specs.declared.messages.Message.{Message}
use Rattle.sva_open.specs.declared.messages.Sent.{Sent}
use Rattle.sva_open.specs.declared.works.Request.{Request}
use Rattle.sva_open.specs.declared.works.Group.{Group}
use Rattle.sva_open.specs.declared.works.Work.{Work}
use Rattle.sva_open.specs.declared.descriptors.Descriptor.{Descriptor}
use Rattle.sva_open.specs.declared.descriptors.Issued.{Issued}
use Rattle.sva_open.specs.declared.descriptors.Arrived.{Arrived}
use Rattle.sva_open.specs.declared.descriptors.Filed.{Filed}
use Rattle.sva_open.specs.declared.descriptors.Received.{Received}
use Rattle.sva_open.specs.declared.settings.Conduct.{Conduct}
use Rattle.sva_open.specs.declared.settings.Settings.{Settings}

-- an endpoint with its unit and its link
pub record Part : Type 0 where
  -- which endpoint it is
  pub endpoint : ℕ
  -- by PASID
  pub rows : List Row
  -- the translation requests that are out, by tag
  pub requests : List (Option Request)
  -- the translations that the endpoint holds
  pub held : List Translation
  -- the uses that run and the invalidations that are taken, as they began
  pub works : List Work
  -- the groups of page requests that aren't answered, by index
  pub groups : List (Option Group)
  -- may the endpoint send page requests? No more once a response has failed, until its page request interface is turned on again
  pub is_enabled : Bool
  -- does it ask for translations and hold them; does it begin groups of page requests; and does it send memory requests? A host turns
  -- these on and off
  pub has_ats : Bool
  pub has_requests : Bool
  pub is_master : Bool
  -- was it removed?
  pub is_gone : Bool
  -- may it complete an invalidation while a use runs that this has to await?
  pub lies : Bool
  -- does it await the responses to its page requests before it says that it has stopped?
  pub awaits : Bool
  -- how many resets have come to it
  pub time : ℕ
  -- the messages in flight, the oldest first
  pub flight : List Sent
  -- does the unit take what comes?
  pub is_open : Bool
  -- the invalidation queue, and what has left it and isn't done
  pub queue : List Descriptor
  pub issued : List Issued
  -- the names of the waits that were aborted; and has it stopped at a time-out?
  pub aborted : List ℕ
  pub is_stalled : Bool
  -- was a page request dropped since the queue had no place for it, and wasn't that cleared since?
  pub has_overflowed : Bool
  -- what the unit keeps
  pub kept_entries : List KeptEntry
  pub kept : List Translation
  -- what the unit has received and not written into the page request queue; that queue; and the groups that are filed and not
  -- answered
  pub received : List Received
  pub arrived : List Arrived
  pub filed : List Filed

pub record Open : Type 0 where
  pub settings : Settings
  -- the pages that lead somewhere
  pub mappings : List Mapping
  -- the frames
  pub frames : List Tenure
  -- the spaces whose table's memory was given away, and those that workers have nothing to serve groups by any more
  pub freed : List ℕ
  pub domains : List ℕ
  -- the endpoints
  pub parts : List Part
  -- the unit below which each endpoint stands; one of which nothing is said has a unit of its own
  pub units : List ℕ

-- ---- small words

-- what an act leaves that is permitted where a test holds
abbrev pub if_so : {X : Type 0} → Bool → X → Option X
if_so true x = Some x
if_so false x = None

-- the first of two that is there
abbrev pub or_else : {X : Type 0} → Option X → Option X → Option X
or_else None other = other
or_else (Some x) other = Some x

-- is it the page of a space?
abbrev pub is_page : (space page : ℕ) → Mapping → Bool
is_page space page mapping = (mapping.space == space) && (mapping.page == page)

-- is it the translation of a page under a PASID?
abbrev pub is_of : (pasid page : ℕ) → Translation → Bool
is_of pasid page translation = (translation.pasid == pasid) && (translation.page == page)

-- a translation in place of any other of the same page
abbrev pub is_other : Translation → Translation → Bool
is_other translation other = not (is_of translation.pasid translation.page other)

abbrev pub with_translation : List Translation → Translation → List Translation
with_translation held translation = filter (is_other translation) held ++ translation ∷ []

-- does an invalidation cover a page under a PASID?
abbrev pub covers : Scope → (pasid page : ℕ) → Bool
covers (scope.Pages own first count) pasid page = (own == pasid) && (nat_le first page && nat_lt (page - first) count)
covers (scope.Pasid own) pasid page = own == pasid

-- the translations that an invalidation leaves
abbrev pub is_left : Scope → Translation → Bool
is_left covered translation = not (covers covered translation.pasid translation.page)

abbrev pub without_covered : Scope → List Translation → List Translation
without_covered covered held = filter (is_left covered) held

abbrev pub is_off : State → Bool
is_off Off = true
is_off On = false
is_off Stopping = false
is_off Answering = false

-- may more begin under it? A function that is asked to stop may go on queuing requests until the stop is complete (PCI Express Base 5.0,
-- section 6.20)
abbrev pub is_used : State → Bool
is_used Off = false
is_used On = true
is_used Stopping = true
is_used Answering = false

-- has the endpoint to say that it has stopped?
abbrev pub is_stopping : State → Bool
is_stopping Off = false
is_stopping On = false
is_stopping Stopping = true
is_stopping Answering = true

-- what it is once its stop has come: under one that is off nothing begins, and the endpoint has only to say so
abbrev pub stopped_by : State → State
stopped_by Off = Answering
stopped_by On = Stopping
stopped_by Stopping = Stopping
stopped_by Answering = Answering

-- ---- labels: the lowest free place, or one more behind all

abbrev pub place_or_end : {X : Type 0} → List X → Option ℕ → ℕ
place_or_end places (Some place) = place
place_or_end places None = length places

abbrev pub lowest_free : {X : Type 0} → List (Option X) → ℕ
lowest_free places = place_or_end places (position is_none places)

abbrev pub put_at : {X : Type 0} → List (Option X) → X → Option ℕ → List (Option X)
put_at places x (Some place) = slice_set places place (Some x)
put_at places x None = places ++ Some x ∷ []

-- with one more, under the lowest free label
abbrev pub put : {X : Type 0} → List (Option X) → X → List (Option X)
put places x = put_at places x (position is_none places)

-- what is under a label, if something is
abbrev pub group_at : Option (Option Group) → Option Group
group_at None = None
group_at (Some group) = group

-- ---- rows and messages

abbrev pub with_row : Part → (pasid : ℕ) → Row → Part
with_row part pasid row = record part { rows = slice_set part.rows pasid row }

-- one more message in flight, of an owner and a number
abbrev pub sent : Part → (owner number : ℕ) → Message → Part
sent part owner number message =
    record part { flight = part.flight ++ (record { message = message; owner = owner; number = number }) ∷ [] }

-- ---- the world in which nothing was done yet

abbrev pub untouched : Tenure
untouched = record { given = 0; frozen = 0 }

abbrev pub blank : Row
blank = record { entry = None; owner = 0; space = None; answer = None; state = Off; user = 0 }

-- an endpoint of a conduct; its PASIDs are below a number
abbrev pub part_opened : (pasids endpoint : ℕ) → Conduct → Part
part_opened pasids endpoint conduct =
    record {
      endpoint = endpoint;
      rows = replicate pasids blank;
      requests = [];
      held = [];
      works = [];
      groups = [];
      is_enabled = true;
      has_ats = true;
      has_requests = true;
      is_master = true;
      is_gone = false;
      lies = conduct.lies;
      awaits = conduct.awaits;
      time = 0;
      flight = [];
      is_open = true;
      queue = [];
      issued = [];
      aborted = [];
      is_stalled = false;
      has_overflowed = false;
      kept_entries = [];
      kept = [];
      received = [];
      arrived = [];
      filed = [];
    }

-- endpoints, the first of which has this number
unfoldable pub parts_opened : (pasids endpoint : ℕ) → List Conduct → List Part
parts_opened pasids endpoint [] = []
parts_opened pasids endpoint (conduct ∷ conducts) = part_opened pasids endpoint conduct ∷ parts_opened pasids (suc endpoint) conducts

-- each endpoint has a unit of its own, unless it is said below which it stands
abbrev pub opened : Settings → List Conduct → (units : List ℕ) → (pasids frames : ℕ) → Open
opened settings conducts units pasids frames =
    record {
      settings = settings;
      mappings = [];
      frames = replicate frames untouched;
      freed = [];
      domains = [];
      parts = parts_opened pasids 0 conducts;
      units = units;
    }
