-- When a moment is safe: each translation that an endpoint may still use leads to a frame that nobody else has been given since;
-- whatever is there of a PASID is of its present owner; no message would be taken for what it isn't of; no entry leads to a table
-- whose memory was given away; and no worker has a group to serve by what is gone.
use Rattle.std.specs.Prelude.{◌≡◌, ◌⊎◌, ◌||◌, ℕ, ⊤, true, false, List, Option, Some, None, slice_get, Contains, IfSome}
use Rattle.sva_open.specs.declared.frames.Tenure.{Tenure}
use Rattle.sva_open.specs.declared.frames.Target.{Target}
use Rattle.sva_open.specs.declared.frames.Translation.{Translation}
use Rattle.sva_open.specs.declared.rows.Entry.{Entry}
use Rattle.sva_open.specs.declared.rows.Row.{Row}
use Rattle.sva_open.specs.declared.rows.KeptEntry.{KeptEntry}
use Rattle.sva_open.specs.declared.messages.Message.{Message}
use Rattle.sva_open.specs.declared.messages.Message.TheVariants as message
use Rattle.sva_open.specs.declared.messages.Sent.{Sent}
use Rattle.sva_open.specs.declared.works.Request.{Request}
use Rattle.sva_open.specs.declared.works.Group.{Group}
use Rattle.sva_open.specs.declared.works.Work.TheVariants.{Use}
use Rattle.sva_open.specs.declared.descriptors.Arrived.{Arrived}
use Rattle.sva_open.specs.declared.descriptors.Filed.{Filed}
use Rattle.sva_open.specs.declared.descriptors.Received.TheVariants.{Request as Asked}
use Rattle.sva_open.specs.declared.settings.Settings.{Settings}
use Rattle.sva_open.specs.World.{Open, Part, group_at, is_off}

-- Nobody else has been given the frame since a page led to it so; and if it may be written so, it hasn't been frozen since.
pub record IsCurrent (frames : List Tenure) (target : Target) : Type 0 where
  pub now : Tenure
  pub found : slice_get frames target.frame ≡ Some now
  pub given : target.tenure.given ≡ now.given
  pub frozen : target.write ≡ true → target.tenure.frozen ≡ now.frozen

-- it is of the owner that the PASID has
pub record IsPresent (part : Part) (pasid owner : ℕ) : Type 0 where
  pub row : Row
  pub found : slice_get part.rows pasid ≡ Some row
  pub same : owner ≡ row.owner

-- a translation that an endpoint holds, or uses
pub record IsGood (frames : List Tenure) (part : Part) (translation : Translation) : Type 0 where
  pub frame : IsCurrent frames translation.target
  pub owner : IsPresent part translation.pasid translation.owner

-- A Completion in flight would be taken for the answer to the request that has its tag (PCI Express Base 5.0, section 10.2.3):
-- it has to be that one's; and if that isn't doomed, its translation may be used.
pub record IsItsOwn (frames : List Tenure) (part : Part) (one : Sent) (page : ℕ) (target : Option Target) (request : Request) : Type 0 where
  pub time : one.number ≡ part.time
  pub same : page ≡ request.page
  pub frame : request.is_doomed ≡ false → IfSome target (IsCurrent frames)

-- A response in flight would be taken for the answer to the group that has its index (section 10.4.2): it has to be that one's, and
-- the group finished.
pub record EndsItsGroup (part : Part) (one : Sent) (index : ℕ) : Type 0 where
  pub group : Group
  pub found : slice_get part.groups index ≡ Some (Some group)
  pub number : one.number ≡ group.number
  pub finished : group.is_finished ≡ true

-- or, where the platform allows that, the endpoint has no group under that index, and the response ends none; so it is of one that is
-- gone
pub record EndsNone (settings : Settings) (part : Part) (index : ℕ) : Type 0 where
  pub allowed : (settings.allows_no_group || part.is_gone) ≡ true
  pub none : group_at (slice_get part.groups index) ≡ None

-- What is asked of a message in flight. What flies to a closed unit, or to an endpoint that is gone, is dropped there. A barrier, and
-- the answer to one, are known by a name that no other has, so none is taken for another's, whoever has the PASID.
abbrev pub IsRight : Settings → List Tenure → Part → Sent → Message → Type 0
IsRight settings frames part one (message.Start pasid) = part.is_gone ≡ false → IsPresent part pasid one.owner
IsRight settings frames part one (message.Stop pasid) = part.is_gone ≡ false → IsPresent part pasid one.owner
IsRight settings frames part one (message.Completion tag page target) =
    (request : Request) → slice_get part.requests tag ≡ Some (Some request) → IsItsOwn frames part one page target request
IsRight settings frames part one (message.Response index fails filed) = ((filed ≡ true) × EndsItsGroup part one index) ⊎ EndsNone settings part index
IsRight settings frames part one (message.PageRequest request) = part.is_open ≡ true → IsPresent part request.pasid one.owner
IsRight settings frames part one (message.Marker pasid) = part.is_open ≡ true → IsPresent part pasid one.owner
IsRight settings frames part one (message.Status pasid) = IsPresent part pasid one.owner
IsRight settings frames part one _ = ⊤

-- what is there of a PASID at the host and at the endpoint
pub record IsOwned (freed : List ℕ) (row : Row) : Type 0 where
  -- its entry would be walked
  pub entry : (entry : Entry) → row.entry ≡ Some entry → entry.owner ≡ row.owner
  pub walked : (entry : Entry) → row.entry ≡ Some entry → Contains freed entry.space → ⊥
  -- an answer to a stop would be taken
  pub answer : (owner : ℕ) → row.answer ≡ Some owner → owner ≡ row.owner
  -- the endpoint would go on under it
  pub user : is_off row.state ≡ false → row.user ≡ row.owner

-- an endpoint with its unit and its link
pub record IsSafePart (settings : Settings) (frames : List Tenure) (freed domains : List ℕ) (part : Part) : Type 0 where
  -- the translations that the endpoint holds, and those of the uses that run
  pub held : (translation : Translation) → Contains part.held translation → IsGood frames part translation
  pub in_use : (translation : Translation) → Contains part.works (Use translation) → IsGood frames part translation
  -- the translation requests that are out and not doomed
  pub asked : (request : Request) → Contains part.requests (Some request) → request.is_doomed ≡ false
      → IsPresent part request.pasid request.owner
  -- what is in flight
  pub flight : (one : Sent) → Contains part.flight one → IsRight settings frames part one one.message
  -- The page requests of the endpoint that the unit has received, and those in its queue; and the oldest there, which would be filed
  -- next, joins no other group.
  pub received : (one : Arrived) → Contains part.received (Asked one) → one.endpoint ≡ part.endpoint → IsPresent part one.request.pasid one.owner
  pub arrived : (one : Arrived) → Contains part.arrived one → one.endpoint ≡ part.endpoint → IsPresent part one.request.pasid one.owner
  pub joined : (one : Arrived) (filed : Filed) → slice_get part.arrived 0 ≡ Some one → one.endpoint ≡ part.endpoint → Contains part.filed filed
      → filed.is_whole ≡ false → filed.pasid ≡ one.request.pasid → filed.index ≡ one.request.index → filed.number ≡ one.number
  -- the whole groups that workers have to serve, where there are workers
  pub filed : settings.has_workers ≡ true → (filed : Filed) → Contains part.filed filed → filed.is_whole ≡ true
      → IsPresent part filed.pasid filed.owner
  pub served : settings.has_workers ≡ true → (filed : Filed) → Contains part.filed filed → filed.is_whole ≡ true
      → (space : ℕ) → filed.space ≡ Some space → Contains domains space → ⊥
  -- what the PASIDs have
  pub rows : (row : Row) → Contains part.rows row → IsOwned freed row
  -- what the unit keeps
  pub kept : (translation : Translation) → Contains part.kept translation → IsPresent part translation.pasid translation.owner
  pub kept_entries : (kept : KeptEntry) → Contains part.kept_entries kept → IsPresent part kept.pasid kept.entry.owner
  pub walked : (kept : KeptEntry) → Contains part.kept_entries kept → Contains freed kept.entry.space → ⊥

pub record IsSafe (now : Open) : Type 0 where
  pub parts : (part : Part) → Contains now.parts part → IsSafePart now.settings now.frames now.freed now.domains part
