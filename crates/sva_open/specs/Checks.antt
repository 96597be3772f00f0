-- The same as a test, which a program can take. That it says what is meant is a law of its own.
use Rattle.std.specs.Prelude.{◌↔◌, ◌≡◌, ℕ, ◌==◌, ◌&&◌, ◌||◌, not, Bool, true, false, List, Option, Some, None, slice_get, is_none}
use Rattle.std.specs.List.{list_all, list_any}
use Rattle.sva_open.specs.declared.frames.Tenure.{Tenure}
use Rattle.sva_open.specs.declared.frames.Target.{Target}
use Rattle.sva_open.specs.declared.frames.Translation.{Translation}
use Rattle.sva_open.specs.declared.rows.Entry.{Entry}
use Rattle.sva_open.specs.declared.rows.Row.{Row}
use Rattle.sva_open.specs.declared.rows.KeptEntry.{KeptEntry}
use Rattle.sva_open.specs.declared.messages.Message.{Message}
use Rattle.sva_open.specs.declared.messages.Message.TheVariants as message
use Rattle.sva_open.specs.declared.messages.Sent.{Sent}
use Rattle.sva_open.specs.declared.works.Request.{Request}
use Rattle.sva_open.specs.declared.works.Group.{Group}
use Rattle.sva_open.specs.declared.works.Work.{Work}
use Rattle.sva_open.specs.declared.works.Work.TheVariants.{Use, Taken, Draining}
use Rattle.sva_open.specs.declared.descriptors.Arrived.{Arrived}
use Rattle.sva_open.specs.declared.descriptors.Filed.{Filed}
use Rattle.sva_open.specs.declared.descriptors.Received.{Received}
use Rattle.sva_open.specs.declared.descriptors.Received.TheVariants.{Request as Asked, Drain}
use Rattle.sva_open.specs.declared.settings.Settings.{Settings}
use Rattle.sva_open.specs.World.{Open, Part, group_at, is_off}
use Rattle.sva_open.specs.Host.{is_joined}
use Rattle.sva_open.specs.Safe.{IsSafe}

-- ---- frames and owners

abbrev pub is_current_at : Target → Option Tenure → Bool
is_current_at target None = false
is_current_at target (Some now) = (target.tenure.given == now.given) && (not target.write || (target.tenure.frozen == now.frozen))

abbrev pub is_current : List Tenure → Target → Bool
is_current frames target = is_current_at target (slice_get frames target.frame)

abbrev pub is_owner : (owner : ℕ) → Option Row → Bool
is_owner owner None = false
is_owner owner (Some row) = owner == row.owner

abbrev pub is_present : Part → (pasid owner : ℕ) → Bool
is_present part pasid owner = is_owner owner (slice_get part.rows pasid)

abbrev pub is_good : List Tenure → Part → Translation → Bool
is_good frames part translation = is_current frames translation.target && is_present part translation.pasid translation.owner

-- ---- the endpoint

abbrev pub is_good_work : List Tenure → Part → Work → Bool
is_good_work frames part (Use translation) = is_good frames part translation
is_good_work frames part (Taken itag scope) = true
is_good_work frames part (Draining barrier) = true

abbrev pub is_good_request : Part → Option Request → Bool
is_good_request part None = true
is_good_request part (Some request) = request.is_doomed || is_present part request.pasid request.owner

-- ---- what is in flight

abbrev pub may_be_held : List Tenure → Option Target → Bool
may_be_held frames None = true
may_be_held frames (Some target) = is_current frames target

abbrev pub is_its_own : List Tenure → Part → Sent → (page : ℕ) → Option Target → Option (Option Request) → Bool
is_its_own frames part one page target None = true
is_its_own frames part one page target (Some None) = true
is_its_own frames part one page target (Some (Some request)) =
    ((one.number == part.time) && (page == request.page)) && (request.is_doomed || may_be_held frames target)

abbrev pub is_its_end : (number : ℕ) → Option (Option Group) → Bool
is_its_end number None = false
is_its_end number (Some None) = false
is_its_end number (Some (Some group)) = (number == group.number) && group.is_finished

abbrev pub ends_its_group : Part → Sent → (index : ℕ) → Bool
ends_its_group part one index = is_its_end one.number (slice_get part.groups index)

abbrev pub ends_none : Settings → Part → (index : ℕ) → Bool
ends_none settings part index = (settings.allows_no_group || part.is_gone) && is_none (group_at (slice_get part.groups index))

abbrev pub is_right : Settings → List Tenure → Part → Sent → Message → Bool
is_right settings frames part one (message.Start pasid) = part.is_gone || is_present part pasid one.owner
is_right settings frames part one (message.Stop pasid) = part.is_gone || is_present part pasid one.owner
is_right settings frames part one (message.Completion tag page target) = is_its_own frames part one page target (slice_get part.requests tag)
is_right settings frames part one (message.Response index fails filed) = (filed && ends_its_group part one index) || ends_none settings part index
is_right settings frames part one (message.PageRequest request) = not part.is_open || is_present part request.pasid one.owner
is_right settings frames part one (message.Marker pasid) = not part.is_open || is_present part pasid one.owner
is_right settings frames part one (message.Status pasid) = is_present part pasid one.owner
is_right settings frames part one _ = true

abbrev pub is_right_sent : Settings → List Tenure → Part → Sent → Bool
is_right_sent settings frames part one = is_right settings frames part one one.message

-- ---- the unit

-- is it the endpoint's own, and not another's that stands below the same unit?
abbrev pub is_of_endpoint : (endpoint : ℕ) → Arrived → Bool
is_of_endpoint endpoint one = one.endpoint == endpoint

abbrev pub is_good_arrived : Part → Arrived → Bool
is_good_arrived part one = not (is_of_endpoint part.endpoint one) || is_present part one.request.pasid one.owner

abbrev pub is_good_received : Part → Received → Bool
is_good_received part (Asked one) = is_good_arrived part one
is_good_received part (Drain name) = true

abbrev pub joins_own : Arrived → Filed → Bool
joins_own one filed = not (is_joined one.request filed) || (filed.number == one.number)

abbrev pub joins_own_group : (endpoint : ℕ) → List Filed → Option Arrived → Bool
joins_own_group endpoint filed None = true
joins_own_group endpoint filed (Some one) = not (is_of_endpoint endpoint one) || list_all (joins_own one) filed

-- does the space stand among these?
abbrev pub is_freed : List ℕ → (space : ℕ) → Bool
is_freed freed space = list_any (λ one. one == space) freed

-- a whole group is served for its owner, by a space whose domain is there
abbrev pub is_space_there : (domains : List ℕ) → Option ℕ → Bool
is_space_there domains None = true
is_space_there domains (Some space) = not (is_freed domains space)

abbrev pub is_good_filed : (domains : List ℕ) → Part → Filed → Bool
is_good_filed domains part filed =
    not filed.is_whole || (is_present part filed.pasid filed.owner && is_space_there domains filed.space)

abbrev pub are_good_filed : Settings → (domains : List ℕ) → Part → Bool
are_good_filed settings domains part = not settings.has_workers || list_all (is_good_filed domains part) part.filed

abbrev pub is_good_kept : Part → Translation → Bool
is_good_kept part translation = is_present part translation.pasid translation.owner

abbrev pub is_good_entry : List ℕ → Part → KeptEntry → Bool
is_good_entry freed part kept = is_present part kept.pasid kept.entry.owner && not (is_freed freed kept.entry.space)

-- ---- the PASIDs

abbrev pub is_entry_owned : List ℕ → Row → Option Entry → Bool
is_entry_owned freed row None = true
is_entry_owned freed row (Some entry) = (entry.owner == row.owner) && not (is_freed freed entry.space)

abbrev pub is_answer_owned : Row → Option ℕ → Bool
is_answer_owned row None = true
is_answer_owned row (Some owner) = owner == row.owner

abbrev pub is_owned : List ℕ → Row → Bool
is_owned freed row =
    is_entry_owned freed row row.entry && (is_answer_owned row row.answer && (is_off row.state || (row.user == row.owner)))

-- ---- the whole

abbrev pub is_safe_device : List Tenure → Part → Bool
is_safe_device frames part =
    list_all (is_good frames part) part.held
    && (list_all (is_good_work frames part) part.works && list_all (is_good_request part) part.requests)

abbrev pub is_safe_unit : (freed : List ℕ) → Part → Bool
is_safe_unit freed part =
    list_all (is_good_arrived part) part.arrived
    && (joins_own_group part.endpoint part.filed (slice_get part.arrived 0)
    && (list_all (is_good_kept part) part.kept && list_all (is_good_entry freed part) part.kept_entries))

-- what is on its way to the queue, and what workers have to serve
abbrev pub is_safe_for_workers : Settings → (domains : List ℕ) → Part → Bool
is_safe_for_workers settings domains part = list_all (is_good_received part) part.received && are_good_filed settings domains part

abbrev pub is_safe_part : Settings → List Tenure → (freed domains : List ℕ) → Part → Bool
is_safe_part settings frames freed domains part =
    is_safe_device frames part
    && (is_safe_unit freed part
    && (is_safe_for_workers settings domains part
    && (list_all (is_right_sent settings frames part) part.flight && list_all (is_owned freed) part.rows)))

abbrev pub is_safe : Open → Bool
is_safe now = list_all (is_safe_part now.settings now.frames now.freed now.domains) now.parts

-- the test says what is meant
abbrev pub IsTest : Type 0
IsTest = (now : Open) → (is_safe now ≡ true) ↔ IsSafe now
