-- What is wrong at a moment, in words.
use Rattle.std.specs.Prelude.{ℕ, Bool, true, false, List, ◌++◌, codes}
use Rattle.sva_open_safe.specs.declared.wrongs.Thing.{Thing}
use Rattle.sva_open_safe.specs.declared.wrongs.Thing.TheVariants as thing
use Rattle.sva_open_safe.specs.declared.wrongs.Wrong.{Wrong}
use Rattle.sva_open_safe.specs.declared.wrongs.Wrong.TheVariants as wrong
use Rattle.sva_driver_words.specs.Pieces.{and_number, with_endpoint}

abbrev pub thing_text : Thing → List ℕ
thing_text thing.Held = codes "held translation"
thing_text thing.Running = codes "running use"
thing_text thing.Completion = codes "completion in flight"
thing_text thing.Request = codes "request that is out"
thing_text thing.Start = codes "start in flight"
thing_text thing.Stop = codes "stop in flight"
thing_text thing.PageRequest = codes "page request in flight"
thing_text thing.Received = codes "page request that the unit has received"
thing_text thing.Queued = codes "page request in the queue"
thing_text thing.Marker = codes "marker in flight"
thing_text thing.Status = codes "status in flight"
thing_text thing.Answer = codes "answer to a stop"
thing_text thing.Entry = codes "entry"
thing_text thing.KeptEntry = codes "kept entry"
thing_text thing.Kept = codes "kept translation"
thing_text thing.Filed = codes "filed group"

-- what leads to a frame
abbrev pub leads_text : Thing → (page pasid : ℕ) → List ℕ
leads_text what page pasid =
    thing_text what ++ codes " of page" ++ and_number page ++ codes " (PASID" ++ and_number pasid ++ codes ")"

abbrev pub endpoint_text : (endpoint : ℕ) → List ℕ
endpoint_text endpoint = with_endpoint (codes "endpoint") endpoint

abbrev pub of_endpoint : (endpoint : ℕ) → List ℕ
of_endpoint endpoint = endpoint_text endpoint ++ codes ": "

abbrev pub response_text : (endpoint index : ℕ) → (found end : List ℕ) → List ℕ
response_text endpoint index found end =
    of_endpoint endpoint ++ codes "a response in flight would find " ++ found ++ and_number index ++ end

abbrev pub entry_text : (kept : Bool) → List ℕ
entry_text true = codes "a kept entry of PASID"
entry_text false = codes "the entry of PASID"

abbrev pub walks_text : (endpoint space : ℕ) → (kept : Bool) → (pasid : ℕ) → List ℕ
walks_text endpoint space kept pasid =
    with_endpoint (codes "unit") endpoint ++ codes " may still walk the table of space" ++ and_number space
    ++ codes ", whose memory has another owner: " ++ entry_text kept ++ and_number pasid

abbrev pub serves_text : (endpoint space pasid : ℕ) → List ℕ
serves_text endpoint space pasid =
    codes "a worker may still serve a group of endpoint" ++ and_number endpoint ++ codes " by the domain of space" ++ and_number space
    ++ codes ", which was freed: a filed group of PASID" ++ and_number pasid

abbrev pub frame_text : (endpoint : ℕ) → (may frame_is : List ℕ) → (frame : ℕ) → Thing → (page pasid : ℕ) → List ℕ
frame_text endpoint may frame_is frame what page pasid =
    endpoint_text endpoint ++ may ++ and_number frame ++ frame_is ++ leads_text what page pasid

abbrev pub left_text : (endpoint : ℕ) → Thing → (pasid : ℕ) → List ℕ
left_text endpoint what pasid =
    of_endpoint endpoint ++ thing_text what ++ codes " of an earlier owner of PASID" ++ and_number pasid

abbrev pub goes_text : (endpoint pasid : ℕ) → List ℕ
goes_text endpoint pasid =
    endpoint_text endpoint ++ codes " still uses PASID" ++ and_number pasid ++ codes " for an earlier owner"

abbrev pub joins_text : (endpoint pasid index : ℕ) → List ℕ
joins_text endpoint pasid index =
    of_endpoint endpoint ++ codes "a page request of PASID" ++ and_number pasid ++ codes " would join group"
    ++ and_number index ++ codes ", which isn't its own"

abbrev pub request_text : (endpoint tag : ℕ) → List ℕ
request_text endpoint tag =
    of_endpoint endpoint ++ codes "a completion in flight would be taken for the answer to another request, under tag"
    ++ and_number tag

abbrev pub wrong_text : Wrong → List ℕ
wrong_text (wrong.Freed endpoint frame what page pasid) =
    frame_text endpoint (codes " may still use frame") (codes ", which has another owner: ") frame what page pasid
wrong_text (wrong.Frozen endpoint frame what page pasid) =
    frame_text endpoint (codes " may still write frame") (codes ", which was frozen: ") frame what page pasid
wrong_text (wrong.Left endpoint what pasid) = left_text endpoint what pasid
wrong_text (wrong.Goes endpoint pasid) = goes_text endpoint pasid
wrong_text (wrong.Walks endpoint space kept pasid) = walks_text endpoint space kept pasid
wrong_text (wrong.Serves endpoint space pasid) = serves_text endpoint space pasid
wrong_text (wrong.NoGroup endpoint index) = response_text endpoint index (codes "no group") (codes "")
wrong_text (wrong.OtherGroup endpoint index) = response_text endpoint index (codes "another group") (codes " than its own")
wrong_text (wrong.Unfinished endpoint index) = response_text endpoint index (codes "group") (codes " unfinished")
wrong_text (wrong.Joins endpoint pasid index) = joins_text endpoint pasid index
wrong_text (wrong.OtherRequest endpoint tag) = request_text endpoint tag
