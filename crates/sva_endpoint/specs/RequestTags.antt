-- The tags of translation requests (PCI Express Base 5.0, section 10.2).
use Rattle.std.specs.Prelude.{ℕ, Bool, true, false, List, replicate, if◌then◌else◌, slice_index_or, ◌==◌}
use Rattle.sva_step.specs.Limits
use Rattle.sva_endpoint.specs.declared.coverage.Invalidation.{Invalidation}
use Rattle.sva_endpoint.specs.declared.request_tags.RequestTag.{RequestTag}
use Rattle.sva_endpoint.specs.declared.request_tags.RequestTag.TheVariants.{Free, Out, Doomed}
use Rattle.sva_endpoint.specs.Coverage.{covers}

-- a tag from 32 on is never taken
abbrev pub request_at : List RequestTag → ℕ → RequestTag
request_at tags tag = slice_index_or tags tag Free

-- no request is out: there are 32 request tags (a limit of this project)
abbrev pub no_requests : List RequestTag
no_requests = replicate Limits.request_tags Free

-- may a new request bear the tag? A doomed one bears its own still, until its completion comes
abbrev pub is_free : RequestTag → Bool
is_free Free = true
is_free (Out pasid page) = false
is_free (Doomed pasid page) = false

-- is a request of this PASID out? A doomed one is out too
abbrev pub asks_under : ℕ → RequestTag → Bool
asks_under pasid Free = false
asks_under pasid (Out asker page) = asker == pasid
asks_under pasid (Doomed asker page) = asker == pasid

-- a request that is out when an invalidation covers it is doomed (this project's own rule): its answer will be thrown
-- away, and its tag stays taken until then
abbrev pub doomed_by : Invalidation → RequestTag → RequestTag
doomed_by invalidation Free = Free
doomed_by invalidation (Out pasid page) = if covers invalidation pasid page then Doomed pasid page else Out pasid page
doomed_by invalidation (Doomed pasid page) = Doomed pasid page
