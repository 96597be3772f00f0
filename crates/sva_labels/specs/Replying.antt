-- What a worker's reply does, read off what a host keeps: it is decided by the binding that the job names, at the time of
-- the reply (Page Request Group Response: PCI Express Base 5.0, section 10.4.2).
use Rattle.std.specs.Prelude.{ℕ, Bool, true, false, ◌&&◌, not, ◌==◌, is_some, Option, Some, None, List, map}
use Rattle.std.specs.List.{list_any}
use Rattle.sva_step.specs.declared.steps.Verdict.{Verdict}
use Rattle.sva_step.specs.declared.steps.Verdict.TheVariants as verdict
use Rattle.sva_model.specs.Message.{Code}
use Rattle.sva_model.specs.Message.Code.{InvalidCode}
use Rattle.sva_model.specs.Replies.{code_of_verdict, is_success, unseen}
use Rattle.sva_model.specs.Wire.{Wire, PageWire, BindingWire, StageWire, AskWire, JobWire}
use Rattle.sva_model.specs.Wire.StageWire.{LiveWire, StoppingWire, DrainingWire}
use Rattle.sva_labels.specs.Finding.{pages_in, page_at, is_mapped, binding_of, unit_of}

-- the code of the response; none is sent at a unit in reset, or for a binding that is Lost, Quiet or released
abbrev pub response_by : Bool → StageWire → Verdict → Option Code
response_by true LiveWire verdict = Some (code_of_verdict verdict)
response_by true (StoppingWire marked) verdict = Some InvalidCode
response_by true (DrainingWire cookie) verdict = Some InvalidCode
response_by _ _ verdict = None

-- the same, by the binding that the job names; one that was released is found no more
abbrev pub response_for : (is_open : Bool) → Option BindingWire → Verdict → Option Code
response_for is_open None verdict = None
response_for is_open (Some binding) verdict = response_by is_open binding.stage verdict

-- the code of the response to a job, if one is sent
abbrev pub response_to : Wire → JobWire → Verdict → Option Code
response_to wire job verdict = response_for (unit_of wire job.endpoint).is_open (binding_of wire job.binding) verdict

-- is a response sent to the job, whatever the verdict?
abbrev pub responds : Wire → JobWire → Bool
responds wire job = is_some (response_to wire job verdict.Invalid)

-- is the job answered by success, so that pages are mapped?
abbrev pub replies_success : Wire → JobWire → Verdict → Bool
replies_success wire job verdict = is_success (response_to wire job verdict)

-- the number of the space of the binding that the job names; 0 where that is released
abbrev pub space_by : Option BindingWire → ℕ
space_by None = 0
space_by (Some binding) = binding.space

-- the number of the space for which a job asks
abbrev pub space_of_job : Wire → JobWire → ℕ
space_of_job wire job = space_by (binding_of wire job.binding)

-- the mapped pages of the space for which a job asks
abbrev pub pages_of_job : Wire → JobWire → List PageWire
pages_of_job wire job = pages_in wire (space_of_job wire job)

-- of the pages that are asked for those that aren't mapped among these, in order of first filing
abbrev pub new_among : List PageWire → List AskWire → List ℕ
new_among pages asks = unseen (is_mapped pages) (map (λ ask. ask.page) asks)

-- the pages that a success maps
abbrev pub newly_mapped : Wire → JobWire → List ℕ
newly_mapped wire job = new_among (pages_of_job wire job) job.asks

-- does a request of the job ask to write the page?
abbrev pub is_write_asked : List AskWire → (page : ℕ) → Bool
is_write_asked asks page = list_any (λ ask. ask.page == page && ask.write) asks

-- does a mapping stand at the page that allows no write?
abbrev pub is_read_only_at : Option PageWire → Bool
is_read_only_at None = false
is_read_only_at (Some entry) = not entry.write

-- is it asked to write a page that is mapped read-only among these?
abbrev pub writes_read_only : List PageWire → List AskWire → Bool
writes_read_only pages asks = list_any (λ ask. ask.write && is_read_only_at (page_at pages ask.page)) asks

-- does a request of the job ask for that?
abbrev pub is_write_of_read_only : Wire → JobWire → Bool
is_write_of_read_only wire job = writes_read_only (pages_of_job wire job) job.asks
