-- What a worker's reply does: it is decided by the binding that the job names, at the time of the reply. It is a Page Request
-- Group Response (PCI Express Base 5.0, section 10.4.2).
use Rattle.std.specs.Prelude.{ℕ, Bool, true, false, ◌&&◌, ◌||◌, not, ◌==◌, if◌then◌else◌, Option, Some, None, List, [], ◌∷◌, map}
use Rattle.std.specs.List.{list_any}
use Rattle.sva_step.specs.declared.steps.Verdict.{Verdict}
use Rattle.sva_step.specs.declared.steps.Verdict.TheVariants as verdict
use Rattle.sva_model.specs.Words.{is_some, holds_of, select}
use Rattle.sva_model.specs.Message.{Code}
use Rattle.sva_model.specs.Message.Code.{SuccessCode, InvalidCode, FailureCode}
use Rattle.sva_model.specs.State.{Stage, Endpoint, World}
use Rattle.sva_model.specs.State.Stage.{Live, Stopping, Draining}
use Rattle.sva_model.specs.States.{is_open, is_free}
use Rattle.sva_model.specs.Acts.{Act}
use Rattle.sva_model.specs.Acts.Act.{Map}
use Rattle.sva_model.specs.Labels

-- the response code that a worker's verdict asks for
abbrev pub code_of_verdict : Verdict → Code
code_of_verdict verdict.Success = SuccessCode
code_of_verdict verdict.Invalid = InvalidCode
code_of_verdict verdict.Failure = FailureCode

-- the code of the response; none is sent at a unit in reset, or for a binding that is Lost, Quiet or released
abbrev pub response : Bool → Stage → Verdict → Option Code
response true Live verdict = Some (code_of_verdict verdict)
response true (Stopping marked) verdict = Some InvalidCode
response true (Draining wait) verdict = Some InvalidCode
response _ _ verdict = None

-- the endpoint of a job, with its unit
abbrev pub job_part : World → (job : ℕ) → Endpoint
job_part world job = world.part (world.job job).endpoint

-- the binding that a job names
abbrev pub job_binding : World → (job : ℕ) → ℕ
job_binding world job = (job_part world job).filed_under (world.job job).group

-- the space of the binding that a job names
abbrev pub job_space : World → (job : ℕ) → ℕ
job_space world job = (job_part world job).space (job_binding world job)

-- the code of the response to a job, if one is sent
abbrev pub response_to : World → (job : ℕ) → Verdict → Option Code
response_to world job verdict = response (is_open (job_part world job).phase) ((job_part world job).stage (job_binding world job)) verdict

-- is a response sent to the job, whatever the verdict?
abbrev pub responds : World → (job : ℕ) → Bool
responds world job = is_some (response_to world job verdict.Invalid)

-- is it the code of success?
abbrev pub is_success : Option Code → Bool
is_success (Some SuccessCode) = true
is_success _ = false

-- is the job answered by success?
abbrev pub replies_success : World → (job : ℕ) → Verdict → Bool
replies_success world job verdict = is_success (response_to world job verdict)

-- the page requests of the job, in order of filing
abbrev pub job_asks : World → (job : ℕ) → List ℕ
job_asks world job = Labels.asks (job_part world job) (world.job job).group

-- the pages of a list that aren't seen yet, each once, in order
abbrev pub unseen : (ℕ → Bool) → List ℕ → List ℕ
unseen seen [] = []
unseen seen (page ∷ pages) = if seen page then unseen seen pages else page ∷ unseen (λ x. x == page || seen x) pages

-- the pages that a success maps: each requested page that isn't mapped, in order of first filing
abbrev pub newly_mapped : World → (job : ℕ) → List ℕ
newly_mapped world job = unseen (Labels.is_mapped world (job_space world job)) (map (job_part world job).asked_page (job_asks world job))

-- does a request of the job ask to write the page?
abbrev pub is_write_asked : World → (job page : ℕ) → Bool
is_write_asked world job page = list_any (λ r. (job_part world job).asked_page r == page && (job_part world job).asks_write r) (job_asks world job)

-- does a request of the job ask to write a page that is mapped read-only?
abbrev pub is_write_of_read_only : World → (job : ℕ) → Bool
is_write_of_read_only world job =
    list_any
    (λ r.
    (job_part world job).asks_write r
    && holds_of (λ m. not (world.mappings.write m)) (world.mappings.at (job_space world job) ((job_part world job).asked_page r)))
    (job_asks world job)

-- each page to a frame, in order
abbrev pub maps_to : (space : ℕ) → (ℕ → Bool) → List ℕ → List ℕ → List Act
maps_to space write (page ∷ pages) (frame ∷ frames) = Map space page frame (write page) ∷ maps_to space write pages frames
maps_to space write _ _ = []

-- the free frames, lowest first
abbrev pub free_list : World → List ℕ
free_list world = select world.config.frames (is_free world)

-- the pages that a reply maps: none but by success
abbrev pub reply_maps : World → (job : ℕ) → Verdict → List Act
reply_maps world job verdict =
    if replies_success world job verdict then maps_to (job_space world job) (is_write_asked world job) (newly_mapped world job) (free_list world) else []
