-- Which pages a worker's success maps, and what its reply is answered. (This project's own; the page requests of a group are those of PCI
-- Express Base 5.0, section 10.4.1, and its code of success that of section 10.4.2.)
use Rattle.std.specs.Prelude.{◌≡◌, ◌≢◌, ◌⊎◌, ◌↔◌, ℕ, ◌<◌, ◌≤◌, Bool, true, false, Some, List, [], ◌∷◌, ◌++◌, Ok}
use Rattle.sva_step.specs.declared.answers.Answer.{Answer}
use Rattle.sva_step.specs.declared.answers.Answer.TheVariants as answer
use Rattle.sva_step.specs.declared.limits.Config.{Config}
use Rattle.sva_step.specs.declared.steps.Step.{Step}
use Rattle.sva_step.specs.declared.steps.Step.TheVariants as step
use Rattle.sva_step.specs.declared.steps.Verdict.{Verdict}
use Rattle.sva_step.specs.declared.steps.Verdict.TheVariants as verdict_is
use Rattle.sva_model.specs.State.{PasidRule, Stage, World}
use Rattle.sva_model.specs.State.Stage.{Live, Stopping, Draining}
use Rattle.sva_model.specs.State.Phase.{Open}
use Rattle.sva_model.specs.States.{is_before_invalidating, place}
use Rattle.sva_model.specs.States.Place.{Free}
use Rattle.sva_model.specs.Labels.{is_mapped}
use Rattle.sva_model.specs.Replies.{job_part, job_binding, job_space}
use Rattle.sva_model.specs.Steps.{reply, world_after}
use Rattle.sva_model.specs.Claims.{Fits}

-- a page request that is filed of the job's group asks for the page
pub record IsAskedFor (world : World) (job page : ℕ) : Type 0 where
  pub filing : ℕ
  pub filed : filing < (job_part world job).filings
  pub of_group : (job_part world job).group_of ((job_part world job).filing filing) ≡ (world.job job).group
  pub of_page : (job_part world job).asked_page ((job_part world job).filing filing) ≡ page

-- one asks to write it
pub record IsAskedToWrite (world : World) (job page : ℕ) : Type 0 where
  pub filing : ℕ
  pub filed : filing < (job_part world job).filings
  pub of_group : (job_part world job).group_of ((job_part world job).filing filing) ≡ (world.job job).group
  pub of_page : (job_part world job).asked_page ((job_part world job).filing filing) ≡ page
  pub writes : (job_part world job).asks_write ((job_part world job).filing filing) ≡ true

-- A success maps pages that are asked for, and no other; each page that is asked for is mapped after it; and a page that it maps
-- may be written exactly where some request asks to write it.
pub record MapsWhatIsAsked (before after : World) (job : ℕ) : Type 0 where
  pub asked : (mapping : ℕ) → before.mappings.made ≤ mapping → mapping < after.mappings.made → IsAskedFor before job (after.mappings.page mapping)
  pub all : (page : ℕ) → IsAskedFor before job page → is_mapped after (job_space before job) page ≡ true
  pub writable :
      (mapping : ℕ)
      → before.mappings.made ≤ mapping
      → mapping < after.mappings.made
      → (after.mappings.write mapping ≡ true) ↔ IsAskedToWrite before job (after.mappings.page mapping)

-- each reply that is answered by a success, after every list of steps, maps so for the job in the worker's hand
abbrev pub AlwaysMapsWhatIsAsked : Type 0
AlwaysMapsWhatIsAsked =
    (rule : PasidRule) (config : Config) (steps : List Step) (worker job : ℕ) (verdict : Verdict) (count : ℕ)
    → Fits config
    → reply (world_after rule config steps) (step.Reply worker verdict) ≡ Ok (answer.Success count)
    → (world_after rule config steps).hand worker ≡ Some job
    → MapsWhatIsAsked (world_after rule config steps) (world_after rule config (steps ++ step.Reply worker verdict ∷ [])) job

-- the first of the page requests that are filed of the job's group, in order of filing, that asks for the page
pub record IsFirstAsk (world : World) (job page filing : ℕ) : Type 0 where
  pub filed : filing < (job_part world job).filings
  pub of_group : (job_part world job).group_of ((job_part world job).filing filing) ≡ (world.job job).group
  pub of_page : (job_part world job).asked_page ((job_part world job).filing filing) ≡ page
  pub none_earlier :
      (earlier : ℕ)
      → earlier < filing
      → (job_part world job).group_of ((job_part world job).filing earlier) ≡ (world.job job).group
      → (job_part world job).asked_page ((job_part world job).filing earlier) ≢ page

-- A success maps its pages in the order in which they were first asked for, each to the lowest frame that is free then.
pub record MapsInOrder (before after : World) (job : ℕ) : Type 0 where
  pub asked :
      (mapping : ℕ)
      → before.mappings.made ≤ mapping
      → mapping < after.mappings.made
      → (filing : ℕ) × IsFirstAsk before job (after.mappings.page mapping) filing
  pub pages :
      (mapping later filing other : ℕ)
      → before.mappings.made ≤ mapping
      → mapping < later
      → later < after.mappings.made
      → IsFirstAsk before job (after.mappings.page mapping) filing
      → IsFirstAsk before job (after.mappings.page later) other
      → filing < other
  pub free :
      (mapping : ℕ)
      → before.mappings.made ≤ mapping
      → mapping < after.mappings.made
      → place before (after.mappings.frame mapping) ≡ Free
  pub frames :
      (mapping later : ℕ)
      → before.mappings.made ≤ mapping
      → mapping < later
      → later < after.mappings.made
      → after.mappings.frame mapping < after.mappings.frame later
  pub lowest :
      (mapping frame : ℕ)
      → before.mappings.made ≤ mapping
      → mapping < after.mappings.made
      → place before frame ≡ Free
      → frame < after.mappings.frame mapping
      → (earlier : ℕ) × (before.mappings.made ≤ earlier) × (earlier < mapping) × (after.mappings.frame earlier ≡ frame)

-- each reply that is answered by a success, after every list of steps, maps in this order for the job in the worker's hand
abbrev pub AlwaysMapsInOrder : Type 0
AlwaysMapsInOrder =
    (rule : PasidRule) (config : Config) (steps : List Step) (worker job : ℕ) (verdict : Verdict) (count : ℕ)
    → Fits config
    → reply (world_after rule config steps) (step.Reply worker verdict) ≡ Ok (answer.Success count)
    → (world_after rule config steps).hand worker ≡ Some job
    → MapsInOrder (world_after rule config steps) (world_after rule config (steps ++ step.Reply worker verdict ∷ [])) job

-- the stage of the binding that a job names
abbrev pub stage_of : World → (job : ℕ) → Stage
stage_of world job = (job_part world job).stage (job_binding world job)

-- What a worker's reply is answered, and so which code is sent (section 10.4.2): at an open unit the verdict of the worker where the
-- binding is Live, and Invalid Request where it stops or drains; else nothing is sent and the job is dropped.
pub record RepliesBy (world : World) (job : ℕ) (verdict : Verdict) (said : Answer) : Type 0 where
  pub success : (count : ℕ) → said ≡ answer.Success count → ((job_part world job).phase ≡ Open) × (stage_of world job ≡ Live) × (verdict ≡ verdict_is.Success)
  pub failure : said ≡ answer.Failure → ((job_part world job).phase ≡ Open) × (stage_of world job ≡ Live) × (verdict ≡ verdict_is.Failure)
  pub invalid :
      said ≡ answer.Invalid
      → ((job_part world job).phase ≡ Open)
      × (((stage_of world job ≡ Live) × (verdict ≡ verdict_is.Invalid))
      ⊎ (((marked : Bool) × (stage_of world job ≡ Stopping marked)) ⊎ ((wait : ℕ) × (stage_of world job ≡ Draining wait))))
  pub dropped : said ≡ answer.Dropped → ((job_part world job).phase ≢ Open) ⊎ (is_before_invalidating (stage_of world job) ≡ false)
  pub one_of_four :
      ((count : ℕ) × (said ≡ answer.Success count)) ⊎ ((said ≡ answer.Failure) ⊎ ((said ≡ answer.Invalid) ⊎ (said ≡ answer.Dropped)))

-- each reply that is accepted, after every list of steps, is answered so for the job in the worker's hand
abbrev pub AlwaysRepliesBy : Type 0
AlwaysRepliesBy =
    (rule : PasidRule) (config : Config) (steps : List Step) (worker job : ℕ) (verdict : Verdict) (said : Answer)
    → Fits config
    → reply (world_after rule config steps) (step.Reply worker verdict) ≡ Ok said
    → (world_after rule config steps).hand worker ≡ Some job
    → RepliesBy (world_after rule config steps) job verdict said
