-- Who bears a PASID (PCI Express Base 5.0, section 6.20), and what `bearer` tells of it. (The step is this project's own.)
use Rattle.std.specs.Prelude.{◌≡◌, ◌⊎◌, ◌↔◌, ℕ, ◌<◌, Bool, true, ◌&&◌, ◌==◌, List, Ok, Err}
use Rattle.sva_step.specs.declared.answers.Answer.TheVariants as answer
use Rattle.sva_step.specs.declared.limits.Config.{Config}
use Rattle.sva_step.specs.declared.refusals.Refusal.TheVariants as refusal
use Rattle.sva_step.specs.declared.steps.Step.{Step}
use Rattle.sva_step.specs.declared.steps.Step.TheVariants as step
use Rattle.sva_step.specs.Limits
use Rattle.sva_model.specs.Words.{count_below}
use Rattle.sva_model.specs.State.{PasidRule, World}
use Rattle.sva_model.specs.State.PasidRule.{PerSpace}
use Rattle.sva_model.specs.States.{is_unreleased}
use Rattle.sva_model.specs.Labels.{number}
use Rattle.sva_model.specs.Steps.{Reply, reply, world_after}
use Rattle.sva_model.specs.Claims.{Fits}

-- the binding is unreleased at the endpoint, and bears the PASID there
pub record Bears (world : World) (pasid endpoint binding : ℕ) : Type 0 where
  pub unreleased : is_unreleased ((world.part endpoint).stage binding) ≡ true
  pub its_pasid : (world.part endpoint).pasid binding ≡ pasid

-- is the binding unreleased, and does it bear the PASID?
abbrev pub bears : World → (pasid binding : ℕ) → Bool
bears world pasid binding =
    is_unreleased ((world.part (world.endpoint_of binding)).stage binding) && (world.part (world.endpoint_of binding)).pasid binding == pasid

-- how many of all bindings are unreleased and bear the PASID
abbrev pub bearers : World → (pasid : ℕ) → ℕ
bearers world pasid = count_below world.bindings (bears world pasid)

-- A PASID is borne: the number is that of the space of the bearer at the lowest endpoint, where the rule is one PASID for each space of
-- every bearer; and the count is how many bindings bear it.
pub record IsBorneSo (world : World) (pasid of_space count : ℕ) : Type 0 where
  pub space : ℕ
  pub numbered : number world space ≡ of_space
  pub counted : count ≡ bearers world pasid
  pub endpoint : ℕ
  pub binding : ℕ
  pub first : Bears world pasid endpoint binding
  pub first_space : (world.part endpoint).space binding ≡ space
  pub lowest : (lower other : ℕ) → lower < endpoint → Bears world pasid lower other → ⊥
  pub every_space :
      world.rule ≡ PerSpace
      → (at_endpoint other : ℕ)
      → Bears world pasid at_endpoint other
      → (world.part at_endpoint).space other ≡ space

-- What `bearer` says, of each of the 32 PASIDs: who bears it, or that nobody does; and of any other number that it is no PASID.
pub record TellsBearer (world : World) (pasid : ℕ) (said : Reply) : Type 0 where
  pub borne : (of_space count : ℕ) → said ≡ Ok (answer.Bearer of_space count) → IsBorneSo world pasid of_space count
  pub free : said ≡ Ok answer.NoBearer → (endpoint binding : ℕ) → Bears world pasid endpoint binding → ⊥
  pub refused : (said ≡ Err refusal.BadPasid) ↔ ((pasid ≡ 0) ⊎ (Limits.pasids < pasid))
  pub one_of_three : (said ≡ Err refusal.BadPasid) ⊎ ((said ≡ Ok answer.NoBearer) ⊎ ((of_space : ℕ) × (count : ℕ) × (said ≡ Ok (answer.Bearer of_space count))))

-- so it tells after every list of steps
abbrev pub AlwaysTellsBearer : Type 0
AlwaysTellsBearer =
    (rule : PasidRule) (config : Config) (steps : List Step) (pasid : ℕ)
    → Fits config
    → TellsBearer (world_after rule config steps) pasid (reply (world_after rule config steps) (step.Bearer pasid))
