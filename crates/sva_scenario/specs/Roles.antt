-- What the threads of a storm are given to play.
use Rattle.std.specs.Prelude.{◌≡◌, vec_len, List}
use Rattle.sva_step.specs.declared.limits.Config.{Config}
use Rattle.sva_step.specs.declared.steps.Step.{Step}
use Rattle.sva_scenario.specs.Lines.{lines_of_owner, lines_of_endpoints}
use Rattle.sva_scenario.specs.declared.lines.Owner.TheVariants as owner
use Rattle.sva_scenario.specs.declared.roles.Roles.{Roles}

-- the host has its lines, each endpoint its own and a device, and each worker a pager
pub record AreRoles {D P : Type 0} (config : Config) (steps : List Step) (roles : Roles D P) : Type 0 where
  pub host : roles.host ≡ lines_of_owner owner.Host steps
  pub endpoints : roles.endpoints.items ≡ lines_of_endpoints steps config.endpoints
  pub line_count : vec_len roles.endpoints ≡ config.endpoints
  pub devices : vec_len roles.devices ≡ config.endpoints
  pub pagers : vec_len roles.pagers ≡ config.workers
