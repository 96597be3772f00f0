-- What a storm's audit counts, and what it ends with.
use Rattle.std.proofs.Common.{◌≡◌, ◌∙◌, ℕ, ◌+◌, List, ◌∷◌, ◌++◌, length, map, Result, Ok, ap, subst, arith, refl}
use Rattle.std.proofs.Common.{length-append}
use Rattle.sva_step.specs.declared.limits.Config.{Config}
use Rattle.sva_step.specs.declared.steps.Step.{Step}
use Rattle.sva_model.specs.State.PasidRule.{PerSpace}
use Rattle.sva_model.specs.Journal.{steps_of}
use Rattle.sva_laws.proofs.Limits.{adds_up}
use Rattle.sva_laws.proofs.Withheld.{config_kept}
use Rattle.sva_fabric.specs.declared.audits.Audit.{Audit}
use Rattle.sva_fabric.specs.declared.audits.FirstBadReceipt.{FirstBadReceipt}
use Rattle.sva_fabric.specs.declared.ports.Ports.{Ports}
use Rattle.sva_fabric.specs.Audits.{states_of, IsFinished}
use Rattle.sva_fabric.specs.Journal.{as_defined, world_of}
use Rattle.sva_scenario.specs.Storms.{HasFinished}
use Rattle.sva_scenario.specs.Lacks.{ArePartsPlayed}

-- the frames of an audit that is ok are all frames of the config
pub storm_frames : (config : Config) (steps : List Step) (turns : ℕ) (audit : Audit) → HasFinished config steps turns (Ok audit)
    → audit.free + audit.mapped + audit.withheld ≡ config.frames
storm_frames config steps turns audit h =
    let f = h.finished in
    let a = f.is_audit in
    let asked = steps_of (map as_defined f.journal.entries) in
    let all = adds_up (world_of f.journal) in
    let kept = ap (λ (c : Config). c.frames) (config_kept PerSpace f.journal.config asked ∙ f.of_config) in
    omega (arith, a.3, a.4, a.5, all, kept)

-- the audit of all ports, each of which was called by its own thread
pub has_finished : {C : Type 0} (config : Config) (steps : List Step) (turns parts : ℕ) (ports : Ports C) (held used : ℕ)
    (result : Result Audit FirstBadReceipt)
    → parts ≡ 3 + config.endpoints + config.workers
    → length ports.endpoints.items ≡ config.endpoints → length ports.workers.items ≡ config.workers
    → ArePartsPlayed config steps turns ports
    → IsFinished config parts (states_of ports) held used result → HasFinished config steps turns result
has_finished config steps turns parts ports held used result is endpoints workers played f = record {
  states = states_of ports;
  all = omega (arith, endpoints, workers, length-append ports.endpoints.items ports.workers.items);
  played = record {
    host = ports.host;
    link = ports.link;
    service = ports.service;
    endpoints = ports.endpoints.items;
    workers = ports.workers.items;
    in_order = refl;
    endpoint_count = endpoints;
    worker_count = workers;
    by_host = played.host;
    by_link = played.link;
    by_service = played.service;
    by_endpoints = played.endpoints;
    by_workers = played.workers;
  };
  held = held;
  used = used;
  finished = subst (λ (n : ℕ). IsFinished config n (states_of ports) held used result) is f;
}
