use Rattle.sva_host.proofs.Hosting.{hosted, still}
use Rattle.sva_host.proofs.Sounds.{host_sound}
use Rattle.sva_host.proofs.Answered.{takes_seen}
use Rattle.sva_host.proofs.host.Host.apply_apart.Goals as goal

pub apply_at_host-requires-clause-sound : goal.apply_at_host-requires-clause-sound
apply_at_host-requires-clause-sound c = host_sound c.self.inside _ c.self.view_is c.self.invariant c.requires.sound

pub invariant_of-self : goal.invariant_of-self
invariant_of-self c = still c.self.inside c.args.step.now _ _ c.self.invariant c.requires.apart c.apply_at_host.ensures.step

pub returns-clause-step : goal.returns-clause-step
returns-clause-step c = hosted c.self.inside _ c.args.step.now _ _ c.self.view_is c.requires.apart c.apply_at_host.ensures.step

pub returns-clause-memory : goal.returns-clause-memory
returns-clause-memory c takes = c.apply_at_host.ensures.memory (takes_seen c.self.inside _ c.args.step.now c.self.view_is c.requires.apart takes)
