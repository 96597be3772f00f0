use Rattle.std.proofs.Common.{sym, ◌∙◌, rules}
use Rattle.sva_fabric.proofs.fabric.Fabric.open.Goals as goal

pub open-requires-clause-config : goal.open-requires-clause-config
open-requires-clause-config g c = c.requires.config

pub open_ports-requires-clause-fits : goal.open_ports-requires-clause-fits
open_ports-requires-clause-fits g c = c.in_ok-running.ensures.ok.0

pub open_ports-requires-clause-parts : goal.open_ports-requires-clause-parts
open_ports-requires-clause-parts g c = c.open-books.ensures.parts ∙ (sym c.requires.parts ∙ c.requires.ports c.in_ok-running.ensures.ok.0)

pub returns-in_err-running-clause-bad : goal.returns-in_err-running-clause-bad
returns-in_err-running-clause-bad g c = search rules

pub returns-in_default-clause-bad : goal.returns-in_default-clause-bad
returns-in_default-clause-bad g c = (λ is. absurd (cc), λ unfit. absurd (unfit c.in_ok-running.ensures.ok.0))

pub returns-clause-ok : goal.returns-clause-ok
returns-clause-ok g c = (c.in_ok-running.ensures.ok.0, c.in-Ok.ensures.states)

pub returns-clause-ports : goal.returns-clause-ports
returns-clause-ports g c = c.in-Ok.ensures.ports

pub returns-clause-bad : goal.returns-clause-bad
returns-clause-bad g c = (λ is. absurd (cc), λ unfit. absurd (unfit c.in_ok-running.ensures.ok.0))
