use Rattle.std.proofs.Common.{◌≡◌, length, true, ◌∙◌}
use Rattle.sva_fabric.specs.Audits.{calls_of, states_of}
use Rattle.sva_fabric.proofs.Once.{told_once}
use Rattle.sva_fabric.proofs.auditing.audit.Goals as goal
use Rattle.sva_fabric.proofs.auditing.audit.Goals.{then-adds_up, else-adds_up}

pub returns-clause-once : goal.returns-clause-once
returns-clause-once g c =
    let all : c.adds_up.result ≡ true = elim c.if-adds_up.branch [ then-adds_up w ↦ w.if-adds_up.true | else-adds_up w ↦ absurd (cc) ] in
    let many : calls_of (states_of c.args.ports.now) ≡ length c.args.journaled.now.entries =
    c.adds_up.ensures.yes all ∙ c.calls-calls.ensures.calls in
    told_once c.args.journaled.now.entries (states_of c.args.ports.now) c.in_default.ensures.rise c.in_default.ensures.none many
