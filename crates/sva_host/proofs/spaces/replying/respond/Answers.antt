use Rattle.std.proofs.Common.{sym, ap, subst, refl}
use Rattle.sva_model.specs.Message.Code.{InvalidCode, FailureCode}
use Rattle.sva_labels.specs.Host.{Decision}
use Rattle.sva_host_state.specs.Flights.{code_seen}
use Rattle.sva_host_state.specs.JobTable.{job_seen}
use Rattle.sva_host_state.specs.Steps.{Does}
use Rattle.sva_host_state.proofs.Responses.{dropped, never_silent, space_there, is_succeeded, is_turned_down}
use Rattle.sva_host.proofs.spaces.replying.respond.Goals as goal

pub returns-in_default-clause-step : goal.returns-in_default-clause-step
returns-in_default-clause-step c = dropped c.args.host.now (job_seen c.args.job.now) c.args.verdict c.in_default.ensures

pub succeed-requires : goal.succeed-requires
succeed-requires c = space_there c.args.host.now (job_seen c.args.job.now) c.args.verdict c.in-Some.response c.in-Some.ensures c.requires.space

pub returns-in-Success-clause-step : goal.returns-in-Success-clause-step
returns-in-Success-clause-step c =
    subst (λ (d : Decision). Does d c.args.host.now c.succeed.result c.succeed.new.host)
    (sym (is_succeeded c.args.host.now (job_seen c.args.job.now) c.args.verdict c.in-Some.response c.in-Some.ensures (ap code_seen c.in-Success.is)))
    c.succeed.ensures

pub returns-in-Success-clause-memory : goal.returns-in-Success-clause-memory
returns-in-Success-clause-memory c = λ silent. absurd
    (never_silent c.args.host.now (job_seen c.args.job.now) c.args.verdict c.in-Some.response c.in-Some.ensures silent)

pub returns-in-InvalidRequest-clause-step : goal.returns-in-InvalidRequest-clause-step
returns-in-InvalidRequest-clause-step c =
    subst (λ (d : Decision). Does d c.args.host.now c.turn_down.result c.turn_down.new.host)
    (sym (is_turned_down c.args.host.now (job_seen c.args.job.now) c.args.verdict c.in-Some.response InvalidCode c.in-Some.ensures
    (ap code_seen c.in-InvalidRequest.is) refl))
    c.turn_down.ensures

pub returns-in-InvalidRequest-clause-memory : goal.returns-in-InvalidRequest-clause-memory
returns-in-InvalidRequest-clause-memory c = λ silent.
    absurd (never_silent c.args.host.now (job_seen c.args.job.now) c.args.verdict c.in-Some.response c.in-Some.ensures silent)

pub returns-in-ResponseFailure-clause-step : goal.returns-in-ResponseFailure-clause-step
returns-in-ResponseFailure-clause-step c =
    subst (λ (d : Decision). Does d c.args.host.now c.turn_down-in-ResponseFailure.result c.turn_down-in-ResponseFailure.new.host)
    (sym (is_turned_down c.args.host.now (job_seen c.args.job.now) c.args.verdict c.in-Some.response FailureCode c.in-Some.ensures
    (ap code_seen c.in-ResponseFailure.is) refl))
    c.turn_down-in-ResponseFailure.ensures
