use Rattle.std.proofs.Common.{sym, subst}
use Rattle.std.specs.Prelude.{Ok, Err}
use Rattle.sva_step.specs.declared.answers.Answer.{Answer}
use Rattle.sva_host_state.specs.Flights.{code_seen}
use Rattle.sva_host_state.specs.JobTable.{job_seen}
use Rattle.sva_host_state.specs.Inner.{wire_of}
use Rattle.sva_host_state.specs.Steps.{Does}
use Rattle.sva_host_state.specs.Replying.{turned_down}
use Rattle.sva_host_state.proofs.Responses.{named, unsent_down, sent_down, does_err}
use Rattle.sva_host.proofs.spaces.replying.turn_down.Goals as goal

pub returns-in_err-send : goal.returns-in_err-send
returns-in_err-send c =
    does_err (turned_down c.args.host.now (job_seen c.args.job.now) c.args.pasid (code_seen c.args.code)) c.args.host.now
    (wire_of (record c.host.inside { in_flight = c.send.new.bag })) _ _ c.from_residual.ensures
    (unsent_down c.host.inside c.args.host.now c.args.job.now c.args.pasid c.args.code c.send.new.bag _ c.host.view_is
    (named c.host.inside.in_flight c.send.new.bag c.args.job.now c.unit.result c.index.result c.args.pasid c.args.code
    (Err c.in_err-send.field-0.0) c.unit.ensures c.index.ensures c.in_err-send.ensures.sends))

pub returns : goal.returns
returns c =
    subst (λ (a : Answer). Does (turned_down c.args.host.now (job_seen c.args.job.now) c.args.pasid (code_seen c.args.code)) c.args.host.now (Ok a)
    (wire_of (record c.host.inside { in_flight = c.send.new.bag })))
    (sym c.answer_of.ensures)
    (sent_down c.host.inside c.args.host.now c.args.job.now c.args.pasid c.args.code c.send.new.bag c.host.view_is
    (named c.host.inside.in_flight c.send.new.bag c.args.job.now c.unit.result c.index.result c.args.pasid c.args.code
    (Ok tt) c.unit.ensures c.index.ensures c.in_ok-send.ensures.sends))
