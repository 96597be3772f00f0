use Rattle.std.proofs.Common.{◌<◌, ◌≤◌, ◌^◌, List, sym, ap, subst, ◌∙◌, arith}
use Rattle.sva_msg.specs.declared.messages.Code.TheVariants.{Success}
use Rattle.sva_prq.specs.declared.jobs.Ask.{Ask}
use Rattle.sva_address_spaces.specs.Steps.{AllMoves}
use Rattle.sva_address_spaces.specs.Asked.{asks_seen, new_pages, may_map_all, maps_of, taken_back}
use Rattle.sva_host_state.specs.JobTable.{job_seen}
use Rattle.sva_host_state.specs.Replying.{succeeded}
use Rattle.sva_host_state.proofs.Responses.{named, does_err, success_refused, success_spent, unmapped_all, taken_back_all, success_done}
use Rattle.sva_host.proofs.spaces.replying.succeed.Goals as goal

pub returns-in_err-may_map_all : goal.returns-in_err-may_map_all
returns-in_err-may_map_all c =
    does_err (succeeded c.args.host.now (job_seen c.args.job.now) c.args.space c.args.pasid) c.args.host.now c.args.host.now _ _ c.from_residual.ensures
    (success_refused c.host.inside c.args.host.now c.args.job.now c.args.space c.args.pasid _ c.host.view_is
    (c.in_err-may_map_all.ensures ∙ ap (λ (asks : List Ask). may_map_all c.host.inside.address_spaces c.args.space (asks_seen asks)) c.asks-asks.ensures.asks))

pub returns-then-left-eq0 : goal.returns-then-left-eq0
returns-then-left-eq0 c =
    let over : 2 ^ 63 ≤ c.host.inside.in_flight.next = omega (arith, c.left.ensures.left, c.if-left-eq0.true) in
    success_spent c.host.inside c.args.host.now c.args.job.now c.args.space c.args.pasid c.host.view_is
    (c.in_ok-may_map_all.ensures ∙ ap (λ (asks : List Ask). may_map_all c.host.inside.address_spaces c.args.space
    (asks_seen asks)) c.asks-asks.ensures.asks) over

pub returns-in_default : goal.returns-in_default
returns-in_default c =
    let under : c.host.inside.in_flight.next < 2 ^ 63 = omega (arith, c.left.ensures.left, c.if-left-eq0.false) in
    unmapped_all c.host.inside c.args.host.now c.args.job.now c.args.space c.args.pasid c.map_all.new.self c.host.view_is
    (c.in_ok-may_map_all.ensures ∙ ap (λ (asks : List Ask). may_map_all c.host.inside.address_spaces c.args.space
    (asks_seen asks)) c.asks-asks.ensures.asks) under c.in_default.ensures.err

pub returns-then-is_err : goal.returns-then-is_err
returns-then-is_err c =
    let under : c.host.inside.in_flight.next < 2 ^ 63 = omega (arith, c.left.ensures.left, c.if-left-eq0.false) in
    taken_back_all c.host.inside c.args.host.now c.args.job.now c.args.space c.args.pasid c.in-Ok.pages.items c.map_all.new.self c.take_back.new.self
    c.send.new.bag c.send.result c.host.view_is
    (c.in_ok-may_map_all.ensures ∙ ap (λ (asks : List Ask). may_map_all c.host.inside.address_spaces c.args.space
    (asks_seen asks)) c.asks-asks.ensures.asks) under
    (c.take_back.ensures ∙ ap (taken_back c.map_all.new.self c.args.space) c.deref.ensures.0) c.in-Ok.ensures.back
    (named c.host.inside.in_flight c.send.new.bag c.args.job.now c.unit.result c.index.result c.args.pasid Success c.send.result c.unit.ensures
    c.index.ensures c.send.ensures.sends)
    (sym c.if-is_err.ensures.value)

pub returns : goal.returns
returns c =
    let under : c.host.inside.in_flight.next < 2 ^ 63 = omega (arith, c.left.ensures.left, c.if-left-eq0.false) in
    success_done c.host.inside c.args.host.now c.args.job.now c.args.space c.args.pasid c.len.result c.in-Ok.pages.items c.map_all.new.self c.send.new.bag
    c.send.result c.host.view_is
    (c.in_ok-may_map_all.ensures ∙ ap (λ (asks : List Ask). may_map_all c.host.inside.address_spaces c.args.space
    (asks_seen asks)) c.asks-asks.ensures.asks) under
    (c.in-Ok.ensures.pages ∙ ap (λ (asks : List Ask). new_pages c.host.inside.address_spaces c.args.space
    (asks_seen asks)) c.asks-asks.ensures.asks) c.len.ensures.value
    (subst (λ (asks : List Ask). AllMoves
    (maps_of c.host.inside.address_spaces c.args.space (asks_seen asks)) c.host.inside.address_spaces c.map_all.new.self) c.asks-asks.ensures.asks
    c.in-Ok.ensures.after)
    (named c.host.inside.in_flight c.send.new.bag c.args.job.now c.unit.result c.index.result c.args.pasid Success c.send.result c.unit.ensures
    c.index.ensures c.send.ensures.sends)
    (sym c.if-is_err.ensures.value)
