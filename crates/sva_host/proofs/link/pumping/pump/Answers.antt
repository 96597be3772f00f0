use Rattle.std.proofs.Common.{sym, ap, ◌∙◌, subst, ℕ}
use Rattle.sva_queue.specs.declared.heads.Next.TheVariants as Next
use Rattle.sva_host_state.specs.declared.host_state.Port.{Port}
use Rattle.sva_host_state.specs.Heads.{IsHead}
use Rattle.sva_host_state.proofs.Ports.{port_found, same_port}
use Rattle.sva_host_state.proofs.Heads.{is_there, is_open_there, head_there, sends_there, pump_refused, pump_idle, pump_blocked}
use Rattle.sva_host.proofs.link.pumping.pump.Goals as goal

pub returns-then-not-is_open-clause-step : goal.returns-then-not-is_open-clause-step
returns-then-not-is_open-clause-step c =
    let port : Port = c.index.result.now in
    let is = port_found c.host.inside _ c.args.endpoint c.in_ok-at.at c.index.result.now c.host.invariant c.host.view_is
    c.in_ok-at.ensures c.index.ensures in
    pump_refused c.args.host.now c.args.endpoint (is_there c.host.inside _ c.args.endpoint port c.host.view_is is)
    (is_open_there c.host.inside _ c.args.endpoint port c.is_open.result _ c.host.view_is is c.is_open.ensures c.if-not-is_open.true)

pub returns-in-Idle-clause-step : goal.returns-in-Idle-clause-step
returns-in-Idle-clause-step c =
    let port : Port = c.index-2.result.now in
    let is = port_found c.host.inside _ c.args.endpoint c.in_ok-at.at c.index-2.result.now c.host.invariant c.host.view_is c.in_ok-at.ensures
    c.index-2.ensures in
    let same = same_port c.host.inside _ c.args.endpoint c.in_ok-at.at c.index.result.now c.index-2.result.now
    c.host.view_is c.in_ok-at.ensures c.index.ensures c.index-2.ensures in
    let opened = c.is_open.ensures ∙ ap (λ (p : Port). p.unit.unit.is_open) (sym same) in
    pump_idle c.args.host.now c.args.endpoint
    (head_there c.host.inside _ c.args.endpoint port c.is_open.result Next.Idle c.host.view_is is opened c.if-not-is_open.false c.in-Idle.ensures.next)

pub returns-in-Blocked-clause-step : goal.returns-in-Blocked-clause-step
returns-in-Blocked-clause-step c =
    let port : Port = c.index-2.result.now in
    let is = port_found c.host.inside _ c.args.endpoint c.in_ok-at.at c.index-2.result.now c.host.invariant c.host.view_is c.in_ok-at.ensures
    c.index-2.ensures in
    let same = same_port c.host.inside _ c.args.endpoint c.in_ok-at.at c.index.result.now c.index-2.result.now
    c.host.view_is c.in_ok-at.ensures c.index.ensures c.index-2.ensures in
    let opened = c.is_open.ensures ∙ ap (λ (p : Port). p.unit.unit.is_open) (sym same) in
    pump_blocked c.args.host.now c.args.endpoint
    (head_there c.host.inside _ c.args.endpoint port c.is_open.result Next.Blocked c.host.view_is is opened c.if-not-is_open.false
    c.in-Blocked.ensures.next)

pub send_head-requires : goal.send_head-requires
send_head-requires c =
    let port : Port = c.index-2.result.now in
    let is = port_found c.host.inside _ c.args.endpoint c.in_ok-at.at c.index-2.result.now c.host.invariant c.host.view_is c.in_ok-at.ensures
    c.index-2.ensures in
    let same = same_port c.host.inside _ c.args.endpoint c.in_ok-at.at c.index.result.now c.index-2.result.now
    c.host.view_is c.in_ok-at.ensures c.index.ensures c.index-2.ensures in
    let opened = c.is_open.ensures ∙ ap (λ (p : Port). p.unit.unit.is_open) (sym same) in
    subst (λ (at : ℕ). IsHead c.args.host.now at (Next.Send c.in-Send.sending)) (sym c.in_ok-at.ensures.0)
    (head_there c.host.inside _ c.args.endpoint port c.is_open.result (Next.Send c.in-Send.sending) c.host.view_is is opened c.if-not-is_open.false
    c.in-Send.ensures.next)

pub returns-in-Send-clause-memory : goal.returns-in-Send-clause-memory
returns-in-Send-clause-memory c none wrong =
    let port : Port = c.index-2.result.now in
    let is = port_found c.host.inside _ c.args.endpoint c.in_ok-at.at c.index-2.result.now c.host.invariant c.host.view_is c.in_ok-at.ensures
    c.index-2.ensures in
    let same = same_port c.host.inside _ c.args.endpoint c.in_ok-at.at c.index.result.now c.index-2.result.now
    c.host.view_is c.in_ok-at.ensures c.index.ensures c.index-2.ensures in
    let opened = c.is_open.ensures ∙ ap (λ (p : Port). p.unit.unit.is_open) (sym same) in
    sends_there c.args.host.now c.args.endpoint c.in-Send.sending
    (head_there c.host.inside _ c.args.endpoint port c.is_open.result (Next.Send c.in-Send.sending) c.host.view_is is opened c.if-not-is_open.false
    c.in-Send.ensures.next)
    none

pub pass_head-requires : goal.pass_head-requires
pass_head-requires c =
    let port : Port = c.index-2.result.now in
    let is = port_found c.host.inside _ c.args.endpoint c.in_ok-at.at c.index-2.result.now c.host.invariant c.host.view_is c.in_ok-at.ensures
    c.index-2.ensures in
    let same = same_port c.host.inside _ c.args.endpoint c.in_ok-at.at c.index.result.now c.index-2.result.now
    c.host.view_is c.in_ok-at.ensures c.index.ensures c.index-2.ensures in
    let opened = c.is_open.ensures ∙ ap (λ (p : Port). p.unit.unit.is_open) (sym same) in
    subst (λ (at : ℕ). IsHead c.args.host.now at (Next.Pass c.in-Pass.cookie)) (sym c.in_ok-at.ensures.0)
    (head_there c.host.inside _ c.args.endpoint port c.is_open.result (Next.Pass c.in-Pass.cookie) c.host.view_is is opened c.if-not-is_open.false
    c.in-Pass.ensures.next)
