use Rattle.std.proofs.Common.{sym, ◌∙◌, refl}
use Rattle.sva_step.specs.declared.steps.Step.TheVariants as step
use Rattle.sva_msg.specs.declared.messages.Kind.TheVariants.{Start}
use Rattle.sva_host_state.proofs.Devices.{kept}
use Rattle.sva_host_state.proofs.Binds.{bind_refused, has_pasid, fresh_binding, is_live, bind_unsent, bind_done}
use Rattle.sva_host_state.proofs.Staged.{back_staged}
use Rattle.sva_host.proofs.bindings.bindings.bind.Goals as goal

pub returns-in_err-may_bind : goal.returns-in_err-may_bind
returns-in_err-may_bind c =
    kept c.args.host.now c.args.host.now (step.Bind c.args.endpoint c.args.space) _ _ refl c.from_residual.ensures
    (bind_refused c.args.host.now c.args.endpoint c.args.space _ c.in_err-may_bind.ensures)

pub begin-requires-clause-free : goal.begin-requires-clause-free
begin-requires-clause-free c = has_pasid c.host.inside _ c.args.endpoint c.args.space c.host.view_is c.in_ok-may_bind.ensures

pub begin-requires-clause-fresh : goal.begin-requires-clause-fresh
begin-requires-clause-fresh c = fresh_binding c.host.inside _ c.host.view_is c.requires

pub take_back-requires : goal.take_back-requires
take_back-requires c =
    is_live c.host.inside.bindings c.begin.new.self c.args.endpoint c.args.space c.host.inside.next_binding c.in-Ok.pasid
    (fresh_binding c.host.inside _ c.host.view_is c.requires) c.in-Ok.ensures.places

pub returns-then-is_err : goal.returns-then-is_err
returns-then-is_err c =
    bind_unsent c.host.inside c.args.host.now c.args.endpoint c.args.space c.in-Ok.pasid (Start c.in-Ok.pasid) c.begin.new.self c.take_back.new.self
    c.send.new.bag c.send.result
    c.host.view_is c.in_ok-may_bind.ensures (fresh_binding c.host.inside _ c.host.view_is c.requires) c.in-Ok.ensures.places c.take_back.ensures
    c.send.ensures.sends (sym c.is_err.ensures.value ∙ c.if-is_err.true)

pub invariant_of-host-then-is_err : goal.invariant_of-host-then-is_err
invariant_of-host-then-is_err c = record {
  few = c.host.invariant.few;
  sound = c.host.invariant.sound;
  staged = back_staged c.host.inside.bindings c.begin.new.self c.take_back.new.self c.args.endpoint c.args.space c.host.inside.next_binding
      c.in-Ok.pasid c.in-Ok.ensures.places c.take_back.ensures c.host.invariant.staged;
}

pub returns : goal.returns
returns c =
    bind_done c.host.inside c.args.host.now c.args.endpoint c.args.space c.in-Ok.pasid c.begin.new.self c.send.new.bag c.send.result c.host.view_is
    c.in_ok-may_bind.ensures
    c.in-Ok.ensures.pasid c.in-Ok.ensures.places c.send.ensures.sends (sym c.is_err.ensures.value ∙ c.if-is_err.false)
