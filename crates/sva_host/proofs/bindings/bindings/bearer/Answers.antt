use Rattle.std.proofs.Common.{◌<◌, ◌≤◌, arith}
use Rattle.std.specs.Prelude.{Some, None}
use Rattle.sva_host_state.proofs.Bearing.{borne, few_borne}
use Rattle.sva_host.proofs.bindings.bindings.bearer.Goals as goal

pub returns-in-None-clause-step : goal.returns-in-None-clause-step
returns-in-None-clause-step c =
    let low : 0 < c.args.pasid = omega (arith, c.if-pasid-eq0.false) in
    let high : c.args.pasid ≤ 32 = omega (arith, c.from.ensures, c.if-pasid-from.false) in
    borne c.host.inside _ c.args.pasid None c.host.view_is low high c.in-None.ensures

pub returns-in-Some-clause-step : goal.returns-in-Some-clause-step
returns-in-Some-clause-step c =
    let low : 0 < c.args.pasid = omega (arith, c.if-pasid-eq0.false) in
    let high : c.args.pasid ≤ 32 = omega (arith, c.from.ensures, c.if-pasid-from.false) in
    borne c.host.inside _ c.args.pasid (Some c.in-Some.bearer) c.host.view_is low high c.in-Some.ensures

pub overflow_cast-result : goal.overflow_cast-result
overflow_cast-result c = omega (arith, few_borne c.host.inside _ c.args.pasid c.in-Some.bearer c.host.view_is c.requires c.in-Some.ensures)
