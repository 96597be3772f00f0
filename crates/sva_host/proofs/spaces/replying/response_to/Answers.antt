use Rattle.std.proofs.Common.{◌<◌, ℕ, refl, sym, ap, subst, ◌∙◌, arith}
use Rattle.std.specs.Prelude.{Option, length}
use Rattle.sva_pasid.specs.Places.{place_of}
use Rattle.sva_labels.specs.Finding.{unit_of}
use Rattle.sva_host_state.specs.Bindings.{binding_seen}
use Rattle.sva_host_state.specs.JobTable.{job_seen}
use Rattle.sva_host_state.specs.declared.replying.Response.{Response}
use Rattle.sva_host_state.specs.Replying.{RespondsBy}
use Rattle.sva_host_state.proofs.Bound.{binding_at}
use Rattle.sva_host_state.proofs.TakenOut.{parts_seen, unit_there}
use Rattle.sva_host_state.proofs.Responses.{response_there, response_closed, no_response}
use Rattle.sva_host.proofs.spaces.replying.response_to.Goals as goal

pub returns-in_err-place : goal.returns-in_err-place
returns-in_err-place c =
    subst (λ (o : Option Response). RespondsBy c.args.host.now (job_seen c.args.job.now) c.args.verdict o) (sym c.from_residual.ensures)
    (no_response c.args.host.now (job_seen c.args.job.now) c.args.verdict
    (binding_at c.host.inside c.args.host.now c.args.job.now.binding _ c.host.view_is
    (c.in_err-place.ensures ∙ ap (λ (n : ℕ). place_of n c.host.inside.bindings) c.binding.ensures)))

pub returns-then-not-is_open : goal.returns-then-not-is_open
returns-then-not-is_open c =
    let long = parts_seen c.host.inside c.args.host.now c.host.view_is in
    let within : c.unit.result < length c.host.inside.ports.items = omega (arith, long, c.unit.ensures, c.requires) in
    let unit = unit_there c.host.inside c.args.host.now c.unit.result c.index.result.now c.host.view_is within
    c.index.ensures in
    response_closed c.args.host.now (job_seen c.args.job.now) c.args.verdict
    (ap (λ (e : ℕ). (unit_of c.args.host.now e).is_open) (sym c.unit.ensures) ∙ sym (c.is_open.ensures ∙ ap (λ u. u.is_open) unit) ∙ c.if-not-is_open.true)

pub returns-in_err-code : goal.returns-in_err-code
returns-in_err-code c =
    let long = parts_seen c.host.inside c.args.host.now c.host.view_is in
    let within : c.unit.result < length c.host.inside.ports.items = omega (arith, long, c.unit.ensures, c.requires) in
    let unit = unit_there c.host.inside c.args.host.now c.unit.result c.index.result.now c.host.view_is within
    c.index.ensures in
    let is_open = ap (λ (e : ℕ). (unit_of c.args.host.now e).is_open) (sym c.unit.ensures) ∙ sym (c.is_open.ensures ∙ ap (λ u. u.is_open) unit)
    ∙ c.if-not-is_open.false in
    let found =
    binding_at c.host.inside c.args.host.now c.args.job.now.binding _ c.host.view_is
    (c.in_ok-place.ensures ∙ ap (λ (n : ℕ). place_of n c.host.inside.bindings) c.binding.ensures) in
    subst (λ (o : Option Response). RespondsBy c.args.host.now (job_seen c.args.job.now) c.args.verdict o) (sym c.from_residual-in_err-code.ensures)
    (response_there c.args.host.now (job_seen c.args.job.now) c.in_ok-place.place.now c.args.verdict found is_open ∙ sym c.in_err-code.ensures)

pub returns : goal.returns
returns c =
    let long = parts_seen c.host.inside c.args.host.now c.host.view_is in
    let within : c.unit.result < length c.host.inside.ports.items = omega (arith, long, c.unit.ensures, c.requires) in
    let unit = unit_there c.host.inside c.args.host.now c.unit.result c.index.result.now c.host.view_is within
    c.index.ensures in
    let is_open = ap (λ (e : ℕ). (unit_of c.args.host.now e).is_open) (sym c.unit.ensures) ∙ sym (c.is_open.ensures ∙ ap (λ u. u.is_open) unit)
    ∙ c.if-not-is_open.false in
    let found =
    binding_at c.host.inside c.args.host.now c.args.job.now.binding _ c.host.view_is
    (c.in_ok-place.ensures ∙ ap (λ (n : ℕ). place_of n c.host.inside.bindings) c.binding.ensures) in
    record {
      binding = binding_seen c.in_ok-place.place.now;
      found = found;
      space = refl;
      pasid = refl;
      code = response_there c.args.host.now (job_seen c.args.job.now) c.in_ok-place.place.now c.args.verdict found is_open ∙ sym c.in_ok-code.ensures;
    }
