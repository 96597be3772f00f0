use Rattle.std.proofs.Common.{◌≡◌, ◌∙◌, ◌≤◌, ◌+◌, ap, arith, refl, sym}
use Rattle.std.specs.Prelude.{if◌then◌else◌}
use Rattle.sva_labels.specs.Finding.{submits}
use Rattle.sva_model.specs.Words.{count_below}
use Rattle.sva_explain.proofs.CountBelow.{count_next, one_at_most}
use Rattle.sva_explain.proofs.enabled.unmapping.submitting.Goals as goal

pub loop-endpoint-init : goal.loop-endpoint-init
unfolding count_below
loop-endpoint-init c = (refl, omega arith)

pub loop-endpoint-preserved : goal.loop-endpoint-preserved
loop-endpoint-preserved c =
    let submitted = submits c.args.snapshot.now c.args.space in
    let one = c.one_if-found.ensures ∙ ap (λ b. if b then 1 else 0) c.submits.ensures in
    let few : c.one_if-found.result ≤ 1 = one_at_most c.submits.result c.one_if-found.result c.one_if-found.ensures in (
      ap (λ n. n + c.one_if-found.result) c.loop-endpoint.invariant.0
          ∙ ap (λ n. count_below c.loop-endpoint.endpoint submitted + n) one
          ∙ sym (count_next c.loop-endpoint.endpoint submitted),
      omega (arith, few, c.loop-endpoint.invariant.1),
    )

pub returns : goal.returns
returns c =
    let end : c.loop-endpoint.endpoint ≡ c.args.count = omega (arith, c.loop-endpoint-test.false, c.loop-endpoint.auto.endpoint-end) in
    c.loop-endpoint.invariant.0 ∙ ap (λ n. count_below n (submits c.args.snapshot.now c.args.space)) end
