use Rattle.std.proofs.Common.{◌≡◌, ◌∙◌, ◌++◌, ap, rules}
use Rattle.sva_driver_reports.specs.Witness.{befores}
use Rattle.sva_driver_reports.proofs.Rests.{next_before, none_before}
use Rattle.sva_driver_reports.proofs.fronts.put_befores.Goals as goal

pub loop-place-init : goal.loop-place-init
loop-place-init c = none_before c.args.text.now c.args.out.now.items c.in_ok-spot.spot c.in_ok-spot.ensures

pub loop-place-preserved : goal.loop-place-preserved
loop-place-preserved c =
    next_before c.args.text.now c.loop-place.place c.args.out.now.items c.loop-place.out.items c.put_before.new.out.items c.loop-place.spot
    c.put_before.new.spot c.loop-place.invariant c.in_ok-put_before.ensures.text c.in_ok-put_before.ensures.spot

pub returns : goal.returns
returns c =
    let done : c.loop-place.place ≡ c.args.text.now.before = search rules in
    c.loop-place.invariant.told ∙ ap (λ count. c.args.out.now.items ++ befores c.args.text.now count) done
