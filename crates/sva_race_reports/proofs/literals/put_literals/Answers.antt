use Rattle.std.proofs.Common.{sym}
use Rattle.sva_race_reports.proofs.NeverTrue.{literal_next, literals_begin, literals_end}
use Rattle.sva_race_reports.proofs.literals.put_literals.Goals as goal

pub loop-place-init : goal.loop-place-init
loop-place-init c = literals_begin c.args.found.now c.args.literals.now c.args.first c.args.out.now.items

pub loop-place-preserved : goal.loop-place-preserved
loop-place-preserved c =
    literal_next c.args.found.now c.args.literals.now c.args.first c.loop-place.place c.index-literals-place.result
    c.loop-place.out.items c.put_literal.new.out.items _ c.loop-place-test.true (sym c.index-literals-place.is)
    c.loop-place.invariant c.in_ok-put_literal.ensures

pub returns : goal.returns
returns c =
    literals_end c.args.found.now c.args.literals.now c.args.first c.loop-place.place c.loop-place.out.items _
    c.loop-place-test.false c.loop-place.invariant
