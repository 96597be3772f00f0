use Rattle.std.proofs.Common.{◌∙◌, arith, length, sym}
use Rattle.sva_race_parts.proofs.Naming.{below_both, past_either}
use Rattle.sva_race_reports.specs.Judging.{judged_at}
use Rattle.sva_race_reports.proofs.Tallies.{few_next, tally_end, tally_next}
use Rattle.sva_race_reports.proofs.briefs.tally_of.Goals as goal

pub loop-place-preserved : goal.loop-place-preserved
loop-place-preserved c =
    let asked = c.args.asked.now in
    let claims = c.args.claims.now in
    let place = c.loop-place.place in
    let below = below_both (length asked) (length claims) place c.min-place-end.result c.min-place-end.ensures
    (omega (arith, c.loop-place-test.true)) in record {
      counted = tally_next c.args.found.now asked claims place c.index-asked-place.result c.index-claims-place.result
          c.loop-place.tally c.counted-tally.result _
          c.judged_at-judged.result below.0 below.1 (sym c.index-asked-place.is) (sym c.index-claims-place.is)
          (c.judged_at-judged.ensures ∙ (λ i. judged_at c.args.found.now (sym c.index-asked-place.is i).is_of_ends
          place (sym c.index-claims-place.is i).claiming))
          c.counted-tally.ensures c.loop-place.invariant.counted;
      few = few_next c.loop-place.tally c.counted-tally.result c.judged_at-judged.result place c.counted-tally.ensures c.loop-place.invariant.few;
    }

pub returns : goal.returns
returns c =
    let asked = c.args.asked.now in
    let claims = c.args.claims.now in
    let past = past_either (length asked) (length claims) c.loop-place.place c.min-place-end.result c.min-place-end.ensures c.loop-place-test.false in
    sym (tally_end c.args.found.now asked claims c.loop-place.place c.loop-place.tally past) ∙ c.loop-place.invariant.counted
