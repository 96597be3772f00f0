use Rattle.std.proofs.Common.{◌++◌, ◌∙◌, ap, sym}
use Rattle.sva_race_texts.specs.declared.kept.Asked.{Asked}
use Rattle.sva_race_reports.specs.Judging.{witness_of}
use Rattle.sva_race_reports.specs.Reports.{with_witness, witness_if}
use Rattle.sva_race_reports.proofs.Rulings.{few_witnesses, witness_next, witnesses_end}
use Rattle.sva_race_reports.proofs.claims.put_witnesses.Goals as goal

pub loop-place-preserved : goal.loop-place-preserved
loop-place-preserved g c =
    let race = c.args.race.now in
    let threads = c.args.threads.now in
    let before = c.loop-place.before in
    let found = c.witness_of-witness.ensures
    ∙ ap (λ (asked : Asked). witness_of c.args.found.now asked.is_of_ends c.loop-place.place) (sym c.index-asked-place.is) in
    let counts = c.with_witness-before.ensures ∙ ap (with_witness before) found in record {
      said = witness_next g.E.Explains.explained race threads c.args.whys c.args.found.now c.args.asked.now c.loop-place.place before
          c.with_witness-before.result
          c.index-asked-place.result c.loop-place.out.items c.put_witness_if.new.out.items _ c.loop-place-test.true (sym c.index-asked-place.is) counts
          c.loop-place.invariant.said
          (c.in_ok-put_witness_if.ensures ∙ ap (λ o. c.loop-place.out.items ++ witness_if g.E.Explains.explained race threads c.args.whys before o) found);
      few = few_witnesses before c.with_witness-before.result c.loop-place.place _ counts c.loop-place.invariant.few;
    }

pub returns : goal.returns
returns g c =
    witnesses_end g.E.Explains.explained c.args.race.now c.args.threads.now c.args.whys c.args.found.now c.args.asked.now c.loop-place.place c.loop-place.before
    c.loop-place.out.items _
    c.loop-place-test.false c.loop-place.invariant.said
