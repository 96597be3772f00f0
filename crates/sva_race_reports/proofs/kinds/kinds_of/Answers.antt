use Rattle.std.proofs.Common.{◌∙◌, ◌≤◌, ◌+◌, ap, subst, sym}
use Rattle.sva_search.specs.declared.ends.End.{End}
use Rattle.sva_race.specs.Moments.{Moment}
use Rattle.sva_race_texts.specs.declared.terms.choices.Choice.{Choice}
use Rattle.sva_race_reports.specs.Ends.{end_text}
use Rattle.sva_race_reports.specs.Kinds.{Kinds, times, with_text}
use Rattle.sva_race_reports.proofs.Counting.{few_came}
use Rattle.sva_race_reports.proofs.Rows.{fold_next}
use Rattle.sva_race_reports.proofs.kinds.kinds_of.Goals as goal

pub loop-place-preserved : goal.loop-place-preserved
loop-place-preserved c =
    let race = c.args.race.now in
    let threads = c.args.threads.now in
    let kinds = c.loop-place.kinds in
    let added = c.in_ok-add.ensures in
    let does = added ∙ ap (with_text kinds) (c.in_ok-text.ensures
    ∙ ap (λ (end : End Choice Moment). end_text race threads end.outcome) (sym c.index-ends-place.is)) in record {
      said = fold_next (λ kinds (end : End Choice Moment). with_text kinds (end_text race threads end.outcome)) c.args.ends.now
          c.loop-place.place c.index-ends-place.result kinds c.add.new.self _ c.loop-place-test.true (sym c.index-ends-place.is) does
          c.loop-place.invariant.said;
      few = λ other. subst (λ (new : Kinds). times other new ≤ c.loop-place.place + 1) (sym added)
          (few_came kinds c.in_ok-text.text.items c.loop-place.place c.loop-place.invariant.few other);
    }
