use Rattle.std.proofs.Common.{◌<◌, ◌≤◌, ◌∙◌, ap, length, rules, sym}
use Rattle.sva_driver_words.specs.Awaits.{line_seen}
use Rattle.sva_driver_words.specs.declared.kept.LineRead.{LineRead}
use Rattle.sva_driver_texts.specs.Plans.{started_at, with_number}
use Rattle.sva_driver_texts.proofs.Lists.{pasid_next, pasids_end}
use Rattle.sva_driver_texts.proofs.plans.pasids_started.Goals as goal

pub loop-line-preserved : goal.loop-line-preserved
loop-line-preserved c =
    let inside : c.loop-line.line-index < length c.args.lines.now = search rules in
    sym
    (pasid_next c.args.endpoint c.args.lines.now c.loop-line.line-index _ c.loop-line.pasids.items c.add.new.list.items inside
    (c.in_ok-add.ensures
    ∙ ap (with_number c.loop-line.pasids.items)
    (c.started_at.ensures ∙ ap (λ (line : LineRead). started_at c.args.endpoint (line_seen line).saying) c.line-item.is)))
    ∙ c.loop-line.invariant

pub returns : goal.returns
returns c =
    let past : length c.args.lines.now ≤ c.loop-line.line-index = search rules in
    sym (pasids_end c.args.endpoint c.args.lines.now c.loop-line.line-index c.loop-line.pasids.items past) ∙ c.loop-line.invariant
