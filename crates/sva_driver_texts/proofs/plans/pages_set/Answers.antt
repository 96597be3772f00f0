use Rattle.std.proofs.Common.{◌<◌, ◌≤◌, ◌∙◌, ap, length, rules, sym}
use Rattle.sva_driver_words.specs.Awaits.{line_seen}
use Rattle.sva_driver_words.specs.declared.kept.LineRead.{LineRead}
use Rattle.sva_driver_texts.specs.Plans.{page_set, with_number}
use Rattle.sva_driver_texts.proofs.Lists.{page_next, pages_end}
use Rattle.sva_driver_texts.proofs.plans.pages_set.Goals as goal

pub loop-line-preserved : goal.loop-line-preserved
loop-line-preserved c =
    let inside : c.loop-line.line-index < length c.args.lines.now = search rules in
    sym
    (page_next c.args.lines.now c.loop-line.line-index _ c.loop-line.pages.items c.add.new.list.items inside
    (c.in_ok-add.ensures
    ∙ ap (with_number c.loop-line.pages.items) (c.page_set.ensures ∙ ap (λ (line : LineRead). page_set (line_seen line).saying) c.line-item.is)))
    ∙ c.loop-line.invariant

pub returns : goal.returns
returns c =
    let past : length c.args.lines.now ≤ c.loop-line.line-index = search rules in
    sym (pages_end c.args.lines.now c.loop-line.line-index c.loop-line.pages.items past) ∙ c.loop-line.invariant
