use Rattle.std.proofs.Common.{◌<◌, ◌≤◌, ◌∙◌, ap, length, rules, sym}
use Rattle.sva_driver_words.specs.Awaits.{line_seen}
use Rattle.sva_driver_words.specs.declared.kept.LineRead.{LineRead}
use Rattle.sva_driver_texts.specs.Pasids.{higher, pasid_at}
use Rattle.sva_driver_texts.proofs.Lists.{highest_end, highest_next}
use Rattle.sva_driver_texts.proofs.pasids.highest_pasid.Goals as goal

pub loop-line-preserved : goal.loop-line-preserved
loop-line-preserved c =
    let inside : c.loop-line.line-index < length c.args.lines.now = search rules in
    sym
    (highest_next c.args.lines.now c.loop-line.line-index _ c.loop-line.highest c.higher-highest.result inside
    (c.higher-highest.ensures
    ∙ ap (higher c.loop-line.highest)
    (c.pasid_at.ensures ∙ ap (λ (line : LineRead). pasid_at (line_seen line).saying) c.line-item.is)))
    ∙ c.loop-line.invariant

pub returns : goal.returns
returns c =
    let past : length c.args.lines.now ≤ c.loop-line.line-index = search rules in
    sym (highest_end c.args.lines.now c.loop-line.line-index c.loop-line.highest past) ∙ c.loop-line.invariant
