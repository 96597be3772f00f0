use Rattle.std.proofs.Common.{◌<◌, ◌≤◌, ◌∙◌, ap, length, map, rules, sym}
use Rattle.sva_driver_words.specs.Awaits.{line_seen}
use Rattle.sva_driver_words.specs.declared.kept.LineRead.{LineRead}
use Rattle.sva_driver_texts.specs.Ways.{with_thread}
use Rattle.sva_driver_texts.proofs.WayLemmas.{own, thread_next, threads_end}
use Rattle.sva_driver_texts.proofs.ways.threads_of.Goals as goal

pub loop-line-preserved : goal.loop-line-preserved
loop-line-preserved c =
    let inside : c.loop-line.line-index < length c.args.lines.now = search rules in
    sym
    (thread_next c.args.lines.now c.loop-line.line-index _ (map own c.loop-line.threads.items) (map own c.add_thread.new.threads.items) inside
    (c.in_ok-add_thread.ensures ∙ ap (with_thread (map own c.loop-line.threads.items)) c.as_slice.ensures.value
    ∙ ap (λ (line : LineRead). with_thread (map own c.loop-line.threads.items) (line_seen line).thread) c.line-item.is))
    ∙ c.loop-line.invariant

pub returns : goal.returns
returns c =
    let past : length c.args.lines.now ≤ c.loop-line.line-index = search rules in
    sym (threads_end c.args.lines.now c.loop-line.line-index (map own c.loop-line.threads.items) past) ∙ c.loop-line.invariant
