use Rattle.std.proofs.Common.{◌≡◌, ◌∙◌, ◌<◌, ◌≤◌, ap, length, rules, sym}
use Rattle.sva_driver_texts.specs.Bodies.{lines_seen}
use Rattle.sva_driver_texts.specs.WrittenOut.{put_times}
use Rattle.sva_driver_texts.proofs.BodyLemmas.{empty_is, full_times, none_times, times_end, times_next}
use Rattle.sva_driver_texts.proofs.writing.Writing.put_times.Goals as goal

pub returns-then-self : goal.returns-then-self
returns-then-self c = full_times c.args.times c.args.self.now c.args.number c.args.word.now (lines_seen c.args.lines.now) (search rules)

pub returns-then-is_empty : goal.returns-then-is_empty
returns-then-is_empty c =
    let none : length c.args.lines.now ≡ 0 = search rules in
    none_times c.args.times c.args.self.now c.args.number c.args.word.now
    ∙ ap (λ lines. put_times c.args.times c.args.self.now c.args.number c.args.word.now (lines_seen lines)) (sym (empty_is c.args.lines.now none))

pub loop-time-preserved : goal.loop-time-preserved
loop-time-preserved c =
    let inside : c.loop-time._time < c.args.times = search rules in
    sym (times_next c.args.times c.loop-time._time c.loop-time.self c.put_once.new.self c.args.number c.args.word.now (lines_seen c.args.lines.now)
    inside c.in_ok-put_once.ensures)
    ∙ c.loop-time.invariant

pub returns : goal.returns
returns c =
    let past : c.args.times ≤ c.loop-time._time = search rules in
    sym (times_end c.args.times c.loop-time._time c.loop-time.self c.args.number c.args.word.now (lines_seen c.args.lines.now) past)
    ∙ c.loop-time.invariant
