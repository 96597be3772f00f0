use Rattle.std.proofs.Common.{◌+◌, List, map, ℕ}
use denote.Ref.{Bor}
use Rattle.sva_script_reading.specs.Begins.{lines_from}
use Rattle.sva_script_reading.proofs.BeginLemmas.{completed, completes_line, no_lines}
use Rattle.sva_script_reading.proofs.reading.read_lines.Goals as goal

pub loop-number-preserved : goal.loop-number-preserved
loop-number-preserved c =
    completes_line c.loop-number.names c.read_line_words.new.names c.args.names.now c.loop-number.has_ended c.in_ok-has_ended.has_ended _
    (lines_from (c.next.new.self.number + 1) c.next.new.self.rest.now) _ (c.in-Some.number, c.in-Some.line.now)
    (map {A = Bor (List ℕ)} {B = List ℕ} (λ word. word.now) c.split.new.words.items) c.loop-number.faults.items c.read_line_words.new.faults.items
    c.args.faults.now.items c.loop-number.invariant c.in-Some.ensures.line c.in_ok-split.ensures c.in_ok-has_ended.ensures

pub returns : goal.returns
returns c =
    completed c.loop-number.names c.args.names.now c.loop-number.has_ended _ _ c.loop-number.faults.items c.args.faults.now.items c.loop-number.invariant
    (no_lines (c.loop-number.lines.number + 1) c.loop-number.lines.rest.now c.in_default.ensures.none)
