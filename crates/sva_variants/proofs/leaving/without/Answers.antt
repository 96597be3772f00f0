use Rattle.std.proofs.Common.{◌+◌}
use Rattle.sva_script_reading.proofs.BeginLemmas.{no_lines}
use Rattle.sva_script_reading.specs.Begins.{lines_from}
use Rattle.sva_variants.specs.Cuts.{cut_seen, kept_of}
use Rattle.sva_variants.proofs.CutLemmas.{kept_end, kept_next}
use Rattle.sva_variants.proofs.leaving.without.Goals as goal

pub loop-number-preserved : goal.loop-number-preserved
loop-number-preserved c =
    kept_next _ (lines_from (c.next.new.self.number + 1) c.next.new.self.rest.now) (c.in-Some.number, c.in-Some.line.now) c.in-Some.ensures.line
    (kept_of (cut_seen c.args.cut.now)) c.loop-number.out.items _ _ c.in_ok-put_kept.ensures c.loop-number.invariant

pub returns : goal.returns
returns c =
    kept_end (kept_of (cut_seen c.args.cut.now)) _ c.loop-number.out.items _
    (no_lines (c.loop-number.lines.number + 1) c.loop-number.lines.rest.now c.in_default.ensures.none) c.loop-number.invariant
