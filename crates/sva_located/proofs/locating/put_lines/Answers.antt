use Rattle.std.proofs.Common.{◌≡◌, ◌∙◌, ◌+◌, ◌++◌, Ok, Err, Result, List, ℕ, OnOk}
use Rattle.std.specs.declared.alloc.AllocError.{AllocError}
use Rattle.sva_script_reading.proofs.BeginLemmas.{no_lines}
use Rattle.sva_script_reading.specs.Begins.{lines_from}
use Rattle.sva_located.proofs.LineLemmas.{told_end, told_next}
use Rattle.sva_located.proofs.locating.put_lines.Goals as goal

pub loop-number-preserved : goal.loop-number-preserved
loop-number-preserved c =
    told_next c.args.name.now c.args.text.now _ c.loop-number.count (lines_from (c.next.new.self.number + 1) c.next.new.self.rest.now)
    (c.in-Some._number, c.in-Some.line.now) c.in_ok-count.count c.loop-number.out.items c.put_line.new.out.items _ c.in-Some.ensures.line
    c.in_ok-count.ensures.0 c.in_ok-count.ensures.1 c.loop-number.invariant

-- the last line was written, if it was
all_written : {A : Type 0} (result : Result A AllocError) (new out more whole : List ℕ) → OnOk result (new ≡ out ++ more) → out ++ more ≡ whole
    → OnOk result (new ≡ whole)
all_written (Ok it) new out more whole puts so_far = puts ∙ so_far
all_written (Err fault) new out more whole puts so_far = puts

pub returns : goal.returns
returns c =
    all_written c.put_more.result c.put_more.new.out.items c.loop-number.out.items _ _ c.put_more.ensures
    (told_end c.args.name.now c.args.text.now _ c.loop-number.count c.loop-number.out.items _
    (no_lines (c.loop-number.lines.number + 1) c.loop-number.lines.rest.now c.in_default.ensures.none) c.loop-number.invariant)
