use Rattle.std.proofs.Common.{◌≡◌, ◌++◌, take}
use Rattle.sva_step.specs.Texts.{frames_text}
use Rattle.sva_step.proofs.answers.put_frames.Given as goal

abbrev pub invariant-loop-frame : goal.invariant-loop-frame
invariant-loop-frame l =
    l.out.items ≡ l.fn.out.items ++ (l.words ++ frames_text (take l.frame-index l.frame-items))
