use Rattle.std.proofs.Common.{◌≡◌, ◌++◌, subst}
use Rattle.std.specs.Prelude.{OnOk}
use Rattle.sva_explain.specs.Ranges.{frame_if}
use Rattle.sva_lines.specs.Pieces.{rows}
use Rattle.sva_explain.proofs.Frames.{all_seen}
use Rattle.sva_explain.proofs.limits.ranges.put_frames.Goals as goal

pub returns : goal.returns
returns c =
    subst
    (λ places. OnOk c.put_frames_among.result (c.put_frames_among.new.out.items
    ≡ c.args.out.now.items ++ rows (frame_if c.args.snapshot.now c.args.space) 0 places))
    (all_seen c.args.frames.now) c.put_frames_among.ensures
