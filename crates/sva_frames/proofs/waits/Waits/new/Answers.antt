use Rattle.std.proofs.Common.{refl}
use Rattle.sva_frames.proofs.waits.Waits.new.Goals as goal

pub returns : goal.returns
returns c = refl
