use Rattle.std.proofs.Common.{◌≡◌, ◌<◌, ◌≤◌, length, take, arith, length-set}
use Rattle.std.proofs.lemmas.List.{length-take-le}
use Rattle.sva_step.proofs.FrameTableLemmas.{drop-push}
use Rattle.sva_step.proofs.frame_list.FrameList.push.Goals as goal

pub invariant_of-self : goal.invariant_of-self
invariant_of-self c =
    let t = c.self.inside in
    let short : t.len ≤ length t.frames = grind arith in
    let room : length (take t.len t.frames) < 48 = rw c.self.view_is c.requires in
    let count : length (take t.len t.frames) ≡ t.len = length-take-le t.len t.frames short in (
      omega arith,
      rw length-set c.self.invariant.1,
      drop-push t.frames t.len c.args.frame c.self.invariant.2,
    )
