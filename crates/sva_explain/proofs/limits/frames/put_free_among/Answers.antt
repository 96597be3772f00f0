use Rattle.std.proofs.Common.{◌≡◌, ◌++◌, subst}
use Rattle.std.specs.Prelude.{OnOk}
use Rattle.sva_explain.specs.Frames.{free_line}
use Rattle.sva_explain.proofs.Frames.{all_seen}
use Rattle.sva_explain.proofs.limits.frames.put_free_among.Goals as goal

pub returns : goal.returns
returns c =
    subst (λ places. OnOk c.put_free_line.result (c.put_free_line.new.out.items ≡ c.args.out.now.items ++ free_line places))
    (all_seen c.args.frames.now) c.put_free_line.ensures
