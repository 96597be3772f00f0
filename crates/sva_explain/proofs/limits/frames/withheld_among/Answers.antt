use Rattle.std.proofs.Common.{◌∙◌, ap}
use Rattle.std.specs.List.{find}
use Rattle.sva_lines.specs.Words.{is_withheld}
use Rattle.sva_explain.proofs.Frames.{all_seen}
use Rattle.sva_explain.proofs.limits.frames.withheld_among.Goals as goal

pub returns : goal.returns
returns c = c.first_withheld.ensures ∙ ap (λ places. find is_withheld places) (all_seen c.args.frames.now)
