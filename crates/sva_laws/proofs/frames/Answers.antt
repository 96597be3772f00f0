use Rattle.std.proofs.Common.{◌∙◌, ap}
use Rattle.sva_model.specs.Steps.{world_after}
use Rattle.sva_laws.proofs.Claimed.{always_agrees}
use Rattle.sva_laws.proofs.Limits.{adds_up}
use Rattle.sva_laws.proofs.Withheld.{config_kept}
use Rattle.sva_laws.proofs.Freed.{free_by}
use Rattle.sva_laws.proofs.Told.{told, told_of_range, given}
use Rattle.sva_laws.proofs.frames.Goals as goal

pub returns-clause-divided : goal.returns-clause-divided
returns-clause-divided c = λ rule config steps fits. (always_agrees rule config steps fits).divided

pub returns-clause-adds_up : goal.returns-clause-adds_up
returns-clause-adds_up c = λ rule config steps fits. adds_up (world_after rule config steps) ∙ ap (λ k. k.frames) (config_kept rule config steps)

pub returns-clause-withheld : goal.returns-clause-withheld
returns-clause-withheld c = λ rule config steps f fits. (always_agrees rule config steps fits).divided.withheld f

pub returns-clause-freed : goal.returns-clause-freed
returns-clause-freed c = λ rule config steps step f fits was not_now. free_by rule config steps step f was not_now

pub returns-clause-told : goal.returns-clause-told
returns-clause-told c = λ rule config steps of_space page count answer fits accepted. told rule config steps of_space page count answer accepted

pub returns-clause-given : goal.returns-clause-given
returns-clause-given c = λ rule config steps of_space page write answer fits accepted. given rule config steps of_space page write answer accepted

pub returns-clause-told_of_range : goal.returns-clause-told_of_range
returns-clause-told_of_range c =
    λ rule config steps of_space page order answer fits accepted. told_of_range rule config steps of_space page order answer accepted
