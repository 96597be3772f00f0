use Rattle.std.proofs.Common.{ap, sym}
use Rattle.sva_grammar.specs.Faults.{cause_name}
use Rattle.sva_grammar.proofs.faults.Cause.name.Goals as goal

pub returns-in-NoConfig : goal.returns-in-NoConfig
returns-in-NoConfig c = ap cause_name (sym c.in-NoConfig.is)

pub returns-in-UnknownStep : goal.returns-in-UnknownStep
returns-in-UnknownStep c = ap cause_name (sym c.in-UnknownStep.is)

pub returns-in-WordCount : goal.returns-in-WordCount
returns-in-WordCount c = ap cause_name (sym c.in-WordCount.is)

pub returns-in-BadWord : goal.returns-in-BadWord
returns-in-BadWord c = ap cause_name (sym c.in-BadWord.is)

pub returns-in-TooLarge : goal.returns-in-TooLarge
returns-in-TooLarge c = ap cause_name (sym c.in-TooLarge.is)
