use Rattle.sva_grammar.specs.Grammar.{scenario_of}
use Rattle.sva_streams.specs.declared.streams.DriveFault.TheVariants.{Memory}
use Rattle.sva_reports.proofs.HandedLemmas.{handed_lacking}
use Rattle.sva_reports.proofs.scenarios.scenario_or_fault.Goals as goal

pub returns-in-Err-Memory-clause-handed : goal.returns-in-Err-Memory-clause-handed
returns-in-Err-Memory-clause-handed g c =
    handed_lacking (scenario_of c.args.text.now) _ Memory (λ wrong. absurd (cc wrong))
