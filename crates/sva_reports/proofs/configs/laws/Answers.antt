use Rattle.sva_reports.proofs.ScriptLemmas.{configs_are_tested}
use Rattle.sva_reports.proofs.configs.laws.Goals as goal

pub returns : goal.returns
returns c = record { configs = configs_are_tested }
