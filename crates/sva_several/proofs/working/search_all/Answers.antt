use Rattle.std.proofs.lemmas.Result.{IfOk-weaker}
use Rattle.sva_several.proofs.Limits.{all_alone}
use Rattle.sva_several.proofs.working.search_all.Goals as goal

pub returns-clause-alone : goal.returns-clause-alone
returns-clause-alone g c =
    IfOk-weaker c.end_all.result _ _ (λ all found. all_alone c.args.search c.at_once-jobs.result c.args.texts.now all.items found) c.end_all.ensures
