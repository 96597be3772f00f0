use Rattle.std.proofs.Common.{codes, decimal}
use Rattle.std.proofs.lemmas.Result.{on_ok_weaker}
use Rattle.sva_step.proofs.TextLemmas.{three_pieces}
use Rattle.sva_step.proofs.answers.put_job.Goals as goal

pub returns-clause-ok : goal.returns-clause-ok
returns-clause-ok c =
    rw (← c.from.ensures, ← c.from-2.ensures)
    (on_ok_weaker _
    (three_pieces _ _ _ _ (codes "job binding ") (decimal c.args.binding) (codes " group ") (decimal c.from.result)
    (codes " pages ") (decimal c.from-2.result) c.in_ok-put_number.ensures.ok c.in_ok-put_number-2.ensures.ok)
    c.put_number-3.ensures.ok)
