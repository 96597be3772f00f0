use Rattle.std.proofs.Common.{◌∙◌, ◌++◌, ap, sym}
use Rattle.sva_script.proofs.WordLemmas.{on_ok_by}
use Rattle.sva_driver_words.proofs.FaultLemmas.{own_text}
use Rattle.sva_race_texts.proofs.Lists.{said}
use Rattle.sva_driver_words.proofs.faults.put_fault.Goals as goal

pub returns-in_default : goal.returns-in_default
returns-in_default c =
    on_ok_by c.put_own.result
    (λ put. put ∙ ap (λ l. c.args.out.now.items ++ l) (sym (own_text c.args.names.now c.args.line (said c.args.words.now) c.args.wrong.now.at
    c.args.wrong.now.wanted c.in_default.not-Race)))
    c.put_own.ensures
