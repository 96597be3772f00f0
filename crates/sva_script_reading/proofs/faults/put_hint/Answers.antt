use Rattle.std.proofs.Common.{◌∙◌, ◌++◌, ap, append-nil, sym}
use Rattle.sva_script_reading.specs.Faults.{near_text, near_wanted}
use Rattle.sva_script_reading.proofs.FaultLemmas.{number_none}
use Rattle.sva_script_reading.proofs.faults.put_hint.Goals as goal

pub returns-in_default : goal.returns-in_default
returns-in_default c =
    let near = near_text (near_wanted c.args.names.now c.args.word.now c.args.wanted.now) in
    c.in_ok-put_near.ensures ∙ ap (λ found. c.args.out.now.items ++ near_text found) c.near.ensures
    ∙ ap (λ l. c.args.out.now.items ++ l)
    (sym (append-nil near) ∙ ap (λ l. near ++ l) (sym (number_none c.args.names.now c.args.word.now c.args.wanted.now c.in_default.not-Number)))
