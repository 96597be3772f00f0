use Rattle.std.proofs.Common.{◌∙◌, List, ap, map, subst, ℕ, Err}
use denote.Ref.{Bor}
use Rattle.sva_script.specs.Lines.{parts_of}
use Rattle.sva_script_runs.specs.Runs.{Takes, came_of}
use Rattle.sva_script_reports.proofs.StepLemmas.{plain_failed}
use Rattle.sva_script_reports.proofs.plain_lines.plain_line.Goals as goal

pub returns-in_ok-put_wrong-in-Err-Wrong : goal.returns-in_ok-put_wrong-in-Err-Wrong
returns-in_ok-put_wrong-in-Err-Wrong c =
    let given = map {A = Bor (List ℕ)} {B = List ℕ} (λ word. word.now) c.as_slice-words.result.now in
    plain_failed c.args.run.now c.take.new.self c.args.number _ given c.take.new.plain.items c.take.new.expected.items c.args.out.now.items
    c.clear.new.self.items c.put_wrong.new.out.items c.names.result.now c.in-Err-Wrong.wrong
    (ap (λ ws. map {A = Bor (List ℕ)} {B = List ℕ} (λ word. word.now) ws) c.as_slice-words.ensures.value)
    (subst (λ r. Takes c.args.run.now c.args.number (parts_of given) c.take.new.self c.take.new.plain.items c.take.new.expected.items
    (came_of c.take.new.taken r))
    (c.in-Err-Wrong.is ∙ ap Err c.in-Err-Wrong.field-0-is) c.take.ensures)
    c.clear.ensures.items c.names.ensures c.in_ok-put_wrong-in-Err-Wrong.ensures
