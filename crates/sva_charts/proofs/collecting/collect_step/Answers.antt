use Rattle.std.proofs.Common.{◌≡◌, ◌∙◌, ◌++◌, List, Err, ap, map, rules, subst, ℕ}
use denote.Ref.{Bor}
use Rattle.sva_script.specs.Lines.{parts_of}
use Rattle.sva_script_runs.specs.Runs.{Takes, came_of, told_in}
use Rattle.sva_script_reading.specs.Begins.{fault_of}
use Rattle.sva_script_reading.specs.Faults.{fault_text}
use Rattle.sva_script_reports.proofs.ShowLemmas.{show_failed, show_taken}
use Rattle.sva_charts.proofs.collecting.collect_step.Goals as goal

pub returns-in_ok-keep-in-Ok : goal.returns-in_ok-keep-in-Ok
returns-in_ok-keep-in-Ok c =
    let given = map {A = Bor (List ℕ)} {B = List ℕ} (λ word. word.now) c.as_slice-words.result.now in
    show_taken c.args.run.now c.take.new.self c.args.number _ given c.take.new.plain.items c.take.new.expected.items c.args.out.now.items
    (told_in c.take.new.taken c.in-Ok.came)
    (ap (λ ws. map {A = Bor (List ℕ)} {B = List ℕ} (λ word. word.now) ws) c.as_slice-words.ensures.value)
    (subst (λ r. Takes c.args.run.now c.args.number (parts_of given) c.take.new.self c.take.new.plain.items c.take.new.expected.items
    (came_of c.take.new.taken r)) c.in-Ok.is c.take.ensures)

pub returns-in_ok-put_wrong-in-Err-Wrong : goal.returns-in_ok-put_wrong-in-Err-Wrong
returns-in_ok-put_wrong-in-Err-Wrong c =
    let given = map {A = Bor (List ℕ)} {B = List ℕ} (λ word. word.now) c.as_slice-words.result.now in
    let told : c.put_wrong.new.out.items
    ≡ c.args.out.now.items ++ fault_text (fault_of c.names.result.now c.args.number given c.in-Err-Wrong.wrong) = search rules in
    show_failed c.args.run.now c.take.new.self c.args.number _ given c.take.new.plain.items c.take.new.expected.items c.args.out.now.items
    c.put_wrong.new.out.items c.names.result.now c.in-Err-Wrong.wrong
    (ap (λ ws. map {A = Bor (List ℕ)} {B = List ℕ} (λ word. word.now) ws) c.as_slice-words.ensures.value)
    (subst (λ r. Takes c.args.run.now c.args.number (parts_of given) c.take.new.self c.take.new.plain.items c.take.new.expected.items
    (came_of c.take.new.taken r)) (c.in-Err-Wrong.is ∙ ap Err c.in-Err-Wrong.field-0-is) c.take.ensures)
    c.names.ensures told
