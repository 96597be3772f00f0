use Rattle.std.proofs.Common.{◌≡◌, ◌∙◌, ◌++◌, List, Err, ap, drop, false, map, rules, subst, ℕ}
use Rattle.std.specs.Prelude.{is_none}
use denote.Ref.{Bor}
use Rattle.sva_script.specs.Lines.{parts_of}
use Rattle.sva_script_reading.specs.Begins.{fault_of}
use Rattle.sva_script_reading.specs.Faults.{fault_text}
use Rattle.sva_script_reports.specs.Lines.{AnswersLine}
use Rattle.sva_script_reports.specs.Scripts.{is_expected, miss_text}
use Rattle.sva_script_reports.proofs.StepLemmas.{line_differs, line_failed}
use Rattle.sva_script_reports.proofs.testing.test_line.Goals as goal

pub returns-in-Err-Wrong : goal.returns-in-Err-Wrong
returns-in-Err-Wrong g c =
    let given = map {A = Bor (List ℕ)} {B = List ℕ} (λ word. word.now) c.as_slice-words.result.now in
    let told : c.put_wrong.new.out.items
    ≡ c.args.out.now.items ++ fault_text (fault_of c.names.result.now c.args.number given c.in-Err-Wrong.wrong) = search rules in
    line_failed g.E.Explains.explained c.args.run.now c.answer_line.new.run c.args.number _ given c.answer_line.new.plain.items c.answer_line.new.answer.items
    c.answer_line.new.expected.items c.args.out.now.items c.put_wrong.new.out.items c.args.is_last.now c.names.result.now
    c.answer_line.new.taken c.in-Err-Wrong.wrong
    (ap (λ ws. map {A = Bor (List ℕ)} {B = List ℕ} (λ word. word.now) ws) c.as_slice-words.ensures.value)
    (subst (λ r. AnswersLine g.E.Explains.explained c.args.run.now c.args.number given c.answer_line.new.run c.answer_line.new.plain.items
    c.answer_line.new.answer.items
    c.answer_line.new.expected.items c.answer_line.new.taken r) (c.in-Err-Wrong.is ∙ ap Err c.in-Err-Wrong.field-0-is) c.answer_line.ensures)
    c.names.ensures told

pub returns : goal.returns
returns g c =
    let given = map {A = Bor (List ℕ)} {B = List ℕ} (λ word. word.now) c.as_slice-words.result.now in
    let some : is_none (parts_of given).expected ≡ false = search rules in
    let shown : c.behind_space-expected.result.now ≡ drop 1 c.answer_line.new.expected.items = search rules in
    let differs : is_expected c.behind_space-expected.result.now c.answer_line.new.answer.items ≡ false = search rules in
    let told : c.put_miss.new.out.items
    ≡ c.args.out.now.items ++ miss_text c.args.number c.answer_line.new.plain.items c.behind_space-expected.result.now c.answer_line.new.answer.items =
    search rules in
    line_differs g.E.Explains.explained c.args.run.now c.answer_line.new.run c.args.number _ given c.answer_line.new.plain.items c.answer_line.new.answer.items
    c.answer_line.new.expected.items c.behind_space-expected.result.now c.args.out.now.items c.put_miss.new.out.items
    c.put_held.new.out.items c.in-Ok.last c.answer_line.new.taken
    (ap (λ ws. map {A = Bor (List ℕ)} {B = List ℕ} (λ word. word.now) ws) c.as_slice-words.ensures.value)
    (subst (λ r. AnswersLine g.E.Explains.explained c.args.run.now c.args.number given c.answer_line.new.run c.answer_line.new.plain.items
    c.answer_line.new.answer.items
    c.answer_line.new.expected.items c.answer_line.new.taken r) c.in-Ok.is c.answer_line.ensures) some shown differs told
    c.in_ok-put_held.ensures
