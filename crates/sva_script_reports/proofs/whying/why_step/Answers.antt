use Rattle.std.proofs.Common.{◌≡◌, ◌∙◌, ◌++◌, List, ap, append-nil, map, rules, subst, sym, ℕ, Ok, Err, Some, None}
use denote.Ref.{Bor}
use Rattle.sva_script.specs.Lines.{parts_of}
use Rattle.sva_script_runs.specs.Runs.{Takes, came_of}
use Rattle.sva_script_reading.specs.Begins.{fault_of}
use Rattle.sva_script_reading.specs.Faults.{fault_text}
use Rattle.sva_script_reports.specs.Whys.{case_text}
use Rattle.sva_script_reports.proofs.WhyLemmas.{why_failed, why_taken}
use Rattle.sva_script_reports.proofs.whying.why_step.Goals as goal

pub returns-in_ok-put_case-in-Ok-Step : goal.returns-in_ok-put_case-in-Ok-Step
returns-in_ok-put_case-in-Ok-Step g c =
    let given = map {A = Bor (List ℕ)} {B = List ℕ} (λ word. word.now) c.as_slice-words.result.now in
    why_taken g.E.Explains.explained c.args.run.now c.take.new.self c.args.number _ given c.take.new.plain.items c.take.new.expected.items c.args.out.now.items
    c.put_case.new.out.items (Some c.take.new.taken)
    (ap (λ ws. map {A = Bor (List ℕ)} {B = List ℕ} (λ word. word.now) ws) c.as_slice-words.ensures.value)
    (subst (λ r. Takes c.args.run.now c.args.number (parts_of given) c.take.new.self c.take.new.plain.items c.take.new.expected.items
    (came_of c.take.new.taken r)) (c.in-Ok-Step.is ∙ ap Ok c.in-Ok-Step.field-0-is) c.take.ensures)
    (c.in_ok-put_case-in-Ok-Step.ensures
    ∙ ap (λ plain. c.args.out.now.items
    ++ case_text g.E.Explains.explained c.args.number plain c.take.new.self.seen c.take.new.taken.step c.take.new.taken.told.reply) c.as_slice.ensures.value)

pub returns-in-Ok-End : goal.returns-in-Ok-End
returns-in-Ok-End g c =
    let given = map {A = Bor (List ℕ)} {B = List ℕ} (λ word. word.now) c.as_slice-words.result.now in
    why_taken g.E.Explains.explained c.args.run.now c.take.new.self c.args.number _ given c.take.new.plain.items c.take.new.expected.items c.args.out.now.items
    c.args.out.now.items None
    (ap (λ ws. map {A = Bor (List ℕ)} {B = List ℕ} (λ word. word.now) ws) c.as_slice-words.ensures.value)
    (subst (λ r. Takes c.args.run.now c.args.number (parts_of given) c.take.new.self c.take.new.plain.items c.take.new.expected.items
    (came_of c.take.new.taken r)) (c.in-Ok-End.is ∙ ap Ok c.in-Ok-End.field-0-is) c.take.ensures)
    (sym (append-nil c.args.out.now.items))

pub returns-in_ok-put_wrong-in-Err-Wrong : goal.returns-in_ok-put_wrong-in-Err-Wrong
returns-in_ok-put_wrong-in-Err-Wrong g c =
    let given = map {A = Bor (List ℕ)} {B = List ℕ} (λ word. word.now) c.as_slice-words.result.now in
    let told : c.put_wrong.new.out.items
    ≡ c.clear.new.self.items ++ fault_text (fault_of c.names.result.now c.args.number given c.in-Err-Wrong.wrong) = search rules in
    why_failed g.E.Explains.explained c.args.run.now c.take.new.self c.args.number _ given c.take.new.plain.items c.take.new.expected.items
    c.args.out.now.items c.clear.new.self.items
    c.put_wrong.new.out.items c.names.result.now c.in-Err-Wrong.wrong
    (ap (λ ws. map {A = Bor (List ℕ)} {B = List ℕ} (λ word. word.now) ws) c.as_slice-words.ensures.value)
    (subst (λ r. Takes c.args.run.now c.args.number (parts_of given) c.take.new.self c.take.new.plain.items c.take.new.expected.items
    (came_of c.take.new.taken r)) (c.in-Err-Wrong.is ∙ ap Err c.in-Err-Wrong.field-0-is) c.take.ensures)
    c.clear.ensures.items c.names.ensures told
