use Rattle.std.proofs.Common.{◌∙◌, List, Ok, ap, false, map, subst, true, ℕ}
use denote.Ref.{Bor}
use Rattle.sva_script.specs.Lines.{parts_of}
use Rattle.sva_script_runs.specs.Runs.{Takes, came_of}
use Rattle.sva_script_reports.proofs.StepLemmas.{answers_if, end_answered, step_answered}
use Rattle.sva_script_reports.proofs.testing.answer_line.Goals as goal

pub returns-in-Ok-Step : goal.returns-in-Ok-Step
returns-in-Ok-Step g c =
    let words = map {A = Bor (List ℕ)} {B = List ℕ} (λ word. word.now) c.args.words.now in
    answers_if g.E.Explains.explained c.args.run.now c.take.new.self c.args.number words c.take.new.plain.items c.put_reply.new.out.items
    c.take.new.expected.items
    c.take.new.taken false
    c.put_reply.result c.stopped.result c.stopped.ensures c.put_reply.ensures
    (step_answered g.E.Explains.explained c.args.run.now c.take.new.self c.args.number words c.take.new.plain.items c.take.new.expected.items
    c.clear.new.self.items
    c.put_reply.new.out.items c.take.new.taken
    (subst (λ r. Takes c.args.run.now c.args.number (parts_of words) c.take.new.self c.take.new.plain.items c.take.new.expected.items
    (came_of c.take.new.taken r)) (c.in-Ok-Step.is ∙ ap Ok c.in-Ok-Step.field-0-is) c.take.ensures) c.clear.ensures.items)

pub returns-in-Ok-End : goal.returns-in-Ok-End
returns-in-Ok-End g c =
    let words = map {A = Bor (List ℕ)} {B = List ℕ} (λ word. word.now) c.args.words.now in
    answers_if g.E.Explains.explained c.args.run.now c.take.new.self c.args.number words c.put_end.new.plain.items c.put_end.new.answer.items
    c.take.new.expected.items
    c.take.new.taken true
    c.put_end.result c.stopped-in-Ok-End.result c.stopped-in-Ok-End.ensures c.put_end.ensures
    (λ both. end_answered g.E.Explains.explained c.args.run.now c.take.new.self c.args.number words c.take.new.plain.items c.take.new.expected.items
    c.clear.new.self.items
    c.put_end.new.plain.items c.put_end.new.answer.items c.counts.result c.take.new.taken
    (subst (λ r. Takes c.args.run.now c.args.number (parts_of words) c.take.new.self c.take.new.plain.items c.take.new.expected.items
    (came_of c.take.new.taken r)) (c.in-Ok-End.is ∙ ap Ok c.in-Ok-End.field-0-is) c.take.ensures) c.clear.ensures.items c.counts.ensures both.0 both.1)
