use Rattle.std.proofs.Common.{◌≡◌, List, Some, false, map, rules, ℕ}
use denote.Ref.{Bor}
use Rattle.sva_script.proofs.WordLemmas.{on_ok_by}
use Rattle.sva_script_reports.proofs.RowLemmas.{row_told}
use Rattle.sva_script_reports.proofs.tracing.Tracer.take_step.Goals as goal

pub returns-in-Ok-Step : goal.returns-in-Ok-Step
returns-in-Ok-Step g c =
    let words = map {A = Bor (List ℕ)} {B = List ℕ} (λ word. word.now) c.args.words.now in
    let run : c.args.self.now.tracing.run ≡ Some c.in-Some-2.run' = search rules in
    let open_yet : c.args.self.now.tracing.has_ended ≡ false = search rules in
    on_ok_by c.put_step.result
    (λ put. row_told g.E.Explains.explained c.args.self.now _ c.in-Some-2.run' c.take.new.self words c.take.new.plain.items c.take.new.expected.items
    c.args.out.now.items
    c.put_step.new.out.items c.take.new.taken c.self.view_is run open_yet
    (search rules) (search rules))
    c.put_step.ensures
