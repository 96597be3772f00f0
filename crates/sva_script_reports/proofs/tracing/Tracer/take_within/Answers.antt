use Rattle.std.proofs.Common.{◌≡◌, ◌∙◌, ◌+◌, List, ap, map, rules, ℕ}
use denote.Ref.{Bor}
use Rattle.sva_script.proofs.WordLemmas.{on_ok_by}
use Rattle.sva_script.specs.Lines.{script_words}
use Rattle.sva_script_reports.specs.Traces.{Tracer}
use Rattle.sva_script_reading.proofs.BeginLemmas.{some_words}
use Rattle.sva_script_reports.proofs.TraceLemmas.{line_told}
use Rattle.sva_script_reports.proofs.tracing.Tracer.take_within.Goals as goal

pub returns-else-is_empty : goal.returns-else-is_empty
returns-else-is_empty g c =
    let words = map {A = Bor (List ℕ)} {B = List ℕ} (λ word. word.now) c.as_slice.result.now in
    let same : words ≡ script_words c.args.line.now =
    ap (λ ws. map {A = Bor (List ℕ)} {B = List ℕ} (λ word. word.now) ws) c.as_slice.ensures.value ∙ c.in_ok-split.ensures in
    on_ok_by c.take_step.result
    (line_told g.E.Explains.explained c.args.self.now _ c.take_step.new.self c.args.line.now words c.args.out.now.items c.take_step.new.out.items
    (ap (λ (t : Tracer). record { style = t.style; lines = t.lines + 1; tracing = t.tracing }) c.self.view_is) same
    (some_words c.as_slice.result.now (search rules)))
    c.take_step.ensures
