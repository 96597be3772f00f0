use Rattle.std.proofs.Common.{◌≡◌, ◌++◌, [], arith, subst, sym}
use Rattle.std.proofs.lemmas.Grind.{common_steps}
use Rattle.sva_script.proofs.WordLemmas.{on_ok_by}
use Rattle.sva_script_reading.proofs.FaultLemmas.{on_ok_all}
use Rattle.sva_script_reports.specs.Traces.{TracesLine}
use Rattle.sva_script_reports.proofs.TraceLemmas.{nothing_held}
use Rattle.sva_script_reports.proofs.tracing.Tracer.take_held.Goals as goal

pub returns-then-is_empty-clause-traced : goal.returns-then-is_empty-clause-traced
returns-then-is_empty-clause-traced g c =
    let none : c.args.held.now.items ≡ [] = nothing_held c.args.held.now.items (grind (arith, common_steps)) in
    on_ok_by c.take_within.result
    (subst (λ l. TracesLine g.E.Explains.explained c.args.self.now
    (l ++ c.args.text.now) c.take_within.new.self c.args.out.now.items c.take_within.new.out.items) (sym none))
    c.take_within.ensures

pub returns-then-is_empty-clause-held : goal.returns-then-is_empty-clause-held
returns-then-is_empty-clause-held g c =
    let none : c.args.held.now.items ≡ [] = nothing_held c.args.held.now.items (grind (arith, common_steps)) in
    on_ok_all c.take_within.result none
