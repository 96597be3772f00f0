use Rattle.std.proofs.Common.{◌≡◌, ◌<◌, [], arith, length, rules}
use Rattle.std.proofs.lemmas.Grind.{common_steps}
use Rattle.sva_script.proofs.WordLemmas.{on_ok_by}
use Rattle.sva_script_reading.proofs.FaultLemmas.{on_ok_all}
use Rattle.sva_script_reports.proofs.TraceLemmas.{end_here, end_last, ends_here, ends_last, nothing_held}
use Rattle.sva_script_reports.proofs.tracing.Tracer.take_end.Goals as goal

pub returns-then-is_empty-clause-said : goal.returns-then-is_empty-clause-said
returns-then-is_empty-clause-said g c =
    let none : c.args.held.now ≡ [] = nothing_held c.args.held.now (grind (arith, common_steps)) in
    on_ok_by c.put_end.result (end_here g.E.Explains.explained c.args.self.now c.args.held.now c.args.out.now.items c.put_end.new.out.items none)
    c.put_end.ensures

pub returns-then-is_empty-clause-outcome : goal.returns-then-is_empty-clause-outcome
returns-then-is_empty-clause-outcome g c =
    let none : c.args.held.now ≡ [] = nothing_held c.args.held.now (grind (arith, common_steps)) in
    on_ok_all c.put_end.result (ends_here g.E.Explains.explained c.args.self.now c.args.held.now none)

pub returns-clause-said : goal.returns-clause-said
returns-clause-said g c =
    let some : 0 < length c.args.held.now = search rules in
    on_ok_by c.put_end-2.result
    (end_last g.E.Explains.explained c.args.self.now c.take_line.new.self c.args.held.now c.args.out.now.items c.take_line.new.out.items
    c.put_end-2.new.out.items
    some c.requires.held c.in_ok-take_line.ensures)
    c.put_end-2.ensures

pub returns-clause-outcome : goal.returns-clause-outcome
returns-clause-outcome g c =
    let some : 0 < length c.args.held.now = search rules in
    on_ok_all c.put_end-2.result
    (ends_last g.E.Explains.explained c.args.self.now c.take_line.new.self c.args.held.now c.args.out.now.items c.take_line.new.out.items some c.requires.held
    c.in_ok-take_line.ensures)
