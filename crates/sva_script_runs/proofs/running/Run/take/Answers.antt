use Rattle.std.proofs.Common.{Ok, Option, Some, List, map, option_map, subst, ℕ}
use denote.Ref.{Bor}
use Rattle.sva_step.specs.declared.steps.Step.{Step}
use Rattle.sva_script.specs.Lines.{Parts, parts_of}
use Rattle.sva_script_reading.specs.Lines.{Reads, line_read}
use Rattle.sva_script_reading.specs.Messages.{link_of}
use Rattle.sva_script_runs.specs.Runs.{Running, read_at}
use Rattle.sva_script_runs.proofs.TakeLemmas.{line_taken}
use Rattle.sva_script_runs.proofs.running.Run.take.Goals as goal

pub returns-in-Ok-name : goal.returns-in-Ok-name
returns-in-Ok-name c =
    let parts : Parts = parts_of (map {A = Bor (List ℕ)} {B = List ℕ} (λ word. word.now) c.args.words.now) in
    let reads : Reads (read_at c.args.self.now parts) c.read_line.new.plain.items c.read_line.new.expected.items (Ok (Some c.in-Ok-Some.step)) =
    subst (λ (run : Running). Reads (read_at run parts) c.read_line.new.plain.items c.read_line.new.expected.items (Ok (Some c.in-Ok-Some.step)))
    c.self.view_is
    (subst (λ (found : Option Step). Reads (line_read c.self.inside.names (link_of (Some c.self.inside.world)) parts) c.read_line.new.plain.items
    c.read_line.new.expected.items (Ok found)) c.in-Ok-Some.field-0-is c.in-Ok-Some.ensures) in
    line_taken c.args.self.now c.apply.new.self c.name.new.self c.args.line parts
    (option_map (λ (name : Bor (List ℕ)). name.now) c.name_in.result)
    c.read_line.new.plain.items c.read_line.new.expected.items (read_at c.args.self.now parts) c.in-Ok-Some.step c.apply.new.taken reads
    c.in-Ok.ensures c.name_in.ensures c.in-Ok-name.ensures
