use Rattle.std.proofs.Common.{List, ap, subst, ℕ}
use Rattle.std.specs.Prelude.{IfOk}
use Rattle.sva_script_reading.proofs.FaultLemmas.{on_ok_all}
use Rattle.sva_script_reading.specs.Reading.{ReadsLine}
use Rattle.sva_race_texts.proofs.Lists.{said}
use Rattle.sva_race_texts.specs.Readings.{Reading}
use Rattle.sva_race_texts.proofs.readings.Reading.tell_script.Goals as goal

pub returns-clause-line : goal.returns-clause-line
returns-clause-line c =
    subst (λ (old : List ℕ). IfOk c.read_line_words.result (λ ended. ReadsLine c.args.names.now c.args.has_ended c.args.number
    (said c.args.desk.now.words.items) c.read_line_words.new.names ended old c.read_line_words.new.faults.items))
    (ap (λ (reading : Reading). reading.said) c.self.view_is) c.read_line_words.ensures

pub returns-clause-only : goal.returns-clause-only
returns-clause-only c =
    on_ok_all c.read_line_words.result (ap (λ (reading : Reading). record reading { said = c.read_line_words.new.faults.items }) c.self.view_is)
