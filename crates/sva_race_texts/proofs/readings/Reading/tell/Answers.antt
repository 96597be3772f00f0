use Rattle.std.proofs.Common.{◌∙◌, ◌++◌, ap}
use Rattle.sva_script.proofs.WordLemmas.{on_ok_by}
use Rattle.sva_race_texts.specs.Faults.{fault_text}
use Rattle.sva_race_texts.proofs.Lists.{said}
use Rattle.sva_race_texts.specs.Readings.{Reading}
use Rattle.sva_race_texts.proofs.readings.Reading.tell.Goals as goal

pub returns : goal.returns
returns c =
    let fault = fault_text c.args.names.now c.args.line (said c.args.words.now) c.args.wrong.now in
    on_ok_by c.put_fault.result
    (λ put. let text = put ∙ ap (λ (reading : Reading). reading.said ++ fault) c.self.view_is in
    λ i. record (c.self.view_is i) { said = text i })
    c.put_fault.ensures
