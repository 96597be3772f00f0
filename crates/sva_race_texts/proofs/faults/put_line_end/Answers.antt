use Rattle.std.proofs.Common.{◌∙◌, ◌++◌, ap, append_assoc, codes}
use Rattle.sva_script_reading.proofs.FaultLemmas.{on_ok_if}
use Rattle.sva_race_texts.proofs.faults.put_line_end.Goals as goal

pub returns : goal.returns
returns c =
    on_ok_if c.extend_from_slice-2.result c.extend_from_slice-2.new.self.items _ _ c.extend_from_slice-2.ensures.items
    (λ put. put ∙ ap (λ l. l ++ c.as_bytes.result.now) c.in_ok-extend_from_slice.ensures.items
    ∙ append_assoc c.args.out.now.items (codes ": end of line: wanted ") c.as_bytes.result.now
    ∙ ap (λ text. c.args.out.now.items ++ (codes ": end of line: wanted " ++ text)) (c.as_bytes.ensures.value ∙ c.words_of.ensures))
