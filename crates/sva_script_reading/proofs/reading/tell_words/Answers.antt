use Rattle.std.proofs.Common.{◌∙◌, List, None, Err, ap, map, subst, ℕ}
use denote.Ref.{Bor}
use Rattle.sva_script.specs.Lines.{parts_of}
use Rattle.sva_script_reading.specs.Lines.{Reads, line_read}
use Rattle.sva_script_reading.specs.Messages.{link_of}
use Rattle.sva_script_reading.proofs.WordLemmas.{words_failed}
use Rattle.sva_script_reading.proofs.reading.tell_words.Goals as goal

pub returns-in_ok-put_wrong-in-Err-Wrong-clause-told : goal.returns-in_ok-put_wrong-in-Err-Wrong-clause-told
returns-in_ok-put_wrong-in-Err-Wrong-clause-told c =
    let given = map {A = Bor (List ℕ)} {B = List ℕ} (λ word. word.now) c.as_slice-words.result.now in
    words_failed c.args.names.now c.args.number _ given c.read_line.new.plain.items c.read_line.new.expected.items c.args.faults.now.items
    c.put_wrong.new.out.items c.in-Err-Wrong.wrong (ap (λ ws. map {A = Bor (List ℕ)} {B = List ℕ} (λ word. word.now) ws) c.as_slice-words.ensures.value)
    (subst (λ r. Reads (line_read c.args.names.now (link_of None) (parts_of given)) c.read_line.new.plain.items c.read_line.new.expected.items r)
    (c.in-Err-Wrong.is ∙ ap Err c.in-Err-Wrong.field-0-is) c.read_line.ensures)
    c.in_ok-put_wrong-in-Err-Wrong.ensures
