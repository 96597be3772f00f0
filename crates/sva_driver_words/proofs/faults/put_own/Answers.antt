use Rattle.sva_race_texts.proofs.ScriptFaultLemmas.{on_ok_if}
use Rattle.sva_driver_words.proofs.FaultLemmas.{own_is}
use Rattle.sva_driver_words.proofs.faults.put_own.Goals as goal

pub returns : goal.returns
returns c =
    on_ok_if c.extend_from_slice-2.result c.extend_from_slice-2.new.self.items _ _ c.extend_from_slice-2.ensures.items
    (own_is c.args.line c.args.names.now c.args.wrong.now.wanted _ _ c.args.out.now.items c.extend_from_slice.new.self.items c.put_number.new.out.items
    c.put_where.new.out.items c.extend_from_slice-2.new.self.items c.word_in.ensures c.in_ok-extend_from_slice.ensures.items c.in_ok-put_number.ensures
    c.in_ok-put_where.ensures)
