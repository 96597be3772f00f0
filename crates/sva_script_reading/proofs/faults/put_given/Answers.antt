use Rattle.sva_script.proofs.WordLemmas.{on_ok_by}
use Rattle.sva_script_reading.proofs.FaultLemmas.{given_is}
use Rattle.sva_script_reading.proofs.faults.put_given.Goals as goal

pub returns-in-Some : goal.returns-in-Some
returns-in-Some c =
    on_ok_by c.put_answered.result
    (given_is c.args.given.now.line c.args.given.now.told c.in-Some.told c.args.out.now.items c.extend_from_slice.new.self.items c.put_number.new.out.items
    c.put_answered.new.out.items c.in-Some.is c.in_ok-extend_from_slice.ensures.items c.in_ok-put_number.ensures)
    c.put_answered.ensures
