use Rattle.std.proofs.Common.{subst}
use Rattle.std.specs.Prelude.{Option}
use Rattle.sva_driver_texts.specs.declared.kept.Read.{Read}
use Rattle.sva_driver_texts.specs.Texts.{ReadsText, driver_of}
use Rattle.sva_driver_texts.proofs.Stands.{nothing_said, unread, whole}
use Rattle.sva_driver_texts.proofs.texts.read_driver.Goals as goal

pub returns-in-None : goal.returns-in-None
returns-in-None c =
    unread (driver_of c.args.text.now) c.read_text.new.out.items
    (subst (λ (found : Option Read). ReadsText (driver_of c.args.text.now) found c.read_text.new.out.items) c.in-None.is c.in_ok-read_text.ensures)

pub take_first-requires : goal.take_first-requires
take_first-requires c =
    nothing_said (driver_of c.args.text.now) c.in-Some.read c.read_text.new.out.items
    (subst (λ (found : Option Read). ReadsText (driver_of c.args.text.now) found c.read_text.new.out.items) c.in-Some.is c.in_ok-read_text.ensures)

pub returns-in-Some : goal.returns-in-Some
returns-in-Some c =
    whole (driver_of c.args.text.now) c.in-Some.read c.read_text.new.out.items c.take_first.new.out.items c.take_first.result
    (subst (λ (found : Option Read). ReadsText (driver_of c.args.text.now) found c.read_text.new.out.items) c.in-Some.is c.in_ok-read_text.ensures)
    c.take_first.ensures
