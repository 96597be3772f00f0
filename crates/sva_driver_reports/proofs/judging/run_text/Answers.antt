use Rattle.std.proofs.Common.{subst}
use Rattle.std.specs.Prelude.{Option}
use Rattle.sva_driver_texts.specs.Texts.{ReadsText, driver_of}
use Rattle.sva_driver_texts.specs.declared.kept.Read.{Read}
use Rattle.sva_driver_reports.proofs.Told.{read_run, unread_run}
use Rattle.sva_driver_reports.proofs.judging.run_text.Goals as goal

pub returns-in-None : goal.returns-in-None
returns-in-None c =
    let out = c.read_text.new.out.items in
    unread_run c.args.text.now out
    (subst (λ (found : Option Read). ReadsText (driver_of c.args.text.now) found out) c.in-None.is c.in_ok-read_text.ensures)

pub returns-in_ok-said-in-Some : goal.returns-in_ok-said-in-Some
returns-in_ok-said-in-Some c =
    let out = c.read_text.new.out.items in
    read_run c.args.text.now c.in-Some.read out c.run_lines.new.out.items c.in_ok-said-in-Some.said
    (subst (λ (found : Option Read). ReadsText (driver_of c.args.text.now) found out) c.in-Some.is c.in_ok-read_text.ensures)
    c.in_ok-said-in-Some.ensures.said c.in_ok-said-in-Some.ensures.text
