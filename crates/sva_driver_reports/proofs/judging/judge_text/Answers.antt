use Rattle.std.proofs.Common.{subst}
use Rattle.sva_driver_texts.specs.Texts.{ReadsDriver, driver_of}
use Rattle.sva_driver_texts.specs.declared.kept.Begun.{Begun}
use Rattle.sva_driver_texts.specs.declared.kept.Begun.TheVariants as begun
use Rattle.sva_driver_reports.proofs.Told.{leak_judged, read_judged, silent_driver, unread_judged}
use Rattle.sva_driver_reports.proofs.judging.judge_text.Goals as goal

pub returns-in-Faulted : goal.returns-in-Faulted
returns-in-Faulted g c =
    let out = c.read_driver.new.out.items in
    unread_judged c.args.text.now c.args.wanted out
    (subst (λ (to : Begun). ReadsDriver (driver_of c.args.text.now) to out) c.in-Faulted.is c.in_ok-read_driver.ensures)

pub returns-in-Leaks : goal.returns-in-Leaks
returns-in-Leaks g c =
    let out = c.read_driver.new.out.items in
    leak_judged c.args.text.now c.args.wanted c.in-Leaks.number c.in-Leaks.wrong out c.tell_leak.new.out.items c.tell_leak.result
    (subst (λ (to : Begun). ReadsDriver (driver_of c.args.text.now) to out) c.in-Leaks.is c.in_ok-read_driver.ensures)
    c.tell_leak.ensures.said c.tell_leak.ensures.text

pub judge_read-requires : goal.judge_read-requires
judge_read-requires g c =
    let out = c.read_driver.new.out.items in
    silent_driver (driver_of c.args.text.now) (begun.Stands c.in-Stands.text) out
    (subst (λ (to : Begun). ReadsDriver (driver_of c.args.text.now) to out) c.in-Stands.is c.in_ok-read_driver.ensures) (λ same. absurd (cc same))

pub returns-in_ok-said-in-Stands : goal.returns-in_ok-said-in-Stands
returns-in_ok-said-in-Stands g c =
    let out = c.read_driver.new.out.items in
    read_judged c.args.text.now c.args.wanted c.in-Stands.text out c.judge_read.new.out.items c.in_ok-said-in-Stands.said
    (subst (λ (to : Begun). ReadsDriver (driver_of c.args.text.now) to out) c.in-Stands.is c.in_ok-read_driver.ensures) c.in_ok-said-in-Stands.ensures
