use Rattle.std.proofs.Common.{◌≡◌, ◌∙◌, ap, rules, sym, true, false}
use Rattle.std.specs.Prelude.{Err}
use Rattle.sva_driver_texts.proofs.Stands.{leaks, missing, refused, stands}
use Rattle.sva_driver_texts.proofs.texts.take_first.Goals as goal

pub returns-then-not-read : goal.returns-then-not-read
returns-then-not-read c =
    let lacks : c.args.read.is_race ≡ false = search rules in
    missing c.args.read c.args.out.now.items c.put_missing.new.out.items lacks c.requires c.in_ok-put_missing.ensures

pub returns-in-Ok : goal.returns-in-Ok
returns-in-Ok c =
    let has : c.args.read.is_race ≡ true = search rules in
    let leads = sym c.in-Ok.is ∙ c.in_ok-spot.ensures in
    stands c.args.read c.in-Ok.spot c.text_of.result c.args.out.now.items has leads
    (record {
      config = c.text_of.ensures.config;
      before = c.text_of.ensures.before;
      said = c.text_of.ensures.said;
      opened = c.text_of.ensures.opened ∙ c.in_ok-opened-in-Ok.ensures;
      spot = c.in-Ok.spot;
      first = sym leads;
      driver = c.text_of.ensures.driver;
    })
    c.requires

pub returns-in-Err-Refused : goal.returns-in-Err-Refused
returns-in-Err-Refused c =
    let has : c.args.read.is_race ≡ true = search rules in
    refused c.args.read c.in-Err-Refused.place c.args.out.now.items c.put_refused.new.out.items has
    (ap Err (sym c.in-Err-Refused.field-0-is) ∙ sym c.in-Err-Refused.is ∙ c.in_ok-spot.ensures)
    c.requires c.in_ok-put_refused-in-Err-Refused.ensures

pub returns : goal.returns
returns c =
    let has : c.args.read.is_race ≡ true = search rules in
    leaks c.args.read c.in-Err-Leaks.number c.in-Err-Leaks.wrong c.args.out.now.items has
    (ap Err (sym c.in-Err-Leaks.field-0-is) ∙ sym c.in-Err-Leaks.is ∙ c.in_ok-spot.ensures) c.requires
