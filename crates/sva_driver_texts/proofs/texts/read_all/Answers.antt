use Rattle.std.proofs.Common.{◌≡◌, ◌∙◌, ◌+◌, List, ap, rules, subst, sym, true, false}
use Rattle.std.specs.Prelude.{None, Option, Some, option_map}
use Rattle.std.specs.Global.{Global}
use Rattle.std.specs.Prelude.{Vec}
use Rattle.std.proofs.lemmas.Result.{IfOk-weaker}
use Rattle.sva_grammar.proofs.ConfigLemmas.{fit_from, unfit_from}
use Rattle.sva_script_reading.specs.Begins.{lines_from}
use Rattle.sva_driver_texts.specs.Bodies.{WritesOut, lines_seen}
use Rattle.sva_driver_texts.specs.Readings.{behind_all}
use Rattle.sva_driver_texts.specs.WrittenOut.{written_out}
use Rattle.sva_driver_texts.specs.declared.bodies.WordedLine.{WordedLine}
use Rattle.sva_driver_texts.proofs.Wholes.{driver_is, with_fit, with_right, with_unfit, with_wrong}
use Rattle.sva_driver_texts.proofs.Written.{lines_given, wrong_said}
use Rattle.sva_driver_texts.proofs.texts.read_all.Goals as goal

abbrev seen : Option (Vec WordedLine Global) → Option (List WordedLine)
seen found = option_map (λ (own : Vec WordedLine Global). own.items) found

pub returns-then-not-fits : goal.returns-then-not-fits
returns-then-not-fits c =
    let unfit : c.fits.result ≡ false = search rules in
    with_unfit c.args.config (lines_from (c.args.all.number + 1) c.args.all.rest.now) (lines_from (c.args.lines.number + 1) c.args.lines.rest.now)
    c.args.out.now.items c.put_limits.new.out.items c.requires.none
    (unfit_from c.args.config (λ fits. cc (sym (c.fits.ensures.1 fits) ∙ unfit))) c.in_ok-put_limits.ensures

pub returns : goal.returns
returns c =
    let all = lines_from (c.args.all.number + 1) c.args.all.rest.now in
    let left = lines_from (c.args.lines.number + 1) c.args.lines.rest.now in
    let fits : c.fits.result ≡ true = search rules in
    let its = lines_seen c.in-Some.written.items in
    let given = lines_given (written_out left) c.in-Some.written.items c.write_out.new.out.items
    (subst (λ (found : Option (Vec WordedLine Global)). WritesOut (written_out left) (seen found) c.write_out.new.out.items) c.in-Some.is
    c.in_ok-written.ensures) in
    IfOk-weaker c.read_of.result _ _
    (λ found reads. with_fit c.args.config all left found _ (fit_from c.args.config (c.fits.ensures.0 fits))
    (with_right c.args.config all (written_out left) its
    (record { config = c.args.config; known = c.in_ok-names.names; next = c.next_number-next.result; reading = c.read_lines.new.reading }) found _
    given.0
    (driver_is c.args.config all its c.in_ok-names.names c.next_number-next.result c.in_ok-reading.reading c.read_lines.new.reading
    c.in_ok-names.ensures c.next_number-next.ensures c.in_ok-reading.ensures
    (c.in_ok-read_lines.ensures
    ∙ ap (λ lines. behind_all c.args.config c.in_ok-names.names c.in_ok-reading.reading (lines_seen lines)) c.as_slice.ensures.value))
    reads))
    c.read_of.ensures
