use Rattle.std.proofs.Common.{◌≡◌, ◌∙◌, ◌+◌, rules, sym, true, false}
use Rattle.std.proofs.lemmas.Result.{IfOk-weaker}
use Rattle.sva_grammar.proofs.ConfigLemmas.{fit_from, unfit_from}
use Rattle.sva_script_reading.specs.Begins.{lines_from}
use Rattle.sva_race_texts.proofs.WholeLemmas.{race_is, with_fit, with_unfit}
use Rattle.sva_race_texts.proofs.texts.read_lines.Goals as goal

pub returns-then-not-fits : goal.returns-then-not-fits
returns-then-not-fits c =
    let unfit : c.fits.result ≡ false = search rules in
    with_unfit c.args.config (lines_from (c.args.all.number + 1) c.args.all.rest.now) (lines_from (c.args.lines.number + 1) c.args.lines.rest.now)
    c.args.out.now.items c.put_limits.new.out.items c.requires.none
    (unfit_from c.args.config (λ fits. cc (sym (c.fits.ensures.1 fits) ∙ unfit))) c.in_ok-put_limits.ensures

pub returns : goal.returns
returns c =
    let all = lines_from (c.args.all.number + 1) c.args.all.rest.now in
    let left = lines_from (c.args.lines.number + 1) c.args.lines.rest.now in
    let fits : c.fits.result ≡ true = search rules in
    IfOk-weaker c.text_of.result _ _
    (λ found reads. with_fit c.args.config all left
    (record { config = c.args.config; before = c.count-before.result; reading = c.read_from_race.new.reading }) found c.text_of.new.out.items
    (fit_from c.args.config (c.fits.ensures.0 fits))
    (race_is c.args.config all left c.args.all.number c.count-before.result c.in_ok-names.names c.in_ok-reading.reading c.read_before.new.reading
    c.read_from_race.new.reading c.requires.first c.in_ok-names.ensures c.in_ok-reading.ensures c.in_ok-read_before.ensures c.count-before.ensures
    c.in_ok-read_from_race.ensures) reads)
    c.text_of.ensures
