use Rattle.std.proofs.Common.{ap, refl, subst}
use Rattle.sva_step.specs.Limits.{Fits}
use Rattle.sva_step.specs.declared.refusals.Refusal.TheVariants.{BadConfig}
use Rattle.sva_grammar.specs.Grammar.{Script}
use Rattle.sva_reports.proofs.ReportLemmas.{refusal_short}
use Rattle.sva_grammar.proofs.ConfigLemmas.{fit_from}
use Rattle.sva_scenario.proofs.StormReportLemmas.{fit_by}
use Rattle.sva_scenario.proofs.storm_reports.hand_out.Goals as goal

pub write_reply-requires-clause-short : goal.write_reply-requires-clause-short
write_reply-requires-clause-short g c = refusal_short BadConfig

pub returns-then-fits-clause-judged : goal.returns-then-fits-clause-judged
returns-then-fits-clause-judged g c =
    let same = ap (λ (s : Script). s.config) c.scenario.view_is in
    fit_by _ c.args.scenario _ (fit_from c.args.scenario.config (subst Fits same (c.fits.ensures.0 c.if-fits.true)))

pub returns-then-fits-clause-fits : goal.returns-then-fits-clause-fits
returns-then-fits-clause-fits g c =
    let same = ap (λ (s : Script). s.config) c.scenario.view_is in
    (subst Fits same (c.fits.ensures.0 c.if-fits.true), refl)
