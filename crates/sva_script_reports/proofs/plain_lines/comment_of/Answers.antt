use Rattle.std.proofs.Common.{◌∙◌, Option, ap, drop, sym, ℕ, []}
use Rattle.std.specs.Option.{option_map_or}
use Rattle.sva_script.proofs.ItemLemmas.{to_end}
use Rattle.sva_script_reports.proofs.plain_lines.comment_of.Goals as goal

pub returns-in-Some : goal.returns-in-Some
returns-in-Some c =
    to_end c.in-Some.start c.args.line.now
    ∙ sym (ap (λ (place : Option ℕ). option_map_or (λ first. drop first c.args.line.now) place []) (sym c.first_shown.ensures.at ∙ c.in-Some.is))

pub returns-in-None : goal.returns-in-None
returns-in-None c =
    sym (ap (λ (place : Option ℕ). option_map_or (λ first. drop first c.args.line.now) place []) (sym c.first_shown.ensures.at ∙ c.in-None.is))
