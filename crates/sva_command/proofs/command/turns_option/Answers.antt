use Rattle.std.proofs.Common.{rules, ap, ap₂, codes, Some, [], ◌∷◌, ◌≡◌, ◌∙◌}
use Rattle.clap.specs.Words.{Rule, new_rule, rule_of}
use Rattle.clap.specs.declared.builder.action.ArgAction.TheVariants.{Set}
use Rattle.clap.specs.declared.builder.value_parser.ValueParser.{ValueParser}
use Rattle.sva_command.proofs.command.turns_option.Goals as goal

-- the option before its parser
abbrev unparsed : Rule
unparsed = record (new_rule (codes "turns")) { long = Some (codes "turns"); action = Some Set; value_names = 1; defaults = codes "10000" ∷ [] }

pub returns-clause-rule : goal.returns-clause-rule
returns-clause-rule c =
    let unparsed_is : rule_of c.help.result ≡ unparsed = search rules in
    ap rule_of c.value_parser.ensures.others
    ∙ ap₂ (λ (r : Rule) p. record r { parser = p }) unparsed_is (c.value_parser.ensures.given.1
    ∙ ap (λ (p : ValueParser). Some p) (c.value_parser.ensures.given.2 ∙ c.unsigned.ensures))
