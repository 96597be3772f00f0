use Rattle.std.proofs.Common.{◌∙◌, Bool, List, Option, ap, codes, false, option_map, sym, ℕ}
use Rattle.std.specs.Option.{option_map_or}
use Rattle.std.specs.Str.{bytes_eq}
use denote.Ref.{Bor}
use Rattle.clap.proofs.WalkLemmas.{first_value-rows}
use Rattle.clap.specs.Words.{Text, found_of}
use Rattle.sva_command.proofs.command.is_given.Goals as goal

-- what a flag says where this was found of it
abbrev says : Option Text → Bool
says found = option_map_or (λ text. bytes_eq text (codes "true")) found false

abbrev now : Bor (List ℕ) → List ℕ
now text = text.now

pub returns-in-Some : goal.returns-in-Some
returns-in-Some c =
    c.eq.ensures
    ∙ ap says (ap (option_map now) (sym c.in-Some.is) ∙ c.get_str.ensures ∙ first_value-rows (found_of c.args.trace.now) c.args.flag.now)

pub returns-in-None : goal.returns-in-None
returns-in-None c =
    ap says (ap (option_map now) (sym c.in-None.is) ∙ c.get_str.ensures ∙ first_value-rows (found_of c.args.trace.now) c.args.flag.now)
