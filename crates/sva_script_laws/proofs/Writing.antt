-- A text of lines that say steps, with comments between them.
use Rattle.std.proofs.Common.{◌≡◌, ◌∙◌, ap, append-nil, cond, refl, sym, ℕ, Bool, not, true, List, []}
use Rattle.std.proofs.Common.{◌∷◌, ◌++◌, filter, map}
use Rattle.std.proofs.lemmas.Grind.{flat_map-append}
use Rattle.std.proofs.lemmas.List.{map-append}
use Rattle.std.proofs.lemmas.List.Elements.{filter-append}
use Rattle.sva_step.specs.declared.steps.Step.{Step}
use Rattle.sva_grammar.specs.Grammar.{is_skipped}
use Rattle.sva_grammar.specs.Laws.{step_name, step_values}
use Rattle.sva_grammar.specs.Replies.{ended}
use Rattle.sva_script_reports.specs.Traces.{NoEnd}
use Rattle.sva_script_laws.proofs.PlainWords.{joined_line}
use Rattle.sva_script_laws.proofs.Written.{Clean, written}
use Rattle.sva_race_reports.specs.Witnesses.{step_line}
use Rattle.sva_script_laws.proofs.StepTexts.{step_clean, step_said, step_text}

-- the line says something
abbrev pub says : List ℕ → Bool
says line = not (is_skipped line)

-- a text of lines, of which those that say something are the lines of these steps
pub record Writes (text : List ℕ) (steps : List Step) : Type 0 where
  pub lines : List (List ℕ)
  pub clean : Clean lines
  pub whole : text ≡ written lines
  pub said : filter says lines ≡ map step_text steps

pub nothing : Writes [] []
nothing = record { lines = []; clean = tt; whole = refl; said = refl }

pub comment : (line : List ℕ) → NoEnd line → is_skipped line ≡ true → Writes (ended line) []
comment line clean is = record {
  lines = line ∷ [];
  clean = (clean, tt);
  whole = sym (append-nil (ended line));
  said = ap (λ t. cond (not t) (line ∷ []) []) is;
}

pub one_step : (it : Step) → Writes (step_line it) (it ∷ [])
one_step it = record {
  lines = step_text it ∷ [];
  clean = (step_clean it, tt);
  whole = ap ended (joined_line (step_name it) (step_values it)) ∙ sym (append-nil (ended (step_text it)));
  said = ap (λ t. cond (not t) (step_text it ∷ []) []) (step_said it);
}

pub clean_both : (lines more : List (List ℕ)) → Clean lines → Clean more → Clean (lines ++ more)
clean_both [] more first second = second
clean_both (line ∷ lines) more first second = (first.0, clean_both lines more first.1 second)

-- one text behind another
pub both : (text more : List ℕ) (steps others : List Step) → Writes text steps → Writes more others
    → Writes (text ++ more) (steps ++ others)
both text more steps others first second = record {
  lines = first.lines ++ second.lines;
  clean = clean_both first.lines second.lines first.clean second.clean;
  whole = (λ i. first.whole i ++ second.whole i) ∙ sym (flat_map-append ended first.lines second.lines);
  said = filter-append says first.lines second.lines ∙ (λ i. first.said i ++ second.said i) ∙ sym (map-append step_text steps others);
}
