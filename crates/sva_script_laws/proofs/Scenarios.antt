-- The text of a witness: the lines that say something are those of its config and its steps.
use Rattle.std.proofs.Common.{◌≡◌, ◌∙◌, ap, append_assoc, cond, refl, ℕ, zero, suc, not, Bool, true, false, List, []}
use Rattle.std.proofs.Common.{◌∷◌, ◌++◌, codes, decimal, filter, map}
use Rattle.std.proofs.Common.{Option, Some, None, IfSome}
use Rattle.std.specs.Global.{Global}
use Rattle.std.specs.Prelude.{Vec, nat_lt, slice_get}
use Rattle.sva_step.specs.declared.steps.Step.{Step}
use Rattle.sva_grammar.specs.Replies.{ended}
use Rattle.sva_script_reports.specs.Traces.{NoEnd}
use Rattle.sva_script_reports.proofs.TraceLemmas.{no_end-both}
use Rattle.sva_script_laws.proofs.AnswerTexts.{number_behind}
use Rattle.sva_script_laws.proofs.PlainWords.{joined_line}
use Rattle.sva_script_laws.proofs.Written.{Clean, written}
use Rattle.sva_race_texts.specs.declared.terms.choices.Act.{Act}
use Rattle.sva_race_texts.specs.declared.terms.choices.Act.TheVariants as act
use Rattle.sva_race_texts.specs.declared.terms.choices.Choice.{Choice}
use Rattle.sva_race_texts.specs.declared.terms.races.Line.{Line}
use Rattle.sva_race_texts.specs.declared.terms.races.Race.{Race}
use Rattle.sva_race.specs.Acts.{next_in}
use Rattle.sva_race.specs.Moments.{Moment, start_of}
use Rattle.sva_race.specs.Moves.{step_and, step_before, step_of, steps_before, steps_from}
use Rattle.sva_race_reports.specs.Witnesses.{act_who, before_text, comment_of, config_line, heading, line_who}
use Rattle.sva_race_reports.specs.Witnesses.{move_text, moves_text, scenario_text, step_line}
use Rattle.sva_race_reports.specs.Witnesses.{step_line_if}
use Rattle.sva_script_laws.specs.Witnesses.{steps_of}
use Rattle.sva_script_laws.proofs.ReadTexts.{plain_lines}
use Rattle.sva_script_laws.proofs.StepTexts.{config_clean, config_said, config_text}
use Rattle.sva_script_laws.proofs.Writing.{Writes, both, comment, nothing, one_step, says}

-- ---- Who takes a step

abbrev pub CleanNames : List (Vec ℕ Global) → Type 0
CleanNames threads = Clean (map (λ (name : Vec ℕ Global). name.items) threads)

name_clean : (threads : List (Vec ℕ Global)) (number : ℕ) → CleanNames threads
    → IfSome (slice_get threads number) (λ (name : Vec ℕ Global). NoEnd name.items)
name_clean [] number clean = tt
name_clean (name ∷ threads) zero clean = clean.0
name_clean (name ∷ threads) (suc number) clean = name_clean threads number clean.1

line_who_clean : (thread : Option (Vec ℕ Global)) (line : Option Line)
    → IfSome thread (λ (name : Vec ℕ Global). NoEnd name.items) → NoEnd (line_who thread line)
line_who_clean None line clean = refl
line_who_clean (Some thread) None clean = refl
line_who_clean (Some thread) (Some line) clean =
    number_behind (thread.items ++ codes ", line ") line.number (no_end-both thread.items (codes ", line ") clean refl)

who_clean : (race : Race) (threads : List (Vec ℕ Global)) → CleanNames threads → (own : Act) (at number : ℕ)
    → NoEnd (act_who race threads own at number)
who_clean race threads clean act.Line at number =
    line_who_clean (slice_get threads number) (slice_get race.lines.items number) (name_clean threads number clean)
who_clean race threads clean act.Deliver at number = refl
who_clean race threads clean act.Pump at number = number_behind (codes "unit ") at refl
who_clean race threads clean act.Serve at number = number_behind (codes "unit ") at refl
who_clean race threads clean act.Take at number = number_behind (codes "worker ") at refl
who_clean race threads clean act.Succeed at number = number_behind (codes "worker ") at refl
who_clean race threads clean act.Invalidate at number = number_behind (codes "worker ") at refl
who_clean race threads clean act.Fail at number = number_behind (codes "worker ") at refl
who_clean race threads clean act.End at number = number_behind (codes "endpoint ") at refl
who_clean race threads clean act.Finish at number = number_behind (codes "endpoint ") at refl
who_clean race threads clean act.Quit at number = number_behind (codes "endpoint ") at refl
who_clean race threads clean act.Last at number = number_behind (codes "endpoint ") at refl
who_clean race threads clean act.Ask at number = number_behind (codes "endpoint ") at refl
who_clean race threads clean act.Use at number = number_behind (codes "endpoint ") at refl
who_clean race threads clean act.Evict at number = number_behind (codes "endpoint ") at refl
who_clean race threads clean act.Fault at number = number_behind (codes "endpoint ") at refl
who_clean race threads clean act.Again at number = number_behind (codes "endpoint ") at refl

-- ---- The moves

comment_writes : (race : Race) (threads : List (Vec ℕ Global)) → CleanNames threads → (choice : Choice)
    → Writes (comment_of race threads choice) []
comment_writes race threads clean choice =
    let who = act_who race threads choice.act choice.at choice.number in
    comment (codes "# " ++ who) (no_end-both (codes "# ") who refl (who_clean race threads clean choice.act choice.at choice.number)) refl

move_writes : (race : Race) (threads : List (Vec ℕ Global)) → CleanNames threads
    → (choice : Choice) (it : Option Step) (text : List ℕ) (steps : List Step)
    → Writes text steps → Writes (move_text race threads choice it ++ text) (step_and it steps)
move_writes race threads clean choice None text steps rest = rest
move_writes race threads clean choice (Some it) text steps rest =
    both (comment_of race threads choice ++ step_line it) text (it ∷ []) steps
    (both (comment_of race threads choice) (step_line it) [] (it ∷ []) (comment_writes race threads clean choice) (one_step it)) rest

moves_write : (race : Race) (threads : List (Vec ℕ Global)) → CleanNames threads
    → (moment : Option Moment) (choices : List Choice)
    → Writes (moves_text race threads moment choices) (steps_from race moment choices)
unfolding moves_text steps_from
moves_write race threads clean None choices = nothing
moves_write race threads clean (Some moment) [] = nothing
moves_write race threads clean (Some moment) (choice ∷ choices) =
    move_writes race threads clean choice (step_of race moment choice) (moves_text race threads (next_in race moment choice) choices)
    (steps_from race (next_in race moment choice) choices) (moves_write race threads clean (next_in race moment choice) choices)

-- ---- The lines before the race

heading_writes : (count : ℕ) → Writes (heading count) []
heading_writes count = by_test (nat_lt 0 count)
  where
    by_test : (test : Bool) → Writes (cond test (ended (codes "# before the race")) []) []
    by_test true = comment (codes "# before the race") refl refl
    by_test false = nothing

line_writes : (it : Option Step) → Writes (step_line_if it) (step_and it [])
line_writes None = nothing
line_writes (Some it) = one_step it

lines_write : (race : Race) (count : ℕ) → Writes (before_text race count) (steps_before race count)
unfolding before_text steps_before
lines_write race zero = nothing
lines_write race (suc place) =
    both (before_text race place) (step_line_if (step_before race place)) (steps_before race place) (step_and (step_before race place) [])
    (lines_write race place) (line_writes (step_before race place))

-- ---- The whole

-- behind the config
behind_config : Race → List (Vec ℕ Global) → List Choice → List ℕ
behind_config race threads choices =
    (heading race.before ++ before_text race race.before) ++ moves_text race threads (Some (start_of race)) choices

steps_write : (race : Race) (threads : List (Vec ℕ Global)) → CleanNames threads → (choices : List Choice)
    → Writes (behind_config race threads choices) (steps_of race choices)
unfolding behind_config
steps_write race threads clean choices =
    both (heading race.before ++ before_text race race.before) (moves_text race threads (Some (start_of race)) choices)
    (steps_before race race.before) (steps_from race (Some (start_of race)) choices)
    (both (heading race.before) (before_text race race.before) [] (steps_before race race.before)
    (heading_writes race.before) (lines_write race race.before))
    (moves_write race threads clean (Some (start_of race)) choices)

behind_it : (race : Race) (threads : List (Vec ℕ Global)) (choices : List Choice)
    → scenario_text race threads choices ≡ config_line race.config ++ behind_config race threads choices
unfolding behind_config
behind_it race threads choices =
    let first = config_line race.config in
    let second = heading race.before in
    let third = before_text race race.before in
    let fourth = moves_text race threads (Some (start_of race)) choices in
    ap (λ text. text ++ fourth) (append_assoc first second third) ∙ append_assoc first (second ++ third) fourth

-- the lines of the text
pub record IsScenario (race : Race) (threads : List (Vec ℕ Global)) (choices : List Choice) : Type 0 where
  pub lines : List (List ℕ)
  pub clean : Clean lines
  pub whole : scenario_text race threads choices ≡ written lines
  pub said : filter says lines ≡ plain_lines race.config (steps_of race choices)

pub scenario_writes : (race : Race) (threads : List (Vec ℕ Global)) → CleanNames threads → (choices : List Choice)
    → IsScenario race threads choices
scenario_writes race threads clean choices =
    let rest = steps_write race threads clean choices in
    let line = config_text race.config in
    let joined : config_line race.config ≡ ended line = ap ended (joined_line (codes "config") (
    decimal race.config.endpoints ∷ decimal race.config.frames ∷ decimal race.config.workers ∷ [])) in
    record {
      lines = line ∷ rest.lines;
      clean = (config_clean race.config, rest.clean);
      whole = behind_it race threads choices ∙ (λ i. joined i ++ rest.whole i);
      said =
          ap (λ t. cond (not t) (line ∷ filter says rest.lines) (filter says rest.lines)) (config_said race.config)
          ∙ ap (λ more. line ∷ more) rest.said;
    }
