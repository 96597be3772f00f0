-- clap takes a command that has no arguments alone, and with `--` behind, `storm` with what `TurnLemmas` says, and `chart`, `explore`,
-- `judge` and `trace` with what their own definitions say: each other list of words has a fault.
use Rattle.std.proofs.Common.{◌≡◌, ◌⊎◌, inl, inr, refl, sym, subst, ap, ◌∙◌, ℕ, Bool, true, false, List, [], ◌∷◌, ◌++◌, Option, Some, None, codes}
use Rattle.std.proofs.Common.{length, cond, option_map, fold, ◌||◌, ◌<◌, append-nil, append_assoc, arith}
use Rattle.std.specs.Prelude.{is_some}
use Rattle.std.specs.Str.{bytes_eq}
use Rattle.std.specs.Str.Parse.{digits_value, without_leading_plus}
use Rattle.clap.specs.Words.{Text, built, fault_of}
use Rattle.clap.specs.Kinds.{Kinds, or_else}
use Rattle.clap.specs.Simple.{entered, names_of}
use Rattle.clap.specs.Faults.{check_fault, defaults_fault, settle_fault}
use Rattle.clap.specs.Faults.{entered_fault, is_simple_and_free, level_fault, other_fault, step_fault, turn_fault, walk_fault}
use Rattle.clap.specs.Walk.{finished, settled, rows_after, Names, Walk, answers_to, idle, nothing_held, subcommand_or_other, walk_from, walked}
use Rattle.clap.proofs.OnLiterals.{clap_on_literals}
use Rattle.clap.proofs.ValueTestLemmas.{Accepts-accepts, accepts-Accepts}
use Rattle.sva_command.specs.declared.command.Asked.{Asked}
use Rattle.sva_command.specs.declared.command.Asked.TheVariants.{Replay, Check, Storm, Plain, Test, Show, Why, Chart, Explore, Judge, Trace}
use Rattle.sva_command.specs.Command.{beside_in}
use Rattle.sva_command.specs.Command.{Enters, GivesTurns, IsCommand, WritesTurns, apart, attached, chart_shape, is_given}
use Rattle.sva_command.specs.Command.{explore_shape, judge_shape, most_by, most_text, svahost, trace_shape, usual}
use Rattle.sva_command.proofs.FlagLemmas.{dashes, is_word, leaf_words, left, right, top, tops, tops_ask}
use Rattle.sva_command.proofs.TurnLemmas.{IsTaken, taken_apart, taken_attached, taken_nothing}
use Rattle.sva_command.proofs.TakenLemmas.{apart_taken, apart_taken_dashes, attached_taken, attached_taken_dashes}
use Rattle.sva_command.proofs.TurnLemmas.{is_accepted, leaf as storm_leaf, parser, taken}

-- ---- the words of the program

-- a command that takes no arguments
pub data Bare : Type 0 where
  replaying : Bare
  checking : Bare
  printing : Bare
  testing : Bare
  showing : Bare
  explaining : Bare

abbrev pub word_of : Bare → Text
word_of replaying = codes "replay"
word_of checking = codes "check"
word_of printing = codes "plain"
word_of testing = codes "test"
word_of showing = codes "show"
word_of explaining = codes "why"

abbrev pub asked_of : Bare → Asked
asked_of replaying = Replay
asked_of checking = Check
asked_of printing = Plain
asked_of testing = Test
asked_of showing = Show
asked_of explaining = Why

abbrev pub storm : Text
storm = codes "storm"

abbrev pub chart : Text
chart = codes "chart"

abbrev pub explore : Text
explore = codes "explore"

abbrev pub judge : Text
judge = codes "judge"

abbrev pub trace : Text
trace = codes "trace"

abbrev names : Names
names = names_of (built svahost)

-- the command that a word names, by which of their names it is
abbrev met_by : Bool → Bool → Bool → Bool → Bool → Bool → Bool → Bool → Bool → Bool → Bool → Option Text
met_by a b c d e f g h x j i =
    option_map {T = Text × List Text} (λ s. s.0) (cond a (Some (word_of replaying, [])) (cond b (Some (word_of checking, [])) (cond c (Some (storm, []))
    (cond d (Some (word_of printing, [])) (cond e (Some (word_of testing, [])) (cond f (Some (word_of showing, []))
    (cond g (Some (word_of explaining, [])) (cond h (Some (chart, [])) (cond x (Some (explore, []))
    (cond j (Some (judge, [])) (cond i (Some (trace, [])) None)))))))))))

-- the first word is the name of a command, or `--`
data IsFirst (word : Text) : Type 0 where
  is_bare : (bare : Bare) → word ≡ word_of bare → IsFirst word
  is_storm : word ≡ storm → IsFirst word
  is_chart : word ≡ chart → IsFirst word
  is_explore : word ≡ explore → IsFirst word
  is_judge : word ≡ judge → IsFirst word
  is_trace : word ≡ trace → IsFirst word
  is_dashes : word ≡ codes "--" → IsFirst word

or_false : (b : Bool) → (b || false) ≡ true → b ≡ true
or_false true e = refl
or_false false e = e

named : (name word : Text) → answers_to word (name, []) ≡ true → word ≡ name
named name word met = sym (is_word name word (or_false _ met))

command_or_dashes : (a b c d f g y z q l h : Bool) (word : Text)
    → (a ≡ true → word ≡ word_of replaying)
    → (b ≡ true → word ≡ word_of checking)
    → (c ≡ true → word ≡ storm)
    → (d ≡ true → word ≡ word_of printing)
    → (f ≡ true → word ≡ word_of testing)
    → (g ≡ true → word ≡ word_of showing)
    → (y ≡ true → word ≡ word_of explaining)
    → (z ≡ true → word ≡ chart)
    → (q ≡ true → word ≡ explore)
    → (l ≡ true → word ≡ judge)
    → (h ≡ true → word ≡ trace)
    → or_else (other_fault top (met_by a b c d f g y z q l h) word nothing_held)
    (step_fault top 1 (subcommand_or_other top.rules (met_by a b c d f g y z q l h) idle 1 word nothing_held).0
    (subcommand_or_other top.rules (met_by a b c d f g y z q l h) idle 1 word nothing_held).1) ≡ []
    → IsFirst word
command_or_dashes true b c d f g y z q l h word r k s p t w v x m o u e = is_bare replaying (r refl)
command_or_dashes false true c d f g y z q l h word r k s p t w v x m o u e = is_bare checking (k refl)
command_or_dashes false false true d f g y z q l h word r k s p t w v x m o u e = is_storm (s refl)
command_or_dashes false false false true f g y z q l h word r k s p t w v x m o u e = is_bare printing (p refl)
command_or_dashes false false false false true g y z q l h word r k s p t w v x m o u e = is_bare testing (t refl)
command_or_dashes false false false false false true y z q l h word r k s p t w v x m o u e = is_bare showing (w refl)
command_or_dashes false false false false false false true z q l h word r k s p t w v x m o u e = is_bare explaining (v refl)
command_or_dashes false false false false false false false true q l h word r k s p t w v x m o u e = is_chart (x refl)
command_or_dashes false false false false false false false false true l h word r k s p t w v x m o u e = is_explore (m refl)
command_or_dashes false false false false false false false false false true h word r k s p t w v x m o u e = is_judge (o refl)
command_or_dashes false false false false false false false false false false true word r k s p t w v x m o u e = is_trace (u refl)
command_or_dashes false false false false false false false false false false false word r k s p t w v x m o u e =
    is_dashes (is_word _ _ (dashes tops tops_ask top (bytes_eq word (codes "--")) word e))

top_first : (word : Text) → turn_fault top names (walk_from nothing_held) word ≡ [] → IsFirst word
top_first word e =
    command_or_dashes (answers_to word (word_of replaying, [])) (answers_to word (word_of checking, [])) (answers_to word (storm, []))
    (answers_to word (word_of printing, [])) (answers_to word (word_of testing, [])) (answers_to word (word_of showing, []))
    (answers_to word (word_of explaining, [])) (answers_to word (chart, [])) (answers_to word (explore, [])) (answers_to word (judge, []))
    (answers_to word (trace, [])) word
    (named (word_of replaying) word) (named (word_of checking) word) (named storm word) (named (word_of printing) word) (named (word_of testing) word)
    (named (word_of showing) word) (named (word_of explaining) word) (named chart word) (named explore word) (named judge word)
    (named trace word) e

none_behind_top : (rest : List Text) → walk_fault top names (walked top.rules names (walk_from nothing_held) (codes "--")) rest ≡ [] → rest ≡ []
unfolding clap_on_literals
none_behind_top [] e = refl
none_behind_top (word ∷ rest) e = cc e

-- the words behind a subcommand are its own
gathers_all : (name : Text) (got rest : List Text) (w : Walk)
    → fold (walked top.rules names) (record w { stopped = Some (name, got) }) rest ≡ record w { stopped = Some (name, got ++ rest) }
unfolding clap_on_literals
gathers_all name got [] w = ap (λ l. record w { stopped = Some (name, l) }) (sym (append-nil got))
gathers_all name got (word ∷ rest) w =
    gathers_all name (got ++ word ∷ []) rest w ∙ ap (λ l. record w { stopped = Some (name, l) }) (append_assoc got (word ∷ []) rest)

pub gathers : (name : Text) (got rest : List Text) (w : Walk)
    → (fold (walked top.rules names) (record w { stopped = Some (name, got) }) rest).stopped ≡ Some (name, got ++ rest)
gathers name got rest w = ap (λ (end : Walk). end.stopped) (gathers_all name got rest w)

-- `--` alone names no command
dashes_alone : (name : Text) → fault_of svahost (name ∷ codes "--" ∷ []) ≡ [] → ⊥
unfolding clap_on_literals
dashes_alone name e = cc e

-- what a command comes to whose words are gathered
bare_level : (bare : Bare) (name : Text) (rest : List Text) → fault_of svahost (name ∷ word_of bare ∷ rest) ≡ []
    → entered_fault (built svahost) (fold (walked top.rules names) (record (walk_from nothing_held) { stopped = Some (word_of bare, []) }) rest).stopped ≡ []
unfolding clap_on_literals
bare_level replaying name rest e = left _ _ (right _ _ e)
bare_level checking name rest e = left _ _ (right _ _ e)
bare_level printing name rest e = left _ _ (right _ _ e)
bare_level testing name rest e = left _ _ (right _ _ e)
bare_level showing name rest e = left _ _ (right _ _ e)
bare_level explaining name rest e = left _ _ (right _ _ e)

bare_leaf : (bare : Bare) (rest : List Text) → entered_fault (built svahost) (Some (word_of bare, rest)) ≡ []
    → (rest ≡ []) ⊎ (rest ≡ codes "--" ∷ [])
unfolding clap_on_literals
bare_leaf replaying rest e = leaf_words rest e
bare_leaf checking rest e = leaf_words rest e
bare_leaf printing rest e = leaf_words rest e
bare_leaf testing rest e = leaf_words rest e
bare_leaf showing rest e = leaf_words rest e
bare_leaf explaining rest e = leaf_words rest e

bare_words : (bare : Bare) (name : Text) (rest : List Text) → fault_of svahost (name ∷ word_of bare ∷ rest) ≡ []
    → (rest ≡ []) ⊎ (rest ≡ codes "--" ∷ [])
bare_words bare name rest e =
    let stop = gathers (word_of bare) [] rest (walk_from nothing_held) in
    bare_leaf bare rest (subst (λ stop. entered_fault (built svahost) stop ≡ []) stop (bare_level bare name rest e))

chart_level : (name : Text) (rest : List Text) → fault_of svahost (name ∷ chart ∷ rest) ≡ [] → level_fault chart_shape [] nothing_held rest false [] ≡ []
unfolding clap_on_literals
chart_level name rest e =
    let stop = gathers chart [] rest (walk_from nothing_held) in
    subst (λ stop. entered_fault (built svahost) stop ≡ []) stop (left _ _ (right _ _ e))

explore_level : (name : Text) (rest : List Text) → fault_of svahost (name ∷ explore ∷ rest) ≡ []
    → level_fault explore_shape [] nothing_held rest false [] ≡ []
unfolding clap_on_literals
explore_level name rest e =
    let stop = gathers explore [] rest (walk_from nothing_held) in
    subst (λ stop. entered_fault (built svahost) stop ≡ []) stop (left _ _ (right _ _ e))

judge_level : (name : Text) (rest : List Text) → fault_of svahost (name ∷ judge ∷ rest) ≡ []
    → level_fault judge_shape [] nothing_held rest false [] ≡ []
unfolding clap_on_literals
judge_level name rest e =
    let stop = gathers judge [] rest (walk_from nothing_held) in
    subst (λ stop. entered_fault (built svahost) stop ≡ []) stop (left _ _ (right _ _ e))

trace_level : (name : Text) (rest : List Text) → fault_of svahost (name ∷ trace ∷ rest) ≡ [] → level_fault trace_shape [] nothing_held rest false [] ≡ []
unfolding clap_on_literals
trace_level name rest e =
    let stop = gathers trace [] rest (walk_from nothing_held) in
    subst (λ stop. entered_fault (built svahost) stop ≡ []) stop (left _ _ (right _ _ e))

storm_level : (name : Text) (rest : List Text) → fault_of svahost (name ∷ storm ∷ rest) ≡ [] → level_fault storm_leaf [] nothing_held rest false [] ≡ []
unfolding clap_on_literals
storm_level name rest e =
    let stop = gathers storm [] rest (walk_from nothing_held) in
    subst (λ stop. entered_fault (built svahost) stop ≡ []) stop (left _ _ (right _ _ e))

pub no_words : (words : List Text) → length words < 2 → fault_of svahost words ≡ [] → ⊥
unfolding clap_on_literals
no_words [] short e = cc e
no_words (name ∷ []) short e = cc e
no_words (name ∷ word ∷ rest) short e = absurd (omega (arith, short))

-- a number of turns is what a text that clap accepts writes
writes : (text : Text) → is_accepted text ≡ true → WritesTurns (digits_value 10 (without_leading_plus text)) text
writes text e = (accepts-Accepts false parser text e, refl)

gives : (rest : List Text) → IsTaken rest → (turns : ℕ) × GivesTurns turns rest
gives rest (taken_nothing none) = (10000, usual none refl)
gives rest (taken_apart text is e) = (digits_value 10 (without_leading_plus text), apart text is (writes text e))
gives rest (taken_attached text is e) = (digits_value 10 (without_leading_plus text), attached text is (writes text e))

-- by clap's definitions the words ask for a command
abbrev pub EntersRun : List Text → Type 0
EntersRun words = (asked : Asked) × Enters asked words

asks_bare : (bare : Bare) (words : List Text) → IsCommand (word_of bare) words → EntersRun words
asks_bare replaying words is = (Replay, is)
asks_bare checking words is = (Check, is)
asks_bare printing words is = (Plain, is)
asks_bare testing words is = (Test, is)
asks_bare showing words is = (Show, is)
asks_bare explaining words is = (Why, is)

asks_command : (command name : Text) (rest : List Text) → (rest ≡ []) ⊎ (rest ≡ codes "--" ∷ []) → IsCommand command (name ∷ command ∷ rest)
asks_command command name rest (inl none) = (name, inl (ap (λ r. name ∷ command ∷ r) none))
asks_command command name rest (inr one) = (name, inr (ap (λ r. name ∷ command ∷ r) one))

asks_storm : (name : Text) (words rest : List Text) → (turns : ℕ) × GivesTurns turns rest → (words ≡ rest) ⊎ (words ≡ rest ++ codes "--" ∷ [])
    → EntersRun (name ∷ storm ∷ words)
asks_storm name words rest (turns, given) (inl e) = (Storm turns, (name, rest, given, inl (ap (λ r. name ∷ storm ∷ r) e)))
asks_storm name words rest (turns, given) (inr e) = (Storm turns, (name, rest, given, inr (ap (λ r. name ∷ storm ∷ r) e)))

-- where clap finds no fault, the words ask for a command
asks_first : (name word : Text) (rest : List Text) → IsFirst word → fault_of svahost (name ∷ word ∷ rest) ≡ [] → EntersRun (name ∷ word ∷ rest)
unfolding clap_on_literals
asks_first name word rest (is_bare bare is) e =
    let none = bare_words bare name rest (subst (λ w. fault_of svahost (name ∷ w ∷ rest) ≡ []) is e) in
    subst (λ w. EntersRun (name ∷ w ∷ rest)) (sym is) (asks_bare bare _ (asks_command (word_of bare) name rest none))
asks_first name word rest (is_chart is) e =
    let none = chart_level name rest (subst (λ w. fault_of svahost (name ∷ w ∷ rest) ≡ []) is e) in
    subst (λ w. EntersRun (name ∷ w ∷ rest)) (sym is) (Chart (is_given (codes "svg") (rows_after chart_shape.rules [] rest)), (name, rest, (none, refl), refl))
asks_first name word rest (is_explore is) e =
    let none = explore_level name rest (subst (λ w. fault_of svahost (name ∷ w ∷ rest) ≡ []) is e) in
    subst (λ w. EntersRun (name ∷ w ∷ rest)) (sym is) (
      Explore (most_by (most_text (rows_after explore_shape.rules [] rest))) (is_given (codes "why") (rows_after explore_shape.rules [] rest))
          (is_given (codes "ends") (rows_after explore_shape.rules [] rest)),
      (name, rest, (none, refl, refl, refl), refl),
    )
asks_first name word rest (is_judge is) e =
    let none = judge_level name rest (subst (λ w. fault_of svahost (name ∷ w ∷ rest) ≡ []) is e) in
    subst (λ w. EntersRun (name ∷ w ∷ rest)) (sym is) (
      Judge (is_given (codes "run") (rows_after judge_shape.rules [] rest)) (most_by (most_text (rows_after judge_shape.rules [] rest)))
          (is_given (codes "strict") (rows_after judge_shape.rules [] rest)) (is_given (codes "all") (rows_after judge_shape.rules [] rest))
          (beside_in (rows_after judge_shape.rules [] rest)),
      (name, rest, (none, refl, refl, refl, refl, refl), refl),
    )
asks_first name word rest (is_trace is) e =
    let none = trace_level name rest (subst (λ w. fault_of svahost (name ∷ w ∷ rest) ≡ []) is e) in
    subst (λ w. EntersRun (name ∷ w ∷ rest)) (sym is) (
      Trace (is_given (codes "live") (rows_after trace_shape.rules [] rest)) (is_given (codes "why") (rows_after trace_shape.rules [] rest)),
      (name, rest, (none, refl, refl), refl),
    )
asks_first name word rest (is_storm is) e =
    let found = taken rest (storm_level name rest (subst (λ w. fault_of svahost (name ∷ w ∷ rest) ≡ []) is e)) in
    subst (λ w. EntersRun (name ∷ w ∷ rest)) (sym is) (asks_storm name rest found.0 (gives found.0 found.1.0) found.1.1)
asks_first name word rest (is_dashes is) e =
    let none = none_behind_top rest
    (subst (λ w. walk_fault top names (walked top.rules names (walk_from nothing_held) w) rest ≡ []) is (right _ _ (left _ _ e))) in
    absurd (dashes_alone name (subst (λ w. fault_of svahost (name ∷ w ∷ []) ≡ []) is (subst (λ r. fault_of svahost (name ∷ word ∷ r) ≡ []) none e)))

first_is : (name word : Text) (rest : List Text) → fault_of svahost (name ∷ word ∷ rest) ≡ [] → IsFirst word
unfolding clap_on_literals
first_is name word rest e = top_first word (left _ _ (left _ _ e))

pub asks_run : (words : List Text) → fault_of svahost words ≡ [] → EntersRun words
asks_run [] e = absurd (no_words [] (omega arith) e)
asks_run (name ∷ []) e = absurd (no_words (name ∷ []) (omega arith) e)
asks_run (name ∷ word ∷ rest) e = asks_first name word rest (first_is name word rest e) e

-- and where they do, it finds none
unfoldable pub given_taken : (turns : ℕ) (rest : List Text) → GivesTurns turns rest → IsTaken rest
given_taken turns rest (usual none e) = taken_nothing none
given_taken turns rest (apart text is w) = taken_apart text is (Accepts-accepts false parser text w.0)
given_taken turns rest (attached text is w) = taken_attached text is (Accepts-accepts false parser text w.0)

abbrev IsUnfaulted : Text → List Text → Type 0
IsUnfaulted name rest = (fault_of svahost (name ∷ storm ∷ rest) ≡ []) × (fault_of svahost (name ∷ storm ∷ rest ++ codes "--" ∷ []) ≡ [])

nothing_unfaulted : (name : Text) → IsUnfaulted name []
unfolding clap_on_literals
nothing_unfaulted name = (refl, refl)

apart_unfaulted : (name text : Text) → is_accepted text ≡ true → IsUnfaulted name (codes "--turns" ∷ text ∷ [])
unfolding clap_on_literals
apart_unfaulted name text e = (ap (λ k. or_else k []) (apart_taken text e), ap (λ k. or_else k []) (apart_taken_dashes text e))

attached_unfaulted : (name text : Text) → is_accepted text ≡ true → IsUnfaulted name ((codes "--turns=" ++ text) ∷ [])
unfolding clap_on_literals
attached_unfaulted name text e = (ap (λ k. or_else k []) (attached_taken text e), ap (λ k. or_else k []) (attached_taken_dashes text e))

unfaulted : (name : Text) (rest : List Text) → IsTaken rest → IsUnfaulted name rest
unfaulted name rest (taken_nothing none) = subst (IsUnfaulted name) (sym none) (nothing_unfaulted name)
unfaulted name rest (taken_apart text is e) = subst (IsUnfaulted name) (sym is) (apart_unfaulted name text e)
unfaulted name rest (taken_attached text is e) = subst (IsUnfaulted name) (sym is) (attached_unfaulted name text e)

takes_bare : (bare : Bare) (name : Text) → fault_of svahost (name ∷ word_of bare ∷ []) ≡ []
unfolding clap_on_literals
takes_bare replaying name = refl
takes_bare checking name = refl
takes_bare printing name = refl
takes_bare testing name = refl
takes_bare showing name = refl
takes_bare explaining name = refl

takes_bare_dashes : (bare : Bare) (name : Text) → fault_of svahost (name ∷ word_of bare ∷ codes "--" ∷ []) ≡ []
unfolding clap_on_literals
takes_bare_dashes replaying name = refl
takes_bare_dashes checking name = refl
takes_bare_dashes printing name = refl
takes_bare_dashes testing name = refl
takes_bare_dashes showing name = refl
takes_bare_dashes explaining name = refl

taken_bare : (bare : Bare) (words : List Text) → IsCommand (word_of bare) words → fault_of svahost words ≡ []
taken_bare bare words (name, inl e) = subst (λ w. fault_of svahost w ≡ []) (sym e) (takes_bare bare name)
taken_bare bare words (name, inr e) = subst (λ w. fault_of svahost w ≡ []) (sym e) (takes_bare_dashes bare name)

-- none of them is at fault before the command has them all
gathered_unfaulted : (name : Text) (got rest : List Text) (w : Walk)
    → walk_fault (built svahost).top (names_of (built svahost)) (record w { stopped = Some (name, got) }) rest ≡ []
unfolding clap_on_literals
gathered_unfaulted name got [] w = refl
gathered_unfaulted name got (word ∷ rest) w = gathered_unfaulted name (got ++ word ∷ []) rest w

-- the faults behind the last word
abbrev behind_words : Walk → Kinds
behind_words end =
    or_else (entered_fault (built svahost) end.stopped)
    (or_else (settle_fault top.rules top.args_override_self end.held)
    (or_else (defaults_fault (settled top.rules end.held).rows top.rules)
    (check_fault top (finished top.rules end.held) (is_some (entered (built svahost) end.stopped)))))

takes_explore : (name : Text) (rest : List Text) → level_fault explore_shape [] nothing_held rest false [] ≡ []
    → fault_of svahost (name ∷ explore ∷ rest) ≡ []
unfolding clap_on_literals
takes_explore name rest e =
    let first = record (walk_from nothing_held) { stopped = Some (explore, []) } in
    ap (λ k. or_else k (behind_words (fold (walked top.rules names) first rest))) (gathered_unfaulted explore [] rest (walk_from nothing_held))
    ∙ ap behind_words (gathers_all explore [] rest (walk_from nothing_held)) ∙ ap (λ k. or_else k []) e

takes_judge : (name : Text) (rest : List Text) → level_fault judge_shape [] nothing_held rest false [] ≡ []
    → fault_of svahost (name ∷ judge ∷ rest) ≡ []
unfolding clap_on_literals
takes_judge name rest e =
    let first = record (walk_from nothing_held) { stopped = Some (judge, []) } in
    ap (λ k. or_else k (behind_words (fold (walked top.rules names) first rest))) (gathered_unfaulted judge [] rest (walk_from nothing_held))
    ∙ ap behind_words (gathers_all judge [] rest (walk_from nothing_held)) ∙ ap (λ k. or_else k []) e

takes_trace : (name : Text) (rest : List Text) → level_fault trace_shape [] nothing_held rest false [] ≡ [] → fault_of svahost (name ∷ trace ∷ rest) ≡ []
unfolding clap_on_literals
takes_trace name rest e =
    let first = record (walk_from nothing_held) { stopped = Some (trace, []) } in
    ap (λ k. or_else k (behind_words (fold (walked top.rules names) first rest))) (gathered_unfaulted trace [] rest (walk_from nothing_held))
    ∙ ap behind_words (gathers_all trace [] rest (walk_from nothing_held)) ∙ ap (λ k. or_else k []) e

takes_chart : (name : Text) (rest : List Text) → level_fault chart_shape [] nothing_held rest false [] ≡ [] → fault_of svahost (name ∷ chart ∷ rest) ≡ []
unfolding clap_on_literals
takes_chart name rest e =
    let first = record (walk_from nothing_held) { stopped = Some (chart, []) } in
    ap (λ k. or_else k (behind_words (fold (walked top.rules names) first rest))) (gathered_unfaulted chart [] rest (walk_from nothing_held))
    ∙ ap behind_words (gathers_all chart [] rest (walk_from nothing_held)) ∙ ap (λ k. or_else k []) e

pub taken_words : (asked : Asked) (words : List Text) → Enters asked words → fault_of svahost words ≡ []
taken_words Replay words is = taken_bare replaying words is
taken_words Check words is = taken_bare checking words is
taken_words Plain words is = taken_bare printing words is
taken_words Test words is = taken_bare testing words is
taken_words Show words is = taken_bare showing words is
taken_words Why words is = taken_bare explaining words is
taken_words (Chart svg) words (name, rest, given, e) = subst (λ w. fault_of svahost w ≡ []) (sym e) (takes_chart name rest given.0)
taken_words (Explore most whys few_ends) words (name, rest, given, e) = subst (λ w. fault_of svahost w ≡ []) (sym e) (takes_explore name rest given.0)
taken_words (Judge run most strict all beside) words (name, rest, given, e) = subst (λ w. fault_of svahost w ≡ []) (sym e) (takes_judge name rest given.0)
taken_words (Trace live whys) words (name, rest, given, e) = subst (λ w. fault_of svahost w ≡ []) (sym e) (takes_trace name rest given.0)
taken_words (Storm turns) words (name, rest, given, inl e) = subst (λ w. fault_of svahost w ≡ []) (sym e) (unfaulted name rest (given_taken turns rest given)).0
taken_words (Storm turns) words (name, rest, given, inr e) = subst (λ w. fault_of svahost w ≡ []) (sym e) (unfaulted name rest (given_taken turns rest given)).1

pub is_free : is_simple_and_free svahost ≡ true
unfolding clap_on_literals
is_free = refl
