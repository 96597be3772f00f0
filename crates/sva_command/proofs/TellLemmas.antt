-- Words ask for one command, and clap enters that.
use Rattle.std.proofs.Common.{◌≡◌, inl, inr, refl, sym, subst, ap, ◌∙◌, ℕ, Bool, true, false, List, [], ◌∷◌, ◌++◌, Some, codes}
use Rattle.std.proofs.Common.{unwrap_or, IfOk, Result, Ok, Err}
use Rattle.std.specs.Str.{bytes_eq}
use Rattle.std.proofs.lemmas.Slice.Eq.{bytes_eq-Decides}
use Rattle.std.specs.Str.Parse.{digits_value, without_leading_plus}
use Rattle.clap.specs.Words.{FailsBy, HasKind, IsAmong, IsUnsignedIn, Kinds, Text, built, fault_of}
use Rattle.clap.specs.Kinds.{or_else}
use Rattle.clap.specs.Simple.{HasMatchesOf, entered, subcommand_of, subcommand_rows_of}
use Rattle.clap.specs.declared.error.Error.{Error}
use Rattle.clap.specs.declared.error.kind.ErrorKind.{ErrorKind}
use Rattle.clap.specs.declared.parser.matches.ArgMatches.{ArgMatches}
use Rattle.clap.specs.Walk.{rows_after, nothing_held, walk_from}
use Rattle.clap.proofs.OnLiterals.{clap_on_literals}
use Rattle.clap.proofs.ValueTestLemmas.{accepts-Accepts}
use Rattle.sva_command.specs.declared.command.Asked.{Asked}
use Rattle.sva_command.specs.declared.command.Asked.TheVariants.{Replay, Check, Storm, Plain, Test, Show, Why, Chart, Explore, Judge, Trace}
use Rattle.sva_command.specs.declared.command.Beside.{Beside}
use Rattle.sva_command.specs.Command.{beside_in}
use Rattle.sva_command.specs.Command.{Asks, AsksRun, Enters, faults_of, GivesTurns, IsCommand, IsReadable, apart, asked_by, attached, chart_shape}
use Rattle.sva_command.specs.Command.{explore_shape, is_given, judge_shape, most_by, most_text, own_faults, svahost, trace_shape, turns_by, turns_text, usual}
use Rattle.sva_command.proofs.TakenLemmas.{found, text_accepted, text_of}
use Rattle.sva_command.proofs.TurnLemmas.{is_accepted, parser, rules as storm_rules}
use Rattle.sva_command.proofs.LineLemmas.{Bare, word_of, asked_of, storm, chart, explore, judge, trace, gathers}
use Rattle.sva_command.proofs.FlagLemmas.{left, right}
use Rattle.sva_command.proofs.LineLemmas.{asks_run, given_taken, taken_words}
use Rattle.sva_command.proofs.LineLemmas.Bare.{replaying, checking, printing, testing, showing, explaining}

-- ---- which command the words ask for

-- what clap's definitions enter tells of this command alone
abbrev Tells : Asked → List Text → Type 0
Tells asked words = (asked_by (subcommand_of svahost words) ≡ asked) × IsReadable (subcommand_of svahost words)

-- a command of another name isn't `storm`
is_other : (word : Text) → bytes_eq word storm ≡ false → word ≡ storm → ⊥
is_other word differ same = let equal = (bytes_eq-Decides word storm).1 same in cc

tells_bare : (bare : Bare) (name : Text) → Tells (asked_of bare) (name ∷ word_of bare ∷ [])
unfolding clap_on_literals
tells_bare replaying name = (refl, λ is_storm. absurd (is_other (word_of replaying) refl is_storm))
tells_bare checking name = (refl, λ is_storm. absurd (is_other (word_of checking) refl is_storm))
tells_bare printing name = (refl, λ is_storm. absurd (is_other (word_of printing) refl is_storm))
tells_bare testing name = (refl, λ is_storm. absurd (is_other (word_of testing) refl is_storm))
tells_bare showing name = (refl, λ is_storm. absurd (is_other (word_of showing) refl is_storm))
tells_bare explaining name = (refl, λ is_storm. absurd (is_other (word_of explaining) refl is_storm))

tells_bare_dashes : (bare : Bare) (name : Text) → Tells (asked_of bare) (name ∷ word_of bare ∷ codes "--" ∷ [])
unfolding clap_on_literals
tells_bare_dashes replaying name = (refl, λ is_storm. absurd (is_other (word_of replaying) refl is_storm))
tells_bare_dashes checking name = (refl, λ is_storm. absurd (is_other (word_of checking) refl is_storm))
tells_bare_dashes printing name = (refl, λ is_storm. absurd (is_other (word_of printing) refl is_storm))
tells_bare_dashes testing name = (refl, λ is_storm. absurd (is_other (word_of testing) refl is_storm))
tells_bare_dashes showing name = (refl, λ is_storm. absurd (is_other (word_of showing) refl is_storm))
tells_bare_dashes explaining name = (refl, λ is_storm. absurd (is_other (word_of explaining) refl is_storm))

bare_tells : (bare : Bare) (words : List Text) → IsCommand (word_of bare) words → Tells (asked_of bare) words
bare_tells bare words (name, inl e) = subst (Tells (asked_of bare)) (sym e) (tells_bare bare name)
bare_tells bare words (name, inr e) = subst (Tells (asked_of bare)) (sym e) (tells_bare_dashes bare name)

enters_explore : (name : Text) (words : List Text)
    → subcommand_of svahost (name ∷ explore ∷ words) ≡ Some (explore, rows_after explore_shape.rules [] words)
unfolding clap_on_literals
enters_explore name words = ap (entered (built svahost)) (gathers explore [] words (walk_from nothing_held))

enters_judge : (name : Text) (words : List Text)
    → subcommand_of svahost (name ∷ judge ∷ words) ≡ Some (judge, rows_after judge_shape.rules [] words)
unfolding clap_on_literals
enters_judge name words = ap (entered (built svahost)) (gathers judge [] words (walk_from nothing_held))

enters_trace : (name : Text) (words : List Text) → subcommand_of svahost (name ∷ trace ∷ words) ≡ Some (trace, rows_after trace_shape.rules [] words)
unfolding clap_on_literals
enters_trace name words = ap (entered (built svahost)) (gathers trace [] words (walk_from nothing_held))

enters_chart : (name : Text) (words : List Text) → subcommand_of svahost (name ∷ chart ∷ words) ≡ Some (chart, rows_after chart_shape.rules [] words)
unfolding clap_on_literals
enters_chart name words = ap (entered (built svahost)) (gathers chart [] words (walk_from nothing_held))

enters_storm : (name : Text) (words : List Text) → subcommand_of svahost (name ∷ storm ∷ words) ≡ Some (storm, rows_after storm_rules [] words)
unfolding clap_on_literals
enters_storm name words = ap (entered (built svahost)) (gathers storm [] words (walk_from nothing_held))

given_number : (turns : ℕ) (rest : List Text) (given : GivesTurns turns rest)
    → digits_value 10 (without_leading_plus (text_of rest (given_taken turns rest given))) ≡ turns
unfolding given_taken
given_number turns rest (usual none e) = sym e
given_number turns rest (apart text is w) = sym w.1
given_number turns rest (attached text is w) = sym w.1

tells_storm : (name text : Text) (turns : ℕ) (words : List Text) → turns_text (rows_after storm_rules [] words) ≡ Some text → is_accepted text ≡ true
    → digits_value 10 (without_leading_plus text) ≡ turns
    → Tells (Storm turns) (name ∷ storm ∷ words)
tells_storm name text turns words is e number =
    let enters = enters_storm name words in (
      ap asked_by enters ∙ ap (λ found. Storm (turns_by found)) is ∙ ap Storm number,
      subst IsReadable (sym enters)
          (λ is_storm other same. subst (IsUnsignedIn 1 1000000) (ap (λ found. unwrap_or found text) (sym is ∙ same)) (accepts-Accepts false parser text e)),
    )

tells_explore : (name : Text) (rest : List Text) (most : ℕ) (whys few_ends : Bool) → most ≡ most_by (most_text (rows_after explore_shape.rules [] rest))
    → whys ≡ is_given (codes "why") (rows_after explore_shape.rules [] rest) → few_ends ≡ is_given (codes "ends") (rows_after explore_shape.rules [] rest)
    → Tells (Explore most whys few_ends) (name ∷ explore ∷ rest)
tells_explore name rest most whys few_ends is are short =
    let enters = enters_explore name rest in (
      ap asked_by enters ∙ (λ i. Explore (sym is i) (sym are i) (sym short i)),
      subst IsReadable (sym enters) (λ is_storm. absurd (is_other explore refl is_storm)),
    )

tells_judge : (name : Text) (rest : List Text) (run : Bool) (most : ℕ) (strict all : Bool) (beside : Beside)
    → run ≡ is_given (codes "run") (rows_after judge_shape.rules [] rest)
    → most ≡ most_by (most_text (rows_after judge_shape.rules [] rest)) → strict ≡ is_given (codes "strict") (rows_after judge_shape.rules [] rest)
    → all ≡ is_given (codes "all") (rows_after judge_shape.rules [] rest) → beside ≡ beside_in (rows_after judge_shape.rules [] rest)
    → Tells (Judge run most strict all beside) (name ∷ judge ∷ rest)
tells_judge name rest run most strict all beside is are strictly each least =
    let enters = enters_judge name rest in (
      ap asked_by enters ∙ (λ i. Judge (sym is i) (sym are i) (sym strictly i) (sym each i) (sym least i)),
      subst IsReadable (sym enters) (λ is_storm. absurd (is_other judge refl is_storm)),
    )

tells_trace : (name : Text) (rest : List Text) (live whys : Bool) → live ≡ is_given (codes "live") (rows_after trace_shape.rules [] rest)
    → whys ≡ is_given (codes "why") (rows_after trace_shape.rules [] rest) → Tells (Trace live whys) (name ∷ trace ∷ rest)
tells_trace name rest live whys is are =
    let enters = enters_trace name rest in
    (ap asked_by enters ∙ (λ i. Trace (sym is i) (sym are i)), subst IsReadable (sym enters) (λ is_storm. absurd (is_other trace refl is_storm)))

tells_chart : (name : Text) (rest : List Text) (svg : Bool) → svg ≡ is_given (codes "svg") (rows_after chart_shape.rules [] rest)
    → Tells (Chart svg) (name ∷ chart ∷ rest)
tells_chart name rest svg is =
    let enters = enters_chart name rest in
    (ap asked_by enters ∙ ap Chart (sym is), subst IsReadable (sym enters) (λ is_storm. absurd (is_other chart refl is_storm)))

tells : (asked : Asked) (words : List Text) → Enters asked words → Tells asked words
tells Replay words is = bare_tells replaying words is
tells Check words is = bare_tells checking words is
tells Plain words is = bare_tells printing words is
tells Test words is = bare_tells testing words is
tells Show words is = bare_tells showing words is
tells Why words is = bare_tells explaining words is
tells (Chart svg) words (name, rest, given, e) = subst (Tells (Chart svg)) (sym e) (tells_chart name rest svg given.1)
tells (Explore most whys few_ends) words (name, rest, given, e) =
    subst (Tells (Explore most whys few_ends)) (sym e) (tells_explore name rest most whys few_ends given.1 given.2 given.3)
tells (Judge run most strict all beside) words (name, rest, given, e) =
    subst (Tells (Judge run most strict all beside)) (sym e)
    (tells_judge name rest run most strict all beside given.1 given.2 given.3 given.4 given.5)
tells (Trace live whys) words (name, rest, given, e) = subst (Tells (Trace live whys)) (sym e) (tells_trace name rest live whys given.1 given.2)
tells (Storm turns) words (name, rest, given, inl e) =
    let t = given_taken turns rest given in
    subst (Tells (Storm turns)) (sym e)
    (tells_storm name (text_of rest t) turns rest (found rest t).0 (text_accepted rest t) (given_number turns rest given))
tells (Storm turns) words (name, rest, given, inr e) =
    let t = given_taken turns rest given in
    subst (Tells (Storm turns)) (sym e)
    (tells_storm name (text_of rest t) turns (rest ++ codes "--" ∷ []) (found rest t).1 (text_accepted rest t) (given_number turns rest given))

-- where clap finds no fault, the words ask for the command that was made of what it entered
pub asks_entered : (words : List Text) (m : ArgMatches) (asked : Asked) → fault_of svahost words ≡ [] → HasMatchesOf svahost words m
    → (IsReadable (subcommand_rows_of m) → asked ≡ asked_by (subcommand_rows_of m))
    → Enters asked words × (asked ≡ asked_by (subcommand_of svahost words))
unfolding clap_on_literals
asks_entered words m asked none has made =
    let run = asks_run words none in
    let told = tells run.0 words run.1 in
    let same = (has refl).1 in
    let is = made (subst IsReadable (sym same) told.1) ∙ ap asked_by same in
    (subst (λ a. Enters a words) (sym (is ∙ told.0)) run.1, is)

-- no words ask for two commands
pub one_alone : (asked other : Asked) (words : List Text) → Asks asked words → Asks other words → asked ≡ other
one_alone asked other words p q = sym (tells asked words p.0).0 ∙ (tells other words q.0).0

-- ---- the faults of words

-- where clap finds none, they are those of the command
pub own_alone : (words : List Text) → fault_of svahost words ≡ [] → faults_of words ≡ own_faults (asked_by (subcommand_of svahost words))
unfolding faults_of
own_alone words none = ap (λ kinds. or_else kinds (own_faults (asked_by (subcommand_of svahost words)))) none

-- what asks for a command has none
pub takes : (asked : Asked) (words : List Text) → Asks asked words → faults_of words ≡ []
takes asked words asks =
    own_alone words (taken_words asked words asks.0) ∙ ap own_faults (tells asked words asks.0).0 ∙ asks.1

-- and what has none asks for a command
pub asked_after_all : (words : List Text) → (AsksRun words → ⊥) → faults_of words ≡ [] → ⊥
unfolding faults_of
asked_after_all words other none =
    let run = asks_run words (left (fault_of svahost words) (own_faults (asked_by (subcommand_of svahost words))) none) in
    let own = right (fault_of svahost words) (own_faults (asked_by (subcommand_of svahost words))) none in
    other (run.0, (run.1, ap own_faults (sym (tells run.0 words run.1).0) ∙ own))

among_first : (kind : ErrorKind) (kinds other : Kinds) → IsAmong kind kinds → IsAmong kind (or_else kinds other)
among_first kind [] other among = absurd among
among_first kind (first ∷ rest) other among = among

-- those that clap finds are among them
pub faulted : (words : List Text) (error : Error) → HasKind (fault_of svahost words) error → HasKind (faults_of words) error
unfolding faults_of
faulted words error (inl memory) = inl memory
faulted words error (inr among) = inr (among_first _ (fault_of svahost words) _ among)

-- the command is asked for where it can be meant
pub asked_meant : (words : List Text) (entered : Asked) (result : Result Asked Error) → Enters entered words → FailsBy (own_faults entered) result
    → IfOk result (λ meant. meant ≡ entered)
    → IfOk result (λ asked. Asks asked words)
asked_meant words entered (Ok meant) enters none is = subst (λ asked. Asks asked words) (sym is) (enters, none)
asked_meant words entered (Err error) enters fails is = tt
