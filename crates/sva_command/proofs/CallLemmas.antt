-- A call for help or for the version isn't mistaken, and a line with no command is.
use Rattle.std.proofs.Common.{◌≡◌, inl, inr, refl, subst, ap, ◌∙◌, List, [], ◌∷◌, codes, String, length, ◌<◌, arith}
use Rattle.clap.specs.Words.{IsAmong, Text, fault_of}
use Rattle.clap.specs.Kinds.{or_else}
use Rattle.clap.specs.Simple.{subcommand_of}
use Rattle.clap.proofs.OnLiterals.{clap_on_literals}
use Rattle.clap.specs.declared.error.kind.ErrorKind.{ErrorKind}
use Rattle.clap.specs.declared.error.kind.ErrorKind.TheVariants.{DisplayHelp, DisplayVersion, MissingSubcommand}
use Rattle.sva_command.specs.Command.{AsksText, asked_by, faults_of, CallsHelp, CallsVersion, IsMistaken, own_faults, svahost, texts}
use Rattle.sva_command.specs.Command.{behind_chart, behind_check, behind_explore, behind_judge, behind_plain, behind_replay}
use Rattle.sva_command.specs.Command.{behind_show, behind_storm, behind_test}
use Rattle.sva_command.specs.Command.{behind_trace, behind_why}
use Rattle.sva_command.specs.Command.{by_long, by_long_version, by_short, by_short_version}
use Rattle.sva_command.proofs.FlagLemmas.{left}
use Rattle.sva_command.proofs.LineLemmas.{no_words}

help_long : (name : Text) (rest : List Text) → fault_of svahost (name ∷ codes "--help" ∷ rest) ≡ DisplayHelp ∷ []
unfolding clap_on_literals
help_long name rest = refl

help_short : (name : Text) (rest : List Text) → fault_of svahost (name ∷ codes "-h" ∷ rest) ≡ DisplayHelp ∷ []
unfolding clap_on_literals
help_short name rest = refl

help_of_replay : (name : Text) → fault_of svahost (name ∷ codes "replay" ∷ codes "--help" ∷ []) ≡ DisplayHelp ∷ []
unfolding clap_on_literals
help_of_replay name = refl

help_of_check : (name : Text) → fault_of svahost (name ∷ codes "check" ∷ codes "--help" ∷ []) ≡ DisplayHelp ∷ []
unfolding clap_on_literals
help_of_check name = refl

help_of_plain : (name : Text) → fault_of svahost (name ∷ codes "plain" ∷ codes "--help" ∷ []) ≡ DisplayHelp ∷ []
unfolding clap_on_literals
help_of_plain name = refl

help_of_test : (name : Text) → fault_of svahost (name ∷ codes "test" ∷ codes "--help" ∷ []) ≡ DisplayHelp ∷ []
unfolding clap_on_literals
help_of_test name = refl

help_of_show : (name : Text) → fault_of svahost (name ∷ codes "show" ∷ codes "--help" ∷ []) ≡ DisplayHelp ∷ []
unfolding clap_on_literals
help_of_show name = refl

help_of_why : (name : Text) → fault_of svahost (name ∷ codes "why" ∷ codes "--help" ∷ []) ≡ DisplayHelp ∷ []
unfolding clap_on_literals
help_of_why name = refl

help_of_chart : (name : Text) → fault_of svahost (name ∷ codes "chart" ∷ codes "--help" ∷ []) ≡ DisplayHelp ∷ []
unfolding clap_on_literals
help_of_chart name = refl

help_of_explore : (name : Text) → fault_of svahost (name ∷ codes "explore" ∷ codes "--help" ∷ []) ≡ DisplayHelp ∷ []
unfolding clap_on_literals
help_of_explore name = refl

help_of_judge : (name : Text) → fault_of svahost (name ∷ codes "judge" ∷ codes "--help" ∷ []) ≡ DisplayHelp ∷ []
unfolding clap_on_literals
help_of_judge name = refl

help_of_trace : (name : Text) → fault_of svahost (name ∷ codes "trace" ∷ codes "--help" ∷ []) ≡ DisplayHelp ∷ []
unfolding clap_on_literals
help_of_trace name = refl

help_of_storm : (name : Text) → fault_of svahost (name ∷ codes "storm" ∷ codes "--help" ∷ []) ≡ DisplayHelp ∷ []
unfolding clap_on_literals
help_of_storm name = refl

version_long : (name : Text) (rest : List Text) → fault_of svahost (name ∷ codes "--version" ∷ rest) ≡ DisplayVersion ∷ []
unfolding clap_on_literals
version_long name rest = refl

version_short : (name : Text) (rest : List Text) → fault_of svahost (name ∷ codes "-V" ∷ rest) ≡ DisplayVersion ∷ []
unfolding clap_on_literals
version_short name rest = refl

-- where clap finds a fault, that is the only one
shown : (words : List Text) (kind : ErrorKind) → fault_of svahost words ≡ kind ∷ [] → faults_of words ≡ kind ∷ []
unfolding faults_of
shown words kind is = ap (λ kinds. or_else kinds (own_faults (asked_by (subcommand_of svahost words)))) is

calls_help : (words : List Text) → CallsHelp words → faults_of words ≡ DisplayHelp ∷ []
calls_help words (by_long name rest e) = shown words _ (ap (fault_of svahost) e ∙ help_long name rest)
calls_help words (by_short name rest e) = shown words _ (ap (fault_of svahost) e ∙ help_short name rest)
calls_help words (behind_replay name e) = shown words _ (ap (fault_of svahost) e ∙ help_of_replay name)
calls_help words (behind_check name e) = shown words _ (ap (fault_of svahost) e ∙ help_of_check name)
calls_help words (behind_storm name e) = shown words _ (ap (fault_of svahost) e ∙ help_of_storm name)
calls_help words (behind_plain name e) = shown words _ (ap (fault_of svahost) e ∙ help_of_plain name)
calls_help words (behind_test name e) = shown words _ (ap (fault_of svahost) e ∙ help_of_test name)
calls_help words (behind_show name e) = shown words _ (ap (fault_of svahost) e ∙ help_of_show name)
calls_help words (behind_why name e) = shown words _ (ap (fault_of svahost) e ∙ help_of_why name)
calls_help words (behind_chart name e) = shown words _ (ap (fault_of svahost) e ∙ help_of_chart name)
calls_help words (behind_explore name e) = shown words _ (ap (fault_of svahost) e ∙ help_of_explore name)
calls_help words (behind_judge name e) = shown words _ (ap (fault_of svahost) e ∙ help_of_judge name)
calls_help words (behind_trace name e) = shown words _ (ap (fault_of svahost) e ∙ help_of_trace name)

calls_version : (words : List Text) → CallsVersion words → faults_of words ≡ DisplayVersion ∷ []
calls_version words (by_long_version name rest e) = shown words _ (ap (fault_of svahost) e ∙ version_long name rest)
calls_version words (by_short_version name rest e) = shown words _ (ap (fault_of svahost) e ∙ version_short name rest)

among_one : (kind other : ErrorKind) → IsAmong kind (other ∷ []) → kind ≡ other
among_one kind other (inl e) = e
among_one kind other (inr none) = absurd none

-- a call for help or for the version isn't mistaken
pub help_unmistaken : (words : List Text) → CallsHelp words → IsMistaken words → ⊥
help_unmistaken words calls (kind, differs, _, among) = differs (among_one kind DisplayHelp (subst (IsAmong kind) (calls_help words calls) among))

pub version_unmistaken : (words : List Text) → CallsVersion words → IsMistaken words → ⊥
version_unmistaken words calls (kind, _, differs, among) = differs (among_one kind DisplayVersion (subst (IsAmong kind) (calls_version words calls) among))

-- a line with no command is mistaken
missing : (words : List Text) → length words < 2 → fault_of svahost words ≡ MissingSubcommand ∷ []
unfolding clap_on_literals
missing [] short = refl
missing (name ∷ []) short = refl
missing (name ∷ word ∷ rest) short = absurd (omega (arith, short))

no_command : (words : List Text) → length words < 2 → faults_of words ≡ MissingSubcommand ∷ []
no_command words short = shown words MissingSubcommand (missing words short)

asks_nothing : (words : List Text) → faults_of words ≡ MissingSubcommand ∷ [] → AsksText words → ⊥
asks_nothing words e (inl among) = cc (among_one DisplayHelp MissingSubcommand (subst (IsAmong DisplayHelp) e among))
asks_nothing words e (inr among) = cc (among_one DisplayVersion MissingSubcommand (subst (IsAmong DisplayVersion) e among))

pub no_command_asks : {Z : Type 0} (words : List (String Z)) → length words < 2 → AsksText (texts words) → ⊥
no_command_asks [] few asks = asks_nothing [] (no_command [] few) asks
no_command_asks (name ∷ []) few asks = asks_nothing (texts (name ∷ [])) (no_command (texts (name ∷ [])) few) asks
no_command_asks (name ∷ word ∷ rest) few asks = absurd (omega (arith, few))

-- and clap doesn't take it
pub no_command_taken : {Z : Type 0} (words : List (String Z)) → length words < 2 → faults_of (texts words) ≡ [] → ⊥
unfolding faults_of
no_command_taken [] few none = no_words [] few (left _ _ none)
no_command_taken (name ∷ []) few none = no_words (texts (name ∷ [])) few (left _ _ none)
no_command_taken (name ∷ word ∷ rest) few none = absurd (omega (arith, few))
