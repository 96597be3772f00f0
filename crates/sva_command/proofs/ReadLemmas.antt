-- What the program reads of the command that clap entered.
use Rattle.std.proofs.Common.{◌≡◌, ◌≤◌, ◌∙◌, refl, sym, subst, ap, ℕ, Bool, true, false, List, Option, Some, None, Result, Ok, codes, option_map, unwrap_or}
use Rattle.std.proofs.lemmas.Bool.{and_from, and_parts, le-leb, leb-true}
use Rattle.std.specs.Prelude.{Box, ◌&&◌, if◌then◌else◌, nat_le}
use Rattle.std.specs.Box.{box_value}
use Rattle.std.specs.Str.Parse.{ExplainsUnsignedError, HasUnsignedDigitsIfOk, ParsesUnsigned, digits_value, without_leading_plus}
use Rattle.std.specs.declared.num.ParseIntError.{ParseIntError}
use Rattle.clap.proofs.ValueTestLemmas.{Accepts-accepts, accepts-Accepts}
use Rattle.clap.proofs.WalkLemmas.{one_text-rows}
use Rattle.clap.specs.Matches.{ReadsOne, found_of, one_text, subcommand_name_of}
use Rattle.clap.specs.Simple.{subcommand_rows, subcommand_rows_of}
use Rattle.clap.specs.ValueTests.{accepts, is_unsigned_in}
use Rattle.clap.specs.Words.{IsUnsignedIn, Row, Text, rows_of}
use Rattle.clap.specs.declared.builder.value_parser.ValueParser.{ValueParser}
use Rattle.clap.specs.declared.builder.value_parser.ValueParser.TheVariants.{Unsigned}
use Rattle.clap.specs.declared.parser.matches.ArgMatches.{ArgMatches}
use Rattle.clap.specs.declared.parser.matches.ArgMatches.TheViews.{out-ArgMatches, out-SubCommand}
use Rattle.clap.specs.declared.parser.matches.Found.{Found}
use Rattle.clap.specs.declared.parser.matches.SubCommand.{SubCommand}
use Rattle.sva_command.specs.declared.command.Asked.TheVariants.{Chart, Explore, Judge, Storm, Trace}
use Rattle.sva_command.specs.declared.command.Beside.{Beside}
use Rattle.sva_command.specs.Command.{beside_in}
use Rattle.sva_command.specs.Command.{IsReadable, IsWritten, asked_by, is_given, most_by, most_text, turns_by, turns_text, within}

-- what `u64` makes of a text
abbrev Reads : Text → Result ℕ ParseIntError → Type 0
Reads text r = ParsesUnsigned 64 10 text r × ExplainsUnsignedError 10 text r × HasUnsignedDigitsIfOk text r

read_one : (text : Text) (r : Option ℕ) → ReadsOne Reads text r → IsUnsignedIn 1 1000000 text
    → unwrap_or r 10000 ≡ digits_value 10 (without_leading_plus text)
read_one text (Some number) read written = read.0.1
read_one text None read written = absurd (read.1.0 (written.0, written.1))

-- what was found of `--turns` is read as the number that it writes, and as 10000 where nothing was
pub turns_read : (found : Found) (r : Option ℕ) → (one_text found (codes "turns") ≡ None → r ≡ None)
    → ((text : Text) → one_text found (codes "turns") ≡ Some text → ReadsOne Reads text r)
    → IsWritten (turns_text (rows_of found))
    → unwrap_or r 10000 ≡ turns_by (turns_text (rows_of found))
turns_read found r none some written = go (turns_text (rows_of found)) refl
  where
    go : (o : Option Text) → turns_text (rows_of found) ≡ o → unwrap_or r 10000 ≡ turns_by o
    go None e = ap (λ o. unwrap_or o 10000) (none (one_text-rows found (codes "turns") ∙ e))
    go (Some text) e = read_one text r (some text (one_text-rows found (codes "turns") ∙ e)) (written text e)

entered_by : (name : Text) (found rows : List Row) (turns : ℕ) → codes "storm" ≡ name → rows ≡ found
    → (IsWritten (turns_text rows) → turns ≡ turns_by (turns_text rows))
    → IsWritten (turns_text found)
    → Storm turns ≡ asked_by (Some (name, found))
entered_by name found rows turns named same made written =
    subst (λ n. Storm turns ≡ asked_by (Some (n, found))) named
    (ap Storm (subst (λ l. IsWritten (turns_text l) → turns ≡ turns_by (turns_text l)) same made written))

-- where `storm` was entered, the words ask for a storm
pub entered_storm : (m : ArgMatches) (name : Text) (rows : List Row) (turns : ℕ) → name ≡ codes "storm" → Some name ≡ subcommand_name_of m
    → Some rows ≡ option_map (λ p. p.1) (subcommand_rows (out-ArgMatches m).subcommand)
    → (IsWritten (turns_text rows) → turns ≡ turns_by (turns_text rows))
    → IsReadable (subcommand_rows_of m)
    → Storm turns ≡ asked_by (subcommand_rows_of m)
entered_storm m name rows turns storm named found made readable = go (out-ArgMatches m).subcommand named found readable
  where
    go : {Z : Type 0} (b : Option (Box SubCommand Z)) → Some name ≡ option_map (λ b. (out-SubCommand (box_value b)).name.now) b
        → Some rows ≡ option_map (λ p. p.1) (subcommand_rows b)
        → IsReadable (subcommand_rows b)
        → Storm turns ≡ asked_by (subcommand_rows b)
    go None named found readable = absurd (cc named)
    go (Some b) named found readable =
        entered_by (out-SubCommand (box_value b)).name.now (rows_of (found_of (out-SubCommand (box_value b)).matches)) rows turns
        (sym storm ∙ ap (λ o. unwrap_or o name) named) (ap (λ o. unwrap_or o rows) found) made
        (readable (sym (ap (λ o. unwrap_or o name) named) ∙ storm))

-- where `trace` was entered, the words ask for a trace
pub entered_trace : (m : ArgMatches) (name : Text) (rows : List Row) (live whys : Bool) → name ≡ codes "trace" → Some name ≡ subcommand_name_of m
    → Some rows ≡ option_map (λ p. p.1) (subcommand_rows (out-ArgMatches m).subcommand)
    → live ≡ is_given (codes "live") rows → whys ≡ is_given (codes "why") rows
    → Trace live whys ≡ asked_by (subcommand_rows_of m)
entered_trace m name rows live whys trace named found made told = go (out-ArgMatches m).subcommand named found
  where
    go : {Z : Type 0} (b : Option (Box SubCommand Z)) → Some name ≡ option_map (λ b. (out-SubCommand (box_value b)).name.now) b
        → Some rows ≡ option_map (λ p. p.1) (subcommand_rows b)
        → Trace live whys ≡ asked_by (subcommand_rows b)
    go None named found = absurd (cc named)
    go (Some b) named found =
        let own = rows_of (found_of (out-SubCommand (box_value b)).matches) in
        let same : rows ≡ own = ap (λ o. unwrap_or o rows) found in
        subst (λ n. Trace live whys ≡ asked_by (Some (n, own))) (sym trace ∙ ap (λ o. unwrap_or o name) named)
        (λ i. Trace ((made ∙ ap (is_given (codes "live")) same) i) ((told ∙ ap (is_given (codes "why")) same) i))

-- where `chart` was entered, the words ask for a chart
pub entered_chart : (m : ArgMatches) (name : Text) (rows : List Row) (svg : Bool) → name ≡ codes "chart" → Some name ≡ subcommand_name_of m
    → Some rows ≡ option_map (λ p. p.1) (subcommand_rows (out-ArgMatches m).subcommand)
    → svg ≡ is_given (codes "svg") rows
    → Chart svg ≡ asked_by (subcommand_rows_of m)
entered_chart m name rows svg chart named found made = go (out-ArgMatches m).subcommand named found
  where
    go : {Z : Type 0} (b : Option (Box SubCommand Z)) → Some name ≡ option_map (λ b. (out-SubCommand (box_value b)).name.now) b
        → Some rows ≡ option_map (λ p. p.1) (subcommand_rows b)
        → Chart svg ≡ asked_by (subcommand_rows b)
    go None named found = absurd (cc named)
    go (Some b) named found =
        let own = rows_of (found_of (out-SubCommand (box_value b)).matches) in
        subst (λ n. Chart svg ≡ asked_by (Some (n, own))) (sym chart ∙ ap (λ o. unwrap_or o name) named)
        (ap Chart (made ∙ ap (is_given (codes "svg")) (ap (λ o. unwrap_or o rows) found)))

-- ---- `--most`

abbrev limits : ValueParser
limits = Unsigned 1 1000000000

-- what `u64` makes of a text, where that is out of its limits, is no number of moments
out_of_limits : (text : Text) → (IsUnsignedIn 1 1000000000 text → ⊥) → is_unsigned_in 1 1000000000 text ≡ false
out_of_limits text other = go (accepts false limits text) refl
  where
    go : (b : Bool) → accepts false limits text ≡ b → b ≡ false
    go true is = absurd (other (accepts-Accepts false limits text is))
    go false is = refl

by_test : (b : Bool) (text : Text) → is_unsigned_in 1 1000000000 text ≡ b
    → most_by (Some text) ≡ (if b then digits_value 10 (without_leading_plus text) else 1000000)
by_test b text is = ap (λ c. if c then digits_value 10 (without_leading_plus text) else 1000000) is

number_within : (text : Text) (number : ℕ) → Reads text (Ok number) → within (Some number) ≡ most_by (Some text)
number_within text number read = go (nat_le 1 number && nat_le number 1000000000) refl
  where
    go : (b : Bool) → (nat_le 1 number && nat_le number 1000000000) ≡ b → (if b then number else 1000000) ≡ most_by (Some text)
    go true is =
        let both = and_parts (nat_le 1 number) (nat_le number 1000000000) is in
        let value = digits_value 10 (without_leading_plus text) in
        let low : 1 ≤ value = subst (λ n. 1 ≤ n) read.0.1 (leb-true _ _ both.0) in
        let high : value ≤ 1000000000 = subst (λ n. n ≤ 1000000000) read.0.1 (leb-true _ _ both.1) in
        read.0.1 ∙ sym (by_test true text (Accepts-accepts false limits text (read.0.0.0, read.0.0.1, low, high)))
    go false is = sym (by_test false text (out_of_limits text (λ inside.
        let low : 1 ≤ number = subst (λ n. 1 ≤ n) (sym read.0.1) inside.2 in
        let high : number ≤ 1000000000 = subst (λ n. n ≤ 1000000000) (sym read.0.1) inside.3 in
        let yes = and_from (nat_le 1 number) (nat_le number 1000000000) (le-leb _ _ low) (le-leb _ _ high) in
        cc (sym is ∙ yes))))

read_within : (text : Text) (r : Option ℕ) → ReadsOne Reads text r → within r ≡ most_by (Some text)
read_within text (Some number) read = number_within text number read
read_within text None read = sym (by_test false text (out_of_limits text (λ inside. read.1.0 (inside.0, inside.1))))

-- what was found of `--most` is read as the number that it writes, and as 1000000 where nothing was
pub most_read : (found : Found) (r : Option ℕ) → (one_text found (codes "most") ≡ None → r ≡ None)
    → ((text : Text) → one_text found (codes "most") ≡ Some text → ReadsOne Reads text r)
    → within r ≡ most_by (most_text (rows_of found))
most_read found r none some = go (most_text (rows_of found)) refl
  where
    go : (o : Option Text) → most_text (rows_of found) ≡ o → within r ≡ most_by o
    go None e = ap within (none (one_text-rows found (codes "most") ∙ e))
    go (Some text) e = read_within text r (some text (one_text-rows found (codes "most") ∙ e))

-- where `explore` was entered, the words ask for a race to be explored
pub entered_explore : (m : ArgMatches) (name : Text) (rows : List Row) (most : ℕ) (whys few_ends : Bool) → name ≡ codes "explore"
    → Some name ≡ subcommand_name_of m
    → Some rows ≡ option_map (λ p. p.1) (subcommand_rows (out-ArgMatches m).subcommand)
    → most ≡ most_by (most_text rows) → whys ≡ is_given (codes "why") rows → few_ends ≡ is_given (codes "ends") rows
    → Explore most whys few_ends ≡ asked_by (subcommand_rows_of m)
entered_explore m name rows most whys few_ends explore named found made told short = go (out-ArgMatches m).subcommand named found
  where
    go : {Z : Type 0} (b : Option (Box SubCommand Z)) → Some name ≡ option_map (λ b. (out-SubCommand (box_value b)).name.now) b
        → Some rows ≡ option_map (λ p. p.1) (subcommand_rows b)
        → Explore most whys few_ends ≡ asked_by (subcommand_rows b)
    go None named found = absurd (cc named)
    go (Some b) named found =
        let own = rows_of (found_of (out-SubCommand (box_value b)).matches) in
        subst (λ n. Explore most whys few_ends ≡ asked_by (Some (n, own))) (sym explore ∙ ap (λ o. unwrap_or o name) named)
        (λ i. Explore ((made ∙ ap (λ l. most_by (most_text l)) (ap (λ o. unwrap_or o rows) found)) i)
        ((told ∙ ap (is_given (codes "why")) (ap (λ o. unwrap_or o rows) found)) i)
        ((short ∙ ap (is_given (codes "ends")) (ap (λ o. unwrap_or o rows) found)) i))

-- where `judge` was entered, the words ask for a driver to be judged
pub entered_judge : (m : ArgMatches) (name : Text) (rows : List Row) (run : Bool) (most : ℕ) (strict all : Bool) (beside : Beside)
    → name ≡ codes "judge"
    → Some name ≡ subcommand_name_of m
    → Some rows ≡ option_map (λ p. p.1) (subcommand_rows (out-ArgMatches m).subcommand)
    → run ≡ is_given (codes "run") rows → most ≡ most_by (most_text rows) → strict ≡ is_given (codes "strict") rows
    → all ≡ is_given (codes "all") rows → beside ≡ beside_in rows
    → Judge run most strict all beside ≡ asked_by (subcommand_rows_of m)
entered_judge m name rows run most strict all beside judge named found told made strictly each least =
    go (out-ArgMatches m).subcommand named found
  where
    go : {Z : Type 0} (b : Option (Box SubCommand Z)) → Some name ≡ option_map (λ b. (out-SubCommand (box_value b)).name.now) b
        → Some rows ≡ option_map (λ p. p.1) (subcommand_rows b)
        → Judge run most strict all beside ≡ asked_by (subcommand_rows b)
    go None named found = absurd (cc named)
    go (Some b) named found =
        let own = rows_of (found_of (out-SubCommand (box_value b)).matches) in
        let same : rows ≡ own = ap (λ o. unwrap_or o rows) found in
        subst (λ n. Judge run most strict all beside ≡ asked_by (Some (n, own))) (sym judge ∙ ap (λ o. unwrap_or o name) named)
        (λ i. Judge ((told ∙ ap (is_given (codes "run")) same) i) ((made ∙ ap (λ l. most_by (most_text l)) same) i)
        ((strictly ∙ ap (is_given (codes "strict")) same) i) ((each ∙ ap (is_given (codes "all")) same) i)
        ((least ∙ ap beside_in same) i))
