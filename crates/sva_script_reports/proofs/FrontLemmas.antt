-- More than the first 1,048,577 bytes of a script don't matter: it is too large anyhow.
use Rattle.std.proofs.Common.{◌≡◌, ◌∙◌, ◌<◌, ◌≤◌, ap, sym, subst, refl, arith, ℕ, List, [], Bool, true, false, ◌||◌, cond, ltb, length, take, codes}
use Rattle.std.proofs.Common.{Option, Some, None, IfSome, Result, Err}
use Rattle.std.proofs.lemmas.Bool.{lt-ltb, ltb-false}
use Rattle.std.proofs.lemmas.List.{length-take, take_all}
use Rattle.sva_step.specs.declared.limits.Config.{Config}
use Rattle.sva_grammar.specs.Grammar.{lines_of}
use Rattle.sva_streams.specs.declared.streams.DriveFault.{DriveFault}
use Rattle.sva_streams.specs.declared.streams.Outcome.{Outcome}
use Rattle.sva_grammar.specs.Replies.{ended}
use Rattle.sva_snapshot.specs.Explaining.{Explaining}
use Rattle.sva_script_reports.specs.declared.printing.Saying.{Saying}
use Rattle.sva_script_reports.specs.declared.printing.Saying.TheVariants.{Plain, Show, Test, Why}
use Rattle.sva_script_reading.specs.Said.{Prints}
use Rattle.sva_script_reports.specs.Prints.{said_of}
use Rattle.sva_script_reading.specs.Said.{Said, bad}
use Rattle.sva_script_reports.specs.Shows.{show_from}
use Rattle.sva_script_reports.specs.Whys.{why_from}
use Rattle.sva_script_reading.specs.Begins.{begin_of, begun, config_alone, config_in, first_config, lines_from, said_by}
use Rattle.sva_script_reports.specs.Scripts.{plain_from, start, test_of, tested}

abbrev large : Said
large = bad (ended (codes "line 0: the script has more than 1048576 bytes or 65536 lines"))

too_large : (text : List ℕ) → 1048576 < length text → begin_of text ≡ Err large
too_large text long =
    ap (λ t. cond (t || ltb 65536 (length (lines_of text))) (Err large) (begun (config_in 0 (lines_from 1 text)))) (lt-ltb 1048576 (length text) long)

by_size : (run : List ℕ → Config → Said) (text : List ℕ) (long : Bool) → ltb 1048576 (length text) ≡ long
    → said_by (run (take 1048577 text)) (begin_of (take 1048577 text)) ≡ said_by (run text) (begin_of text)
by_size run text true e =
    let long : 1048576 < length text = grind (arith, lt-ltb) in
    let front : 1048576 < length (take 1048577 text) = omega (arith, length-take 1048577 text) in
    ap (said_by (run (take 1048577 text))) (too_large (take 1048577 text) front) ∙ sym (ap (said_by (run text)) (too_large text long))
by_size run text false e =
    let short : length text ≤ 1048577 = omega (arith, ltb-false 1048576 (length text) e) in
    ap (λ kept. said_by (run kept) (begin_of kept)) (take_all 1048577 text short)

no_config : (text : List ℕ) → 1048576 < length text → first_config text ≡ Err large
no_config text long =
    ap (λ t. cond (t || ltb 65536 (length (lines_of text))) (Err large) (config_alone (config_in 0 (lines_from 1 text))))
    (lt-ltb 1048576 (length text) long)

test_front : (explained : Explaining) (text : List ℕ) (long : Bool) → ltb 1048576 (length text) ≡ long → test_of explained (take 1048577 text)
    ≡ test_of explained text
test_front explained text true e =
    let long : 1048576 < length text = grind (arith, lt-ltb) in
    let front : 1048576 < length (take 1048577 text) = omega (arith, length-take 1048577 text) in
    ap (tested explained (take 1048577 text)) (no_config (take 1048577 text) front) ∙ sym (ap (tested explained text) (no_config text long))
test_front explained text false e =
    let short : length text ≤ 1048577 = omega (arith, ltb-false 1048576 (length text) e) in
    ap (test_of explained) (take_all 1048577 text short)

front_said : (explained : Explaining) (saying : Saying) (text : List ℕ) → said_of explained saying (take 1048577 text) ≡ said_of explained saying text
front_said explained Plain text = by_size (λ kept config. plain_from [] (start config) (lines_from 1 kept)) text (ltb 1048576 (length text)) refl
front_said explained Test text = test_front explained text (ltb 1048576 (length text)) refl
front_said explained Show text = by_size (λ kept config. show_from (start config) (lines_from 1 kept)) text (ltb 1048576 (length text)) refl
front_said explained Why text = by_size (λ kept config. why_from explained [] (start config) (lines_from 1 kept)) text (ltb 1048576 (length text)) refl

pub kept_print : (explained : Explaining) (saying : Saying) (known old new : Option (List ℕ)) (kept text : List ℕ) (result : Result Outcome DriveFault)
    → text ≡ kept → IfSome known (λ input. kept ≡ take 1048577 input) → Prints (said_of explained saying text) old new result
    → IfSome known (λ input. Prints (said_of explained saying input) old new result)
kept_print explained saying None old new kept text result e h printed = tt
kept_print explained saying (Some input) old new kept text result e h printed =
    subst (λ said. Prints said old new result) (ap (said_of explained saying) (e ∙ h) ∙ front_said explained saying input) printed
