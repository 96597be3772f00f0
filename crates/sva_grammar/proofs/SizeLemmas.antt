-- How many steps a scenario has: no more than its text may have lines.
use Rattle.std.proofs.Common.{◌≡◌, ◌≤◌, ◌+◌, subst, arith, ℕ, List, [], ◌∷◌, Bool, true, false, not, ◌||◌, cond, length, refl, Result, Ok, Err}
use Rattle.std.proofs.lemmas.Bool.{ltb-false}
use Rattle.sva_step.specs.declared.limits.Config.{Config}
use Rattle.sva_step.specs.declared.steps.Step.{Step}
use Rattle.sva_grammar.specs.declared.faults.Cause.{Cause}
use Rattle.sva_grammar.specs.declared.faults.Cause.TheVariants.{TooLarge}
use Rattle.sva_grammar.specs.declared.faults.LineFault.{LineFault}
use Rattle.sva_grammar.specs.Grammar.{◌>>=◌, at_line, config_of, fault, is_skipped, is_too_large, lines_of, said_lines}
use Rattle.sva_grammar.specs.Grammar.{Script, scenario_of, script_of, step_of, steps_of, words_of}

-- the steps that were read are so many
AreSoMany : (count : ℕ) → Result (List Step) LineFault → Type 0
AreSoMany count (Ok steps) = length steps ≡ count
AreSoMany count (Err fault) = Unit {0}

one_more : (line count : ℕ) (first : Result Step Cause) (rest : Result (List Step) LineFault) → AreSoMany count rest
    → AreSoMany (count + 1) (at_line line first >>= λ step. rest >>= λ steps. Ok (step ∷ steps))
unfolding AreSoMany
one_more line count (Ok step) (Ok steps) p = omega (arith, p)
one_more line count (Ok step) (Err f) p = tt
one_more line count (Err cause) rest p = tt

steps_counted : (lines : List (ℕ × List ℕ)) → AreSoMany (length lines) (steps_of lines)
unfolding AreSoMany
steps_counted [] = refl
steps_counted (line ∷ lines) =
    let more : length lines + 1 ≡ length (line ∷ lines) = omega arith in
    subst (λ n. AreSoMany n (steps_of (line ∷ lines))) more
    (one_more line.0 (length lines) (step_of (words_of line.1)) (steps_of lines) (steps_counted lines))

-- a scenario has so many steps at most
HasAtMost : (most : ℕ) → Result Script LineFault → Type 0
HasAtMost most (Ok script) = length script.steps ≤ most
HasAtMost most (Err fault) = Unit {0}

joined_few : (most count : ℕ) (config : Result Config LineFault) (steps : Result (List Step) LineFault) → count ≤ most → AreSoMany count steps
    → HasAtMost most (config >>= λ c. steps >>= λ ss. Ok (record { config = c; steps = ss }))
unfolding AreSoMany HasAtMost
joined_few most count (Ok config) (Ok steps) few h = omega (arith, h)
joined_few most count (Ok config) (Err f) few h = tt
joined_few most count (Err f) steps few h = tt

script_few : (most count : ℕ) (lines : List (ℕ × List ℕ)) → length lines ≤ most → HasAtMost most (script_of count lines)
unfolding HasAtMost
script_few most count [] few = tt
script_few most count (first ∷ others) few =
    let fewer : length others ≤ most = omega arith in
    joined_few most (length others) (at_line first.0 (config_of (words_of first.1))) (steps_of others) fewer (steps_counted others)

kept_few : (keep : Bool) (line : ℕ × List ℕ) (some : List (ℕ × List ℕ)) (count : ℕ) → length some ≤ count → length (cond keep (line ∷ some) some) ≤ count + 1
kept_few true line some count h = omega arith
kept_few false line some count h = omega arith

said_few : (first : ℕ) (lines : List (List ℕ)) → length (said_lines first lines) ≤ length lines
said_few first [] = omega arith
said_few first (line ∷ lines) =
    let kept = kept_few (not (is_skipped line)) (first, line) (said_lines (first + 1) lines) (length lines) (said_few (first + 1) lines) in
    omega (arith, kept)

by_size : (large : Bool) (text : List ℕ) → (large ≡ false → length (lines_of text) ≤ 65536)
    → HasAtMost 65536 (cond large (fault 0 TooLarge) (script_of (length (lines_of text)) (said_lines 1 (lines_of text))))
unfolding HasAtMost
by_size true text few = tt
by_size false text few =
    let said = said_few 1 (lines_of text) in
    let lines = few refl in
    let fits : length (said_lines 1 (lines_of text)) ≤ 65536 = omega arith in
    script_few 65536 (length (lines_of text)) (said_lines 1 (lines_of text)) fits

no_or : (a b : Bool) → (a || b) ≡ false → b ≡ false
no_or true b h = absurd (cc)
no_or false b h = h

scenario_few : (text : List ℕ) → HasAtMost 65536 (scenario_of text)
unfolding scenario_of
scenario_few text = by_size (is_too_large text) text (λ small. ltb-false 65536 (length (lines_of text)) (no_or _ _ small))

-- a scenario that was read
pub read_few : (text : List ℕ) (script : Script) → scenario_of text ≡ Ok script → length script.steps ≤ 65536
unfolding HasAtMost
read_few text script h = subst (HasAtMost 65536) h (scenario_few text)
