-- The words behind `storm` that clap takes, and what is found of them.
use Rattle.std.proofs.Common.{◌≡◌, refl, sym, subst, ap, ap₂, ◌∙◌, Bool, true, false, List, [], ◌∷◌, ◌++◌, Option, Some, None, codes}
use Rattle.std.proofs.Common.{if◌then◌else◌, fold, ◌==◌, ◌<◌, arith}
use Rattle.std.specs.Prelude.{option_and_then}
use Rattle.std.specs.Str.{bytes_eq}
use Rattle.std.specs.Option.{option_map_or}
use Rattle.std.proofs.lemmas.Bool.{eqb-true}
use Rattle.clap.specs.Words.{Text}
use Rattle.clap.specs.Kinds.{Kinds, or_else}
use Rattle.clap.specs.Lexer.{long_of, long_of_rest, short_of, short_of_rest, strip_byte}
use Rattle.clap.specs.Walk.{Held, Step, Walk, finished, idle}
use Rattle.clap.specs.Walk.{long_or_other, nothing_held, option, plain_word, rows_after}
use Rattle.clap.specs.Walk.{short_or_plain, trailing, walk_from, walked, word_met}
use Rattle.clap.specs.Faults.{bundle_fault, flag_word_fault, other_fault}
use Rattle.clap.specs.Faults.{step_fault, turn_fault, walk_fault}
use Rattle.clap.proofs.OnLiterals.{clap_on_literals}
use Rattle.clap.proofs.ValueTestLemmas.{accepts-Accepts}
use Rattle.std.specs.Char.{digit_value}
use Rattle.clap.specs.declared.error.kind.ErrorKind.TheVariants.{ValueValidation}
use Rattle.sva_command.specs.Command.{turns_text}
use Rattle.sva_command.proofs.TurnLemmas.{IsTaken, behind, dashes, end_fault, faults, flag, id, is_accepted, is_word, leaf, parser, row, rules, state}
use Rattle.sva_command.proofs.TurnLemmas.{taken_apart, taken_attached, taken_nothing}

taken_on : (w after : Walk) (word : Text) (rest : List Text) → turn_fault leaf [] w word ≡ [] → walked rules [] w word ≡ after → faults after rest ≡ []
    → faults w (word ∷ rest) ≡ []
unfolding walk_fault
taken_on w after word rest none is e =
    ap (λ k. or_else (or_else k (walk_fault leaf [] (walked rules [] w word) rest)) (end_fault (fold (walked rules []) (walked rules [] w word) rest).held))
    none
    ∙ subst (λ v. faults v rest ≡ []) (sym is) e

-- an accepted text isn't taken for a flag
hyphen_never : (bytes : Text) → is_accepted (45 ∷ bytes) ≡ true → ⊥
hyphen_never bytes e = let low : digit_value 45 < 10 = (accepts-Accepts false parser (45 ∷ bytes) e).0.1.0 in absurd (omega (arith, low))

unhyphened : (text : Text) → is_accepted text ≡ true → strip_byte 45 text ≡ None
unhyphened [] e = refl
unhyphened (byte ∷ bytes) e = go (byte == 45) refl
  where
    go : (b : Bool) → (byte == 45) ≡ b → strip_byte 45 (byte ∷ bytes) ≡ None
    go true is = absurd (hyphen_never bytes (subst (λ c. is_accepted (c ∷ bytes) ≡ true) (eqb-true byte 45 is) e))
    go false is = ap (λ b. if b then Some bytes else None) is

undashed : (text : Text) → is_accepted text ≡ true → bytes_eq text dashes ≡ false
undashed text e = go (bytes_eq text dashes) refl
  where
    go : (b : Bool) → bytes_eq text dashes ≡ b → bytes_eq text dashes ≡ false
    go true is = absurd (hyphen_never (codes "-") (subst (λ t. is_accepted t ≡ true) (is_word text dashes is) e))
    go false is = is

no_long : (text : Text) → is_accepted text ≡ true → long_of text ≡ None
no_long text e = ap (λ o. option_and_then long_of_rest (option_and_then (strip_byte 45) o)) (unhyphened text e)

no_short : (text : Text) → is_accepted text ≡ true → short_of text ≡ None
no_short text e = ap (λ o. option_and_then short_of_rest o) (unhyphened text e)

-- behind `--turns`, and behind its number
abbrev wanted : Walk
wanted = state [] (Some (id, [])) (option id) false

abbrev given_apart : Text → Walk
given_apart text = state [] (Some (id, text ∷ [])) idle false

value_met : (text : Text) → is_accepted text ≡ true → word_met rules [] false (option id) 1 text wanted.held ≡ plain_word rules (option id) text wanted.held
value_met text e =
    ap (λ b. if b then (wanted.held, trailing 1) else long_or_other rules (option id) text (long_of text) wanted.held) (undashed text e)
    ∙ ap (λ l. long_or_other rules (option id) text l wanted.held) (no_long text e)
    ∙ ap (λ s. short_or_plain rules (option id) text s wanted.held) (no_short text e)

value_unfaulted : (text : Text) → is_accepted text ≡ true → other_fault leaf None text wanted.held ≡ []
value_unfaulted text e =
    ap (λ b. if b then [] else flag_word_fault rules false (long_of text) text wanted.held) (undashed text e)
    ∙ ap (λ l. flag_word_fault rules false l text wanted.held) (no_long text e)
    ∙ ap (λ s. option_map_or (λ flags. bundle_fault rules false flags wanted.held) s []) (no_short text e)

value_turn : (text : Text) → is_accepted text ≡ true → turn_fault leaf [] wanted text ≡ []
value_turn text e = ap₂ or_else (value_unfaulted text e) (ap (λ (m : Held × Step). step_fault leaf 1 m.0 m.1) (value_met text e))

value_walked : (text : Text) → is_accepted text ≡ true → walked rules [] wanted text ≡ given_apart text
unfolding clap_on_literals
value_walked text e = behind [] (Some (id, [])) (option id) text _ (value_met text e)

-- the fault of a value, by whether it is accepted
abbrev value_fault : Bool → Kinds
value_fault b = or_else (or_else (if b then [] else ValueValidation ∷ []) []) []

pub apart_taken : (text : Text) → is_accepted text ≡ true → faults (walk_from nothing_held) (flag ∷ text ∷ []) ≡ []
unfolding clap_on_literals
apart_taken text e =
    taken_on (walk_from nothing_held) wanted flag (text ∷ []) refl refl
    (taken_on wanted (given_apart text) text [] (value_turn text e) (value_walked text e) (ap value_fault e))

pub apart_taken_dashes : (text : Text) → is_accepted text ≡ true → faults (walk_from nothing_held) (flag ∷ text ∷ dashes ∷ []) ≡ []
unfolding clap_on_literals
apart_taken_dashes text e =
    taken_on (walk_from nothing_held) wanted flag (text ∷ dashes ∷ []) refl refl
    (taken_on wanted (given_apart text) text (dashes ∷ []) (value_turn text e) (value_walked text e)
    (taken_on (given_apart text) (state [] (Some (id, text ∷ [])) idle true) dashes [] refl refl (ap value_fault e)))

pub attached_taken : (text : Text) → is_accepted text ≡ true → faults (walk_from nothing_held) ((codes "--turns=" ++ text) ∷ []) ≡ []
unfolding clap_on_literals
attached_taken text e = taken_on (walk_from nothing_held) (state (row text ∷ []) None idle false) (codes "--turns=" ++ text) [] (ap value_fault e) refl refl

pub attached_taken_dashes : (text : Text) → is_accepted text ≡ true → faults (walk_from nothing_held) ((codes "--turns=" ++ text) ∷ dashes ∷ []) ≡ []
unfolding clap_on_literals
attached_taken_dashes text e =
    taken_on (walk_from nothing_held) (state (row text ∷ []) None idle false) (codes "--turns=" ++ text) (dashes ∷ []) (ap value_fault e) refl refl

-- ---- what is found of `--turns`

abbrev pub text_of : (rest : List Text) → IsTaken rest → Text
text_of rest (taken_nothing none) = codes "10000"
text_of rest (taken_apart text is e) = text
text_of rest (taken_attached text is e) = text

pub text_accepted : (rest : List Text) (t : IsTaken rest) → is_accepted (text_of rest t) ≡ true
text_accepted rest (taken_nothing none) = refl
text_accepted rest (taken_apart text is e) = e
text_accepted rest (taken_attached text is e) = e

-- what is found of them, where the words are taken with `--` behind, or without
abbrev found_text : List Text → Option Text
found_text words = turns_text (rows_after rules [] words)

found_apart : (text : Text) → is_accepted text ≡ true → (found_text (flag ∷ text ∷ []) ≡ Some text) × (found_text (flag ∷ text ∷ dashes ∷ []) ≡ Some text)
unfolding clap_on_literals
found_apart text e = (
  ap (λ (w : Walk). turns_text (finished rules w.held)) (value_walked text e),
  ap (λ (w : Walk). turns_text (finished rules (walked rules [] w dashes).held)) (value_walked text e),
)

found_attached : (text : Text)
    → (found_text ((codes "--turns=" ++ text) ∷ []) ≡ Some text) × (found_text ((codes "--turns=" ++ text) ∷ dashes ∷ []) ≡ Some text)
unfolding clap_on_literals
found_attached text = (refl, refl)

found_nothing : (found_text [] ≡ Some (codes "10000")) × (found_text (dashes ∷ []) ≡ Some (codes "10000"))
unfolding clap_on_literals
found_nothing = (refl, refl)

pub found : (rest : List Text) (t : IsTaken rest)
    → (found_text rest ≡ Some (text_of rest t)) × (found_text (rest ++ dashes ∷ []) ≡ Some (text_of rest t))
found rest (taken_nothing none) =
    subst (λ l. (found_text l ≡ Some (codes "10000")) × (found_text (l ++ dashes ∷ []) ≡ Some (codes "10000"))) (sym none) found_nothing
found rest (taken_apart text is e) = subst (λ l. (found_text l ≡ Some text) × (found_text (l ++ dashes ∷ []) ≡ Some text)) (sym is) (found_apart text e)
found rest (taken_attached text is e) = subst (λ l. (found_text l ≡ Some text) × (found_text (l ++ dashes ∷ []) ≡ Some text)) (sym is) (found_attached text)
