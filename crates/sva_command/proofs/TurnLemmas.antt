-- The words behind `storm`: clap takes none, `--turns` with a number of turns, or that number behind `=`, and `--` behind each of these.
use Rattle.std.proofs.Common.{◌≡◌, ◌⊎◌, inl, inr, refl, sym, subst, ap, ap₂, ◌∙◌, ℕ, Bool, true, false, List, [], ◌∷◌, ◌++◌, Option, Some, None, codes}
use Rattle.std.proofs.Common.{if◌then◌else◌, slice_get, cond, chars, fold, ◌||◌, ◌==◌, ◌+◌, suc, not, take, drop, unwrap_or, append-nil, arith}
use Rattle.std.specs.Prelude.{option_and_then}
use Rattle.std.specs.Str.{bytes_eq}
use Rattle.std.specs.Option.{option_map_or}
use Rattle.std.specs.List.{position_or_len}
use Rattle.std.proofs.lemmas.Bool.{eqb-true}
use Rattle.std.proofs.lemmas.Slice.Eq.{bytes_eq-Decides}
use Rattle.clap.specs.Words.{Shape, Rule, Row, Text, built, new_rule}
use Rattle.clap.specs.Kinds.{Kinds, or_else}
use Rattle.clap.specs.Lexer.{has_byte, long_of, long_of_rest, name_and_value, short_of, strip_byte}
use Rattle.clap.specs.Walk.{Held, Step, Waiting, Walk, after_flag, after_step, arg_by_long, bundle_step, finished, has_long, has_short, idle}
use Rattle.clap.specs.Walk.{long_or_other, nothing_held, option, Outcome, plain, plain_word, reacted, settled, settled_rows}
use Rattle.clap.specs.Walk.{short_or_plain, short_word, subcommand_met, subcommand_or_other, trailing, walked, word_met}
use Rattle.clap.specs.Faults.{bundle_fault, bundle_step_fault, check_fault, defaults_fault, flag_word_fault, level_fault, long_fault, other_fault}
use Rattle.clap.specs.Faults.{settle_fault, short_fault}
use Rattle.clap.specs.Faults.{step_fault, turn_fault, use_fault, walk_fault}
use Rattle.clap.specs.ValueTests.{accepts}
use Rattle.clap.proofs.OnLiterals.{clap_on_literals}
use Rattle.clap.specs.declared.error.kind.ErrorKind.{ErrorKind}
use Rattle.clap.specs.declared.builder.value_parser.ValueParser.{ValueParser}
use Rattle.clap.specs.declared.builder.value_parser.ValueParser.TheVariants.{Unsigned}
use Rattle.clap.specs.declared.builder.value_parser.Reading.TheVariants.{AsWritten}
use Rattle.clap.specs.declared.parser.matches.ValueSource.TheVariants.{CommandLine}
use Rattle.sva_command.specs.Command.{svahost}

abbrev third_of_shapes : List Shape → Shape
third_of_shapes (a ∷ b ∷ c ∷ rest) = c
third_of_shapes _ = (built svahost).top

-- the shape of `storm`, and its rules: `--turns` and the flag for help
abbrev pub leaf : Shape
leaf = third_of_shapes (built svahost).subs

abbrev pub rules : List Rule
rules = leaf.rules

abbrev first_rule : List Rule → Rule
first_rule [] = new_rule []
first_rule (r ∷ rs) = r

abbrev second_rule : List Rule → Rule
second_rule [] = new_rule []
second_rule (r ∷ rs) = first_rule rs

abbrev turns : Rule
turns = first_rule rules

abbrev help : Rule
help = second_rule rules

abbrev pub dashes : Text
dashes = codes "--"

abbrev pub flag : Text
flag = codes "--turns"

abbrev pub id : Text
id = codes "turns"

abbrev pub parser : ValueParser
parser = Unsigned 1 1000000

abbrev pub is_accepted : Text → Bool
is_accepted = accepts false parser

-- ---- where no fault comes of two steps, none comes of either

left : (a b : Kinds) → or_else a b ≡ [] → a ≡ []
left [] b e = refl
left (k ∷ ks) b e = absurd (cc e)

right : (a b : Kinds) → or_else a b ≡ [] → b ≡ []
right [] b e = e
right (k ∷ ks) b e = absurd (cc e)

cons_never : (kind : ErrorKind) (kinds : Kinds) → kind ∷ kinds ≡ [] → ⊥
cons_never kind kinds e = cc e

regroup : (a b c : Kinds) → or_else (or_else a b) c ≡ or_else a (or_else b c)
regroup [] b c = refl
regroup (k ∷ ks) b c = refl

-- ---- the walk over the words, from a state of it on, and its end

abbrev pub state : List Row → Option (Text × List Text) → Waiting → Bool → Walk
state rows pending waiting is_trailing = record {
  held = record { rows = rows; pending = pending; skip = 0 };
  waiting = waiting;
  position = 1;
  is_trailing = is_trailing;
  stopped = None;
}

abbrev pub row : Text → Row
row text = record { id = id; values = text ∷ []; count = None; source = Some CommandLine; reading = AsWritten }

-- the faults behind the last word
abbrev pub end_fault : Held → Kinds
end_fault h = or_else (settle_fault rules false h) (or_else (defaults_fault (settled rules h).rows rules) (check_fault leaf (finished rules h) false))

-- the faults of the words from here on
abbrev pub faults : Walk → List Text → Kinds
faults w words = or_else (walk_fault leaf [] w words) (end_fault (fold (walked rules []) w words).held)

first_turn : (w : Walk) (word : Text) (rest : List Text) → faults w (word ∷ rest) ≡ [] → turn_fault leaf [] w word ≡ []
unfolding walk_fault
first_turn w word rest e = left _ _ (left _ _ e)

later_turns : (w : Walk) (word : Text) (rest : List Text) → faults w (word ∷ rest) ≡ [] → faults (walked rules [] w word) rest ≡ []
unfolding walk_fault
later_turns w word rest e = right (turn_fault leaf [] w word) _ (sym (regroup (turn_fault leaf [] w word) _ _) ∙ e)

ending : (w : Walk) → faults w [] ≡ [] → settle_fault rules false w.held ≡ []
unfolding walk_fault
ending w e =
    left (settle_fault rules false w.held)
    (or_else (defaults_fault (settled rules w.held).rows rules) (check_fault leaf (finished rules w.held) false)) e

-- behind `--` nothing stands
none_behind : (rows : List Row) (pending : Option (Text × List Text)) (waiting : Waiting) (rest : List Text)
    → faults (state rows pending waiting true) rest ≡ []
    → rest ≡ []
unfolding clap_on_literals
none_behind rows pending waiting [] e = refl
none_behind rows pending waiting (word ∷ rest) e = absurd (cons_never _ _ e)

-- ---- a word that begins with `--`

-- what such a word says: its name, and what stands behind its `=`
abbrev unsplit : Text → Option Text → Text
unsplit name None = name
unsplit name (Some value) = name ++ 61 ∷ value

-- a byte more in front of a text that is cut behind `count` bytes
byte_more : (byte : ℕ) (bytes : Text) (count : ℕ) (is_cut is_equals : Bool) → (is_equals ≡ true → byte ≡ 61)
    → unsplit (take count bytes) (if is_cut then Some (drop (count + 1) bytes) else None) ≡ bytes
    → unsplit (take (cond (not is_equals) (1 + count) 0) (byte ∷ bytes))
    (if is_equals || is_cut then Some (drop (cond (not is_equals) (1 + count) 0 + 1) (byte ∷ bytes)) else None) ≡ byte ∷ bytes
byte_more byte bytes count is_cut true is rest = ap (λ b. b ∷ bytes) (sym (is refl))
byte_more byte bytes count true false is rest =
    let one : 1 + count ≡ suc count = omega arith in
    let more : 1 + count + 1 ≡ suc (count + 1) = omega arith in
    ap₂ (λ m n. take m (byte ∷ bytes) ++ 61 ∷ drop n (byte ∷ bytes)) one more ∙ ap (λ l. byte ∷ l) rest
byte_more byte bytes count false false is rest =
    let one : 1 + count ≡ suc count = omega arith in
    ap (λ m. take m (byte ∷ bytes)) one ∙ ap (λ l. byte ∷ l) rest

joined : (text : Text) → unsplit (name_and_value text).0 (name_and_value text).1 ≡ text
joined [] = refl
joined (byte ∷ bytes) = byte_more byte bytes (position_or_len (λ b. b == 61) bytes) (has_byte 61 bytes) (byte == 61) (eqb-true byte 61) (joined bytes)

if_some : (b : Bool) (text rest : Text) → (if b then Some text else None) ≡ Some rest → (b ≡ true) × (text ≡ rest)
if_some true text rest e = (refl, ap (λ o. unwrap_or o text) e)
if_some false text rest e = absurd (cc e)

stripped : (byte : ℕ) (word rest : Text) → strip_byte byte word ≡ Some rest → word ≡ byte ∷ rest
stripped byte [] rest e = absurd (cc e)
stripped byte (first ∷ bytes) rest e =
    let is = if_some (first == byte) bytes rest e in ap₂ (λ b l. b ∷ l) (eqb-true first byte is.0) is.1

of_rest : (text : Text) (p : Text × Option Text) → long_of_rest text ≡ Some p → text ≡ unsplit p.0 p.1
of_rest [] p e = absurd (cc e)
of_rest (byte ∷ bytes) p e = sym (joined (byte ∷ bytes)) ∙ ap (λ (o : Option (Text × Option Text)). let q = unwrap_or o p in unsplit q.0 q.1) e

of_tail : (o : Option Text) (rest : Text) (p : Text × Option Text) → strip_byte 45 rest ≡ o → option_and_then long_of_rest o ≡ Some p
    → rest ≡ 45 ∷ unsplit p.0 p.1
of_tail None rest p is e = absurd (cc e)
of_tail (Some text) rest p is e = stripped 45 rest text is ∙ ap (λ l. 45 ∷ l) (of_rest text p e)

of_word : (o : Option Text) (word : Text) (p : Text × Option Text) → strip_byte 45 word ≡ o
    → option_and_then long_of_rest (option_and_then (strip_byte 45) o) ≡ Some p
    → word ≡ 45 ∷ 45 ∷ unsplit p.0 p.1
of_word None word p is e = absurd (cc e)
of_word (Some rest) word p is e = stripped 45 word rest is ∙ ap (λ l. 45 ∷ l) (of_tail (strip_byte 45 rest) rest p refl e)

-- `--turns` alone, or with a value
data IsFlag (word : Text) (value : Option Text) : Type 0 where
  bare : word ≡ flag → value ≡ None → IsFlag word value
  valued : (text : Text) → word ≡ codes "--turns=" ++ text → value ≡ Some text → IsFlag word value

flagged : (word name : Text) (value : Option Text) → word ≡ 45 ∷ 45 ∷ unsplit name value → name ≡ id → IsFlag word value
flagged word name None e is = bare (e ∙ ap (λ n. 45 ∷ 45 ∷ n) is) refl
flagged word name (Some text) e is = valued text (e ∙ ap (λ n. 45 ∷ 45 ∷ n ++ 61 ∷ text) is) refl

-- ---- a word that has no fault of its own, where `--` doesn't stand before it

or_false : (b : Bool) → (b || false) ≡ true → b ≡ true
or_false true e = refl
or_false false e = e

pub is_word : (xs ys : Text) → bytes_eq xs ys ≡ true → xs ≡ ys
is_word xs ys e = (bytes_eq-Decides xs ys).0 e

is_turns : (a b : Bool) (value : Option Text) (h : Held) → long_fault rules false (cond a (Some turns) (cond b (Some help) None)) value h ≡ []
    → a ≡ true
is_turns true b value h e = refl
is_turns false true None h e = absurd (cons_never _ _ (right (settle_fault rules false h) (use_fault false help [] (settled rules h).rows) e))
is_turns false true (Some value) h e = absurd (cons_never _ _ e)
is_turns false false value h e = absurd (cons_never _ _ e)

short_never : (a : Bool) (rest : Text) (h : Held) (next : Held → Kinds) → short_fault rules false (cond a (Some help) None) rest h next ≡ [] → ⊥
short_never true rest h next e =
    let held = or_else (settle_fault rules false h) (use_fault false help [] (settled rules h).rows) in
    cons_never _ _ (right (settle_fault rules false h) (use_fault false help [] (settled rules h).rows) (left held (next (reacted rules help [] h)) e))
short_never false rest h next e = cons_never _ _ e

module _ (rows : List Row) (pending : Option (Text × List Text)) (waiting : Waiting) (word : Text) where
  abbrev here : Walk
  here = state rows pending waiting false

  -- what becomes of a word that is no flag
  abbrev as_plain : Held × Step
  as_plain = plain_word rules waiting word here.held

  data Met : Type 0 where
    is_dashes : word ≡ dashes → Met
    is_flag : (value : Option Text) → IsFlag word value → long_fault rules false (Some turns) value here.held ≡ [] → Met
    is_plain : word_met rules [] false waiting 1 word here.held ≡ as_plain → step_fault leaf 1 as_plain.0 as_plain.1 ≡ [] → Met

  first_char : (x : Option ℕ) (flags : Text) (fault : Text → ℕ → Held → Kinds) (met : Text → ℕ → Outcome → Held → Held × Outcome)
      → bundle_step_fault rules false x flags 0 here.held fault ≡ []
      → after_flag rules waiting word (bundle_step rules x flags 0 plain here.held met).0 (bundle_step rules x flags 0 plain here.held met).1 ≡ as_plain
  first_char None flags fault met e = refl
  first_char (Some c) flags fault met e = absurd (short_never (has_short help c) _ here.held _ e)

  bundled : (flags : Text) → bundle_fault rules false flags here.held ≡ [] → short_word rules waiting word flags here.held ≡ as_plain
  unfolding clap_on_literals
  bundled [] e = refl
  bundled (f ∷ fs) e = first_char (slice_get (chars (f ∷ fs)) 0) (f ∷ fs) _ _ e

  of_short : (s : Option Text) → option_map_or (λ flags. bundle_fault rules false flags here.held) s [] ≡ []
      → short_or_plain rules waiting word s here.held ≡ as_plain
  of_short None e = refl
  of_short (Some flags) e = bundled flags e

  abbrev long_or_plain : Option (Text × Option Text) → Held × Step
  long_or_plain l = long_or_other rules waiting word l here.held

  abbrev dashes_or_long : Bool → Held × Step
  dashes_or_long b = if b then (here.held, trailing 1) else long_or_plain (long_of word)

  of_long : (l : Option (Text × Option Text)) → long_of word ≡ l → word_met rules [] false waiting 1 word here.held ≡ long_or_plain (long_of word)
      → or_else (flag_word_fault rules false l word here.held) (step_fault leaf 1 (long_or_plain l).0 (long_or_plain l).1) ≡ []
      → Met
  of_long None is met e =
      let same = of_short (short_of word) (left _ _ e) in
      is_plain (met ∙ ap long_or_plain is ∙ same) (subst (λ (m : Held × Step). step_fault leaf 1 m.0 m.1 ≡ []) same (right _ _ e))
  of_long (Some p) is met e =
      let fault = left _ _ e in
      let named = sym (is_word id p.0 (or_false _ (is_turns (has_long turns p.0) (has_long help p.0) p.1 here.held fault))) in
      is_flag p.1 (flagged word p.0 p.1 (of_word (strip_byte 45 word) word p refl is) named)
      (subst (λ name. long_fault rules false (arg_by_long rules name) p.1 here.held ≡ []) named fault)

  of_bool : (b : Bool) → bytes_eq word dashes ≡ b → word_met rules [] false waiting 1 word here.held ≡ dashes_or_long (bytes_eq word dashes)
      → or_else (if b then [] else flag_word_fault rules false (long_of word) word here.held) (step_fault leaf 1 (dashes_or_long b).0 (dashes_or_long b).1) ≡ []
      → Met
  of_bool true is met e = is_dashes (is_word word dashes is)
  of_bool false is met e = of_long (long_of word) refl (met ∙ ap dashes_or_long is) e

  -- where nothing is a subcommand's name
  meets : subcommand_met [] waiting word ≡ None → turn_fault leaf [] here word ≡ [] → Met
  meets none e =
      of_bool (bytes_eq word dashes) refl (ap (λ name. subcommand_or_other rules name waiting 1 word here.held) none)
      (subst (λ name. or_else (other_fault leaf name word here.held)
      (step_fault leaf 1 (subcommand_or_other rules name waiting 1 word here.held).0 (subcommand_or_other rules name waiting 1 word here.held).1) ≡ [])
      none e)

-- ---- where `--turns` was given, it isn't taken again

-- the value that was met of them, if any
abbrev values_of : Option Text → List Text
values_of None = []
values_of (Some value) = value ∷ []

used_twice : (value : Option Text) (text : Text) → use_fault false turns (values_of value) (row text ∷ []) ≡ [] → ⊥
used_twice None text e = cons_never _ _ e
used_twice (Some v) text e = cons_never _ _ e

pending_long : (value : Option Text) (h : Held) → (settle_fault rules false h ≡ [] → ⊥) → long_fault rules false (Some turns) value h ≡ [] → ⊥
pending_long None h pending e = pending e
pending_long (Some value) h pending e = pending (left _ _ e)

-- what is behind a word, by what it met
pub behind : (rows : List Row) (pending : Option (Text × List Text)) (waiting : Waiting) (word : Text) (met : Held × Step)
    → word_met rules [] false waiting 1 word (here rows pending waiting word).held ≡ met
    → walked rules [] (state rows pending waiting false) word ≡ after_step rules word (state rows pending waiting false) met.0 met.1
unfolding clap_on_literals
behind rows pending waiting word met e = ap (λ (m : Held × Step). after_step rules word (state rows pending waiting false) m.0 m.1) e

-- the words behind `--turns` a second time
again_end : (text : Text) (value : Option Text) (waiting : Waiting) (rest : List Text)
    → faults (state (row text ∷ []) (Some (id, values_of value)) waiting true) rest ≡ []
    → ⊥
unfolding clap_on_literals
again_end text value waiting [] e = used_twice value text (ending (state (row text ∷ []) (Some (id, values_of value)) waiting true) e)
again_end text value waiting (word ∷ rest) e = cons_never _ _ e

again_last : (text value : Text) (rest : List Text) → faults (state (row text ∷ []) (Some (id, value ∷ [])) idle false) rest ≡ [] → ⊥
unfolding clap_on_literals
again_last text value [] e = used_twice (Some value) text (ending (state (row text ∷ []) (Some (id, value ∷ [])) idle false) e)
again_last text value (word ∷ rest) e =
    elim (meets (row text ∷ []) (Some (id, value ∷ [])) idle word refl (first_turn (state (row text ∷ []) (Some (id, value ∷ [])) idle false) word rest e)) [
      | is_dashes is ↦
          again_end text (Some value) idle rest
          (subst (λ w. faults (walked rules [] (state (row text ∷ []) (Some (id, value ∷ [])) idle false) w) rest ≡ []) is
          (later_turns (state (row text ∷ []) (Some (id, value ∷ [])) idle false) word rest e))
      | is_flag v is fault ↦ pending_long v _ (used_twice (Some value) text) fault
      | is_plain met step ↦ cons_never _ _ step
    ]

again : (text : Text) (rest : List Text) → faults (state (row text ∷ []) (Some (id, [])) (option id) false) rest ≡ [] → ⊥
unfolding clap_on_literals
again text [] e = cons_never _ _ e
again text (word ∷ rest) e =
    elim (meets (row text ∷ []) (Some (id, [])) (option id) word refl (first_turn (state (row text ∷ []) (Some (id, [])) (option id) false) word rest e)) [
      | is_dashes is ↦
          again_end text None (option id) rest
          (subst (λ w. faults (walked rules [] (state (row text ∷ []) (Some (id, [])) (option id) false) w) rest ≡ []) is
          (later_turns (state (row text ∷ []) (Some (id, [])) (option id) false) word rest e))
      | is_flag v is fault ↦ pending_long v _ (used_twice None text) fault
      | is_plain met step ↦
          again_last text word rest
          (subst (λ w. faults w rest ≡ []) (behind (row text ∷ []) (Some (id, [])) (option id) word _ met)
          (later_turns (state (row text ∷ []) (Some (id, [])) (option id) false) word rest e))
    ]

-- ---- behind a number of turns nothing stands, or `--`

-- a word more or none
abbrev IsEnd : List Text → Type 0
IsEnd rest = (rest ≡ []) ⊎ (rest ≡ dashes ∷ [])

end_flag : (rows : List Row) (pending : Option (Text × List Text)) (text : Text) (word : Text) (value : Option Text) (rest : List Text)
    → settled_rows rules pending rows ≡ row text ∷ [] → IsFlag word value
    → long_fault rules false (Some turns) value (record { rows = rows; pending = pending; skip = 0 }) ≡ []
    → faults (walked rules [] (state rows pending idle false) word) rest ≡ []
    → ⊥
unfolding clap_on_literals
end_flag rows pending text word value rest once (bare is none) fault e =
    again text rest
    (subst (λ l. faults (state l (Some (id, [])) (option id) false) rest ≡ []) once
    (subst (λ w. faults (walked rules [] (state rows pending idle false) w) rest ≡ []) is e))
end_flag rows pending text word value rest once (valued given is some) fault e =
    used_twice (Some given) text
    (subst (λ l. use_fault false turns (given ∷ []) l ≡ []) once
    (right _ _ (subst (λ v. long_fault rules false (Some turns) v (record { rows = rows; pending = pending; skip = 0 }) ≡ []) some fault)))

ends : (rows : List Row) (pending : Option (Text × List Text)) (text : Text) (rest : List Text) → settled_rows rules pending rows ≡ row text ∷ []
    → faults (state rows pending idle false) rest ≡ []
    → IsEnd rest × (settle_fault rules false (record { rows = rows; pending = pending; skip = 0 }) ≡ [])
unfolding clap_on_literals
ends rows pending text [] once e = (inl refl, ending (state rows pending idle false) e)
ends rows pending text (word ∷ rest) once e =
    elim (meets rows pending idle word refl (first_turn (state rows pending idle false) word rest e)) [
      | is_dashes is ↦
          let later = subst (λ w. faults (walked rules [] (state rows pending idle false) w) rest ≡ []) is
          (later_turns (state rows pending idle false) word rest e) in
          let none = none_behind rows pending idle rest later in (
            inr (ap₂ (λ w l. w ∷ l) is none),
            ending (state rows pending idle true) (subst (λ l. faults (state rows pending idle true) l ≡ []) none later),
          )
      | is_flag value is fault ↦ absurd (end_flag rows pending text word value rest once is fault (later_turns (state rows pending idle false) word rest e))
      | is_plain met step ↦ absurd (cons_never _ _ step)
    ]

-- ---- the words behind `storm`

-- none; `--turns` with a number; or that number behind `=`
pub data IsTaken (words : List Text) : Type 0 where
  taken_nothing : words ≡ [] → IsTaken words
  taken_apart : (text : Text) → words ≡ flag ∷ text ∷ [] → is_accepted text ≡ true → IsTaken words
  taken_attached : (text : Text) → words ≡ (codes "--turns=" ++ text) ∷ [] → is_accepted text ≡ true → IsTaken words

abbrev pub IsTakenBefore : List Text → List Text → Type 0
IsTakenBefore words rest = IsTaken rest × ((words ≡ rest) ⊎ (words ≡ rest ++ dashes ∷ []))

accepted : (b : Bool) (kinds rest : Kinds) (kind : ErrorKind) → or_else (if b then [] else kind ∷ kinds) rest ≡ [] → b ≡ true
accepted true kinds rest kind e = refl
accepted false kinds rest kind e = absurd (cc e)

end_behind : (first : List Text) (rest : List Text) → IsEnd rest → (first ++ rest ≡ first) ⊎ (first ++ rest ≡ first ++ dashes ∷ [])
end_behind first rest (inl none) = inl (ap (λ l. first ++ l) none ∙ append-nil first)
end_behind first rest (inr one) = inr (ap (λ l. first ++ l) one)

-- the words behind `--turns`
value_behind : (rest : List Text) → faults (state [] (Some (id, [])) (option id) false) rest ≡ []
    → (text : Text) × (behind : List Text) × (rest ≡ text ∷ behind) × IsEnd behind × (is_accepted text ≡ true)
unfolding clap_on_literals
value_behind [] e = absurd (cons_never _ _ e)
value_behind (word ∷ rest) e =
    elim (meets [] (Some (id, [])) (option id) word refl (first_turn (state [] (Some (id, [])) (option id) false) word rest e)) [
      | is_dashes is ↦
          let later = subst (λ w. faults (walked rules [] (state [] (Some (id, [])) (option id) false) w) rest ≡ []) is
          (later_turns (state [] (Some (id, [])) (option id) false) word rest e) in
          let none = none_behind [] (Some (id, [])) (option id) rest later in
          absurd (cons_never _ _ (subst (λ l. faults (state [] (Some (id, [])) (option id) true) l ≡ []) none later))
      | is_flag v is fault ↦ absurd (pending_long v _ (λ e. cons_never _ _ e) fault)
      | is_plain met step ↦
          let later = subst (λ w. faults w rest ≡ []) (behind [] (Some (id, [])) (option id) word _ met)
          (later_turns (state [] (Some (id, [])) (option id) false) word rest e) in
          let end = ends [] (Some (id, word ∷ [])) word rest refl later in
          (word, rest, refl, end.0, accepted (is_accepted word) _ _ _ end.1)
    ]

pub taken : (words : List Text) → level_fault leaf [] nothing_held words false [] ≡ [] → (rest : List Text) × IsTakenBefore words rest
unfolding clap_on_literals
taken [] e = ([], (taken_nothing refl, inl refl))
taken (word ∷ rest) e =
    elim (meets [] None idle word refl (first_turn (state [] None idle false) word rest e)) [
      | is_dashes is ↦
          let later = subst (λ w. faults (walked rules [] (state [] None idle false) w) rest ≡ []) is (later_turns (state [] None idle false) word rest e) in
          ([], (taken_nothing refl, inr (ap₂ (λ w l. w ∷ l) is (none_behind [] None idle rest later))))
      | is_flag value (bare is none) fault ↦
          let found = value_behind rest (subst (λ w. faults (walked rules [] (state [] None idle false) w) rest ≡ []) is
          (later_turns (state [] None idle false) word rest e)) in (
            flag ∷ found.0 ∷ [],
            (
              taken_apart found.0 refl found.4,
              subst (λ l. (l ≡ flag ∷ found.0 ∷ []) ⊎ (l ≡ flag ∷ found.0 ∷ dashes ∷ [])) (sym (ap₂ (λ w l. w ∷ l) is found.2))
                  (end_behind (flag ∷ found.0 ∷ []) found.1 found.3),
            ),
          )
      | is_flag value (valued text is some) fault ↦
          let word_is = codes "--turns=" ++ text in
          let later = subst (λ w. faults (walked rules [] (state [] None idle false) w) rest ≡ []) is (later_turns (state [] None idle false) word rest e) in
          let end = ends (row text ∷ []) None text rest refl later in
          let passes = subst (λ v. long_fault rules false (Some turns) v nothing_held ≡ []) some fault in (
            word_is ∷ [],
            (
              taken_attached text refl (accepted (is_accepted text) _ _ _ passes),
              subst (λ l. (l ≡ word_is ∷ []) ⊎ (l ≡ word_is ∷ dashes ∷ [])) (sym (ap (λ w. w ∷ rest) is)) (end_behind (word_is ∷ []) rest end.0),
            ),
          )
      | is_plain met step ↦ absurd (cons_never _ _ step)
    ]
