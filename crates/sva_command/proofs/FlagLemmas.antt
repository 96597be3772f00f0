-- clap's flags for help and for the version have no match, so behind a command that takes no arguments stands nothing, or `--` alone: each other
-- word has a fault.
use Rattle.std.proofs.Common.{◌≡◌, ◌⊎◌, inl, inr, refl, subst, ap, ◌∙◌, ℕ, Bool, true, false, List, [], ◌∷◌, Option, Some, None, codes}
use Rattle.std.proofs.Common.{if◌then◌else◌, slice_get, cond, chars}
use Rattle.std.specs.Str.{bytes_eq}
use Rattle.std.specs.Option.{option_map_or}
use Rattle.std.proofs.lemmas.Slice.Eq.{bytes_eq-Decides}
use Rattle.clap.specs.Words.{Kinds, Shape, Rule, Text, built, new_rule}
use Rattle.clap.specs.Kinds.{or_else}
use Rattle.clap.specs.Lexer.{long_of, short_of}
use Rattle.clap.specs.Walk.{arg_by_long, arg_by_short, Held, after_flag, bundle_step, has_long, has_short, idle}
use Rattle.clap.specs.Walk.{long_or_other, nothing_held, Outcome, plain, short_or_plain, short_word, trailing, value, walk_from, walked}
use Rattle.clap.specs.Faults.{bundle_fault, bundle_step_fault, flag_word_fault, level_fault, long_fault, short_fault, step_fault, turn_fault, walk_fault}
use Rattle.clap.proofs.OnLiterals.{clap_on_literals}
use Rattle.sva_command.specs.Command.{svahost}

abbrev pub top : Shape
top = (built svahost).top

abbrev pub first_of_shapes : List Shape → Shape
first_of_shapes [] = top
first_of_shapes (s ∷ ss) = s

-- the shape of a command that takes no arguments, but for its name
abbrev pub leaf : Shape
leaf = first_of_shapes (built svahost).subs

abbrev pub tops : List Rule
tops = top.rules

abbrev pub helps : List Rule
helps = leaf.rules

-- a command with these flags alone
abbrev pub given : List Rule → Shape → Shape
given rules s = record s { rules = rules; args_override_self = false }

pub left : (a b : Kinds) → or_else a b ≡ [] → a ≡ []
left [] b e = refl
left (k ∷ ks) b e = absurd (cc e)

pub right : (a b : Kinds) → or_else a b ≡ [] → b ≡ []
right [] b e = e
right (k ∷ ks) b e = absurd (cc e)

some_fault : (b : Bool) (one two : Kinds) → (one ≡ [] → ⊥) → (two ≡ [] → ⊥) → (if b then one else two) ≡ [] → ⊥
some_fault true one two f g e = f e
some_fault false one two f g e = g e

-- ---- flags that each have an answer of their own, which is no match: help, or help and the version

pub record OnlyAsk (rules : List Rule) : Type 0 where
  long : (name : Text) (v : Option Text) → long_fault rules false (arg_by_long rules name) v nothing_held ≡ [] → ⊥
  short : (c : ℕ) (rest : Text) (next : Held → Kinds) → short_fault rules false (arg_by_short rules c) rest nothing_held next ≡ [] → ⊥
  stray : (s : Shape) (h : Held) → step_fault (given rules s) 1 h value ≡ [] → ⊥

abbrev first_rule : List Rule → Rule
first_rule [] = new_rule []
first_rule (r ∷ rs) = r

abbrev second_rule : List Rule → Rule
second_rule [] = new_rule []
second_rule (r ∷ rs) = first_rule rs

abbrev help : Rule
help = first_rule tops

abbrev version : Rule
version = second_rule tops

long_never : (rules : List Rule) (a b : Bool) (v : Option Text)
    → long_fault rules false (cond a (Some help) (cond b (Some version) None)) v nothing_held ≡ [] → ⊥
long_never rules true b None e = cc e
long_never rules true b (Some v) e = cc e
long_never rules false true None e = cc e
long_never rules false true (Some v) e = cc e
long_never rules false false v e = cc e

short_never : (rules : List Rule) (a b : Bool) (rest : Text) (next : Held → Kinds)
    → short_fault rules false (cond a (Some help) (cond b (Some version) None)) rest nothing_held next ≡ [] → ⊥
short_never rules true b rest next e = cc e
short_never rules false true rest next e = cc e
short_never rules false false rest next e = cc e

help_asks : OnlyAsk helps
help_asks = record {
  long = λ name v e. long_never helps (has_long help name) false v e;
  short = λ c rest next e. short_never helps (has_short help c) false rest next e;
  stray = λ s h e. some_fault s.is_leaf _ _ (λ k. cc k) (λ k. cc k) e;
}

pub tops_ask : OnlyAsk tops
tops_ask = record {
  long = λ name v e. long_never tops (has_long help name) (has_long version name) v e;
  short = λ c rest next e. short_never tops (has_short help c) (has_short version c) rest next e;
  stray = λ s h e. some_fault s.is_leaf _ _ (λ k. cc k) (λ k. cc k) e;
}

-- ---- a word that has no fault of its own is `--`, or stands where a value would

is_value_after : (rules : List Rule) → OnlyAsk rules
    → (x : Option ℕ) (word flags : Text) (fault : Text → ℕ → Held → Kinds) (met : Text → ℕ → Outcome → Held → Held × Outcome)
    → bundle_step_fault rules false x flags 0 nothing_held fault ≡ []
    → (after_flag rules idle word (bundle_step rules x flags 0 plain nothing_held met).0 (bundle_step rules x flags 0 plain nothing_held met).1).1 ≡ value
is_value_after rules ask None word flags fault met e = refl
is_value_after rules ask (Some c) word flags fault met e = absurd (ask.short c _ _ e)

is_value_bundle : (rules : List Rule) → OnlyAsk rules → (flags word : Text) → bundle_fault rules false flags nothing_held ≡ []
    → (short_word rules idle word flags nothing_held).1 ≡ value
unfolding clap_on_literals
is_value_bundle rules ask [] word e = refl
is_value_bundle rules ask (f ∷ fs) word e = is_value_after rules ask (slice_get (chars (f ∷ fs)) 0) word (f ∷ fs) _ _ e

is_value_short : (rules : List Rule) → OnlyAsk rules → (s : Option Text) (word : Text)
    → option_map_or (λ flags. bundle_fault rules false flags nothing_held) s [] ≡ []
    → (short_or_plain rules idle word s nothing_held).1 ≡ value
is_value_short rules ask None word e = refl
is_value_short rules ask (Some flags) word e = is_value_bundle rules ask flags word e

is_value : (rules : List Rule) → OnlyAsk rules → (l : Option (Text × Option Text)) (word : Text) → flag_word_fault rules false l word nothing_held ≡ []
    → (long_or_other rules idle word l nothing_held).1 ≡ value
is_value rules ask None word e = is_value_short rules ask (short_of word) word e
is_value rules ask (Some p) word e = absurd (ask.long p.0 p.1 e)

-- the first word of a command is its subcommand, or `--`, or has a fault
pub dashes : (rules : List Rule) → OnlyAsk rules → (s : Shape) (b : Bool) (word : Text)
    → or_else (if b then [] else flag_word_fault rules false (long_of word) word nothing_held)
    (step_fault (given rules s) 1 (if b then (nothing_held, trailing 1) else long_or_other rules idle word (long_of word) nothing_held).0
    (if b then (nothing_held, trailing 1) else long_or_other rules idle word (long_of word) nothing_held).1) ≡ []
    → b ≡ true
dashes rules ask s true word e = refl
dashes rules ask s false word e =
    let held = (long_or_other rules idle word (long_of word) nothing_held).0 in
    absurd (ask.stray s held
    (subst (λ step. step_fault (given rules s) 1 held step ≡ []) (is_value rules ask (long_of word) word (left _ _ e)) (right _ _ e)))

pub is_word : (xs ys : Text) → bytes_eq xs ys ≡ true → xs ≡ ys
is_word xs ys e = (bytes_eq-Decides xs ys).0 e

-- ---- the words behind a command that takes no arguments

leaf_dashes : (word : Text) → turn_fault leaf [] (walk_from nothing_held) word ≡ [] → word ≡ codes "--"
unfolding clap_on_literals
leaf_dashes word e = is_word _ _ (dashes helps help_asks leaf (bytes_eq word (codes "--")) word e)

none_behind : (rest : List Text) → walk_fault leaf [] (walked leaf.rules [] (walk_from nothing_held) (codes "--")) rest ≡ [] → rest ≡ []
unfolding clap_on_literals
none_behind [] e = refl
none_behind (word ∷ rest) e = cc e

pub leaf_words : (words : List Text) → level_fault leaf [] nothing_held words false [] ≡ [] → (words ≡ []) ⊎ (words ≡ codes "--" ∷ [])
unfolding clap_on_literals
leaf_words [] e = inl refl
leaf_words (word ∷ rest) e =
    let first = leaf_dashes word (left _ _ (left _ _ e)) in
    let behind = none_behind rest
    (subst (λ w. walk_fault leaf [] (walked leaf.rules [] (walk_from nothing_held) w) rest ≡ []) first (right _ _ (left _ _ e))) in
    inr (ap (λ w. w ∷ rest) first ∙ ap (λ r. codes "--" ∷ r) behind)
