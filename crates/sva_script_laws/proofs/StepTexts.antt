-- The line of a step, and that of a config: no byte of it ends a line, and it says something.
use Rattle.std.proofs.Common.{◌≡◌, ◌∙◌, ap, refl, arith, ℕ, zero, suc, ◌/◌, ◌%◌, ◌^◌, ◌==◌, ◌||◌, Bool, true, false}
use Rattle.std.proofs.Common.{List, [], ◌∷◌, Option, Some, None}
use Rattle.std.specs.Char.{digit_char}
use Rattle.std.specs.List.{join_with_byte, list_any}
use Rattle.std.proofs.lemmas.Bool.Decides.{nat_tests}
use Rattle.sva_step.specs.declared.limits.Config.{Config}
use Rattle.sva_step.specs.declared.steps.Step.{Step}
use Rattle.sva_step.specs.declared.steps.Step.TheVariants as step
use Rattle.sva_step.specs.declared.steps.Verdict.{Verdict}
use Rattle.sva_step.specs.declared.steps.Verdict.TheVariants.{Success, Invalid, Failure}
use Rattle.sva_grammar.specs.Grammar.{is_skipped}
use Rattle.sva_grammar.specs.Laws.{access_word, config_words, flags_word, group_word, hexadecimal, last_word}
use Rattle.sva_grammar.specs.Laws.{step_words, verdict_word}
use Rattle.sva_grammar.proofs.VectorLemmas.{digit_char-ge}
use Rattle.sva_script_reports.specs.Traces.{NoEnd}
use Rattle.sva_script_reports.proofs.TraceLemmas.{no_end-both}
use Rattle.sva_script_laws.proofs.AnswerTexts.{decimal_clean}
use Rattle.sva_script_laws.proofs.Written.{Clean}

-- ---- Words

hexadecimal_clean : (places value : ℕ) → NoEnd (hexadecimal places value)
hexadecimal_clean zero value = refl
hexadecimal_clean (suc places) value =
    let high = digit_char-ge (value / 16 ^ places % 16) in
    let other : (digit_char (value / 16 ^ places % 16) == 10) ≡ false = grind (arith, nat_tests) in
    ap (λ t. t || list_any (λ byte. byte == 10) (hexadecimal places value)) other ∙ hexadecimal_clean places value

access_clean : (write : Bool) → NoEnd (access_word write)
access_clean true = refl
access_clean false = refl

flags_clean : (read write : Bool) → NoEnd (flags_word read write)
flags_clean true true = refl
flags_clean true false = refl
flags_clean false true = refl
flags_clean false false = refl

group_clean : (group : Option ℕ) → NoEnd (group_word group)
group_clean None = refl
group_clean (Some index) = decimal_clean index

last_clean : (last : Bool) → NoEnd (last_word last)
last_clean true = refl
last_clean false = refl

verdict_clean : (verdict : Verdict) → NoEnd (verdict_word verdict)
verdict_clean Success = refl
verdict_clean Invalid = refl
verdict_clean Failure = refl

-- ---- Lines

-- the words of a step
words_clean : (it : Step) → Clean (step_words it)
words_clean step.Space = (refl, tt)
words_clean (step.DropSpace space) = (refl, (decimal_clean space, tt))
words_clean (step.Map space page write) = (refl, (decimal_clean space, (decimal_clean page, (access_clean write, tt))))
words_clean (step.Unmap space page count) = (refl, (decimal_clean space, (decimal_clean page, (decimal_clean count, tt))))
words_clean (step.UnmapRange space page order) = (refl, (decimal_clean space, (decimal_clean page, (decimal_clean order, tt))))
words_clean (step.Bind endpoint space) = (refl, (decimal_clean endpoint, (decimal_clean space, tt)))
words_clean (step.Unbind binding) = (refl, (decimal_clean binding, tt))
words_clean (step.Advance binding) = (refl, (decimal_clean binding, tt))
words_clean (step.Pump endpoint) = (refl, (decimal_clean endpoint, tt))
words_clean (step.Serve endpoint) = (refl, (decimal_clean endpoint, tt))
words_clean (step.Reset endpoint) = (refl, (decimal_clean endpoint, tt))
words_clean (step.Take worker) = (refl, (decimal_clean worker, tt))
words_clean (step.Reply worker verdict) = (refl, (decimal_clean worker, (verdict_clean verdict, tt)))
words_clean (step.Ask endpoint pasid page) = (refl, (decimal_clean endpoint, (decimal_clean pasid, (decimal_clean page, tt))))
words_clean (step.BeginUse endpoint pasid page write) =
    (refl, (decimal_clean endpoint, (decimal_clean pasid, (decimal_clean page, (access_clean write, tt)))))
words_clean (step.EndUse endpoint slot) = (refl, (decimal_clean endpoint, (decimal_clean slot, tt)))
words_clean (step.Evict endpoint pasid page) = (refl, (decimal_clean endpoint, (decimal_clean pasid, (decimal_clean page, tt))))
words_clean (step.Fault endpoint pasid page read write group last) =
    let bits : Clean (flags_word read write ∷ group_word group ∷ last_word last ∷ []) =
    (flags_clean read write, (group_clean group, (last_clean last, tt))) in
    (refl, (decimal_clean endpoint, (decimal_clean pasid, (decimal_clean page, bits))))
words_clean (step.Finish endpoint vector count) = (refl, (decimal_clean endpoint, (hexadecimal_clean 8 vector, (decimal_clean count, tt))))
words_clean (step.Quit endpoint pasid) = (refl, (decimal_clean endpoint, (decimal_clean pasid, tt)))
words_clean (step.Deliver message) = (refl, (decimal_clean message, tt))
words_clean (step.Look frame) = (refl, (decimal_clean frame, tt))
words_clean (step.Bearer pasid) = (refl, (decimal_clean pasid, tt))

joined_clean : (words : List (List ℕ)) → Clean words → NoEnd (join_with_byte 32 words)
joined_clean [] clean = refl
joined_clean (word ∷ []) clean = clean.0
joined_clean (word ∷ next ∷ words) clean =
    no_end-both word (32 ∷ join_with_byte 32 (next ∷ words)) clean.0 (joined_clean (next ∷ words) clean.1)

-- the line of a step
abbrev pub step_text : Step → List ℕ
step_text it = join_with_byte 32 (step_words it)

pub step_clean : (it : Step) → NoEnd (step_text it)
step_clean it = joined_clean (step_words it) (words_clean it)

-- it is none that is skipped
pub step_said : (it : Step) → is_skipped (step_text it) ≡ false
step_said step.Space = refl
step_said _ = refl

-- the line of a config
abbrev pub config_text : Config → List ℕ
config_text config = join_with_byte 32 (config_words config)

pub config_clean : (config : Config) → NoEnd (config_text config)
config_clean config =
    joined_clean (config_words config)
    (refl, (decimal_clean config.endpoints, (decimal_clean config.frames, (decimal_clean config.workers, tt))))

pub config_said : (config : Config) → is_skipped (config_text config) ≡ false
config_said config = refl
