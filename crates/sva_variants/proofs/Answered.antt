-- What is said of a driver and of other texts; and a text of which a part is kept: what comes of it comes of the whole.
use Rattle.std.proofs.Common.{◌≡◌, ◌∙◌, ◌++◌, ◌<◌, ◌≤◌, ap, arith, cond, refl, sym, subst, ℕ, List, [], ◌∷◌}
use Rattle.std.proofs.Common.{Bool, true, false, ◌||◌, ltb, length, take, Option, Some, None, IfSome, Result, Ok, Err}
use Rattle.std.proofs.lemmas.Bool.{lt-ltb, ltb-false, ltb-true}
use Rattle.std.proofs.lemmas.List.{length-take, take_all}
use Rattle.std.proofs.KnownBytes.{Appends-nil}
use Rattle.std.specs.Io.KnownBytes.{Appends}
use Rattle.sva_grammar.specs.Grammar.{lines_of}
use Rattle.sva_streams.specs.declared.streams.DriveFault.{DriveFault}
use Rattle.sva_streams.specs.declared.streams.DriveFault.TheVariants.{Read, Write, Memory}
use Rattle.sva_streams.specs.Streams.{AppendsProperPrefix}
use Rattle.sva_script_reading.specs.Begins.{config_in, lines_from}
use Rattle.sva_driver_texts.specs.Texts.{ReadsDriver, driver_behind, driver_of, too_large}
use Rattle.sva_driver_texts.specs.declared.kept.Begun.{Begun}
use Rattle.sva_driver_texts.specs.declared.kept.Begun.TheVariants as begun
use Rattle.sva_driver_reports.specs.declared.reports.Ruling.{Ruling}
use Rattle.sva_driver_reports.specs.declared.wanted.Wanted.{Wanted}
use Rattle.sva_driver_reports.specs.Judged.{IsTextJudged, IsTold}
use Rattle.sva_variants.specs.Needed.{wanted_of}
use Rattle.sva_variants.specs.Questions.{IsAnswered, IsVaried, TellsVaried, is_open}
use Rattle.sva_variants.specs.Questions as questions
use Rattle.sva_variants.specs.declared.asking.Question.{Question}
use Rattle.sva_variants.specs.declared.asking.Question.TheVariants.{Needed, Platforms}

-- ---- What is told

pub told_open : (question : Question) (text : List ℕ) (most : ℕ) (wanted : Wanted) (first : Option Ruling) (own slice : List ℕ)
    (said : Option Ruling) (out : List ℕ) → wanted ≡ wanted_of most → IsTextJudged text wanted first own → slice ≡ own
    → is_open question first ≡ true → IsAnswered question text most first slice said out → IsVaried question text most said out
told_open question text most wanted first own slice said out asks judged same so answered = record {
  first = first;
  own = own;
  judged = subst (λ w. IsTextJudged text w first own) asks judged;
  told = subst (λ b. questions.IsTold question text most b first own said out) (sym so)
      (subst (λ o. IsAnswered question text most first o said out) same answered);
}

pub told_alone : (question : Question) (text : List ℕ) (most : ℕ) (wanted : Wanted) (first : Option Ruling) (own slice before out : List ℕ)
    → wanted ≡ wanted_of most → IsTextJudged text wanted first own → slice ≡ own → is_open question first ≡ false → before ≡ []
    → out ≡ before ++ slice → IsVaried question text most first out
told_alone question text most wanted first own slice before out asks judged same other none puts = record {
  first = first;
  own = own;
  judged = subst (λ w. IsTextJudged text w first own) asks judged;
  told = subst (λ b. questions.IsTold question text most b first own first out) (sym other)
      (refl, puts ∙ ap (λ l. l ++ slice) none ∙ same);
}

-- ---- More than the first 1,048,577 bytes don't matter: the text is too large anyhow, and then nothing is judged

large : (text : List ℕ) → 1048576 < length text → driver_of text ≡ Err too_large
large text long =
    ap (λ t. cond (t || ltb 65536 (length (lines_of text))) (Err too_large) (driver_behind (lines_from 1 text) (config_in 0 (lines_from 1 text))))
    (lt-ltb 1048576 (length text) long)

unjudged : (text : List ℕ) (wanted : Wanted) (said : Option Ruling) (out : List ℕ) → driver_of text ≡ Err too_large
    → IsTextJudged text wanted said out → said ≡ None
unjudged text wanted said out wrong h =
    let reads : ReadsDriver (Err too_large) h.to h.wrongs = subst (λ d. ReadsDriver d h.to h.wrongs) wrong h.reads in
    let told : IsTold begun.Faulted wanted h.wrongs said out = subst (λ (to : Begun). IsTold to wanted h.wrongs said out) reads.0 h.told in
    told.0

front_judged : (kept text : List ℕ) (wanted : Wanted) (said : Option Ruling) (out : List ℕ) → driver_of kept ≡ driver_of text
    → IsTextJudged kept wanted said out → IsTextJudged text wanted said out
front_judged kept text wanted said out same h = record {
  to = h.to;
  wrongs = h.wrongs;
  reads = subst (λ d. ReadsDriver d h.to h.wrongs) same h.reads;
  told = h.told;
}

closed : (question : Question) → is_open question None ≡ false
closed Needed = refl
closed Platforms = refl

pub front_told : (question : Question) (text : List ℕ) (most : ℕ) (said : Option Ruling) (out : List ℕ) → IsVaried question (take 1048577 text) most said out
    → IsVaried question text most said out
front_told question text most said out h = by_size (ltb 1048576 (length text)) refl
  where
    by_size : (long : Bool) → ltb 1048576 (length text) ≡ long → IsVaried question text most said out
    by_size true e =
        let long : 1048576 < length text = ltb-true _ _ e in
        let more : 1048576 < length (take 1048577 text) = omega (arith, length-take 1048577 text) in
        let wrong = large (take 1048577 text) more in
        let none : h.first ≡ None = unjudged (take 1048577 text) (wanted_of most) h.first h.own wrong h.judged in
        let shut : is_open question h.first ≡ false = ap (is_open question) none ∙ closed question in
        let alone = subst (λ b. questions.IsTold question (take 1048577 text) most b h.first h.own said out) shut h.told in
        record {
          first = h.first;
          own = h.own;
          judged = front_judged (take 1048577 text) text (wanted_of most) h.first h.own (wrong ∙ sym (large text long)) h.judged;
          told = subst (λ b. questions.IsTold question text most b h.first h.own said out) (sym shut) alone;
        }
    by_size false e =
        let short : length text ≤ 1048577 = omega (arith, ltb-false 1048576 (length text) e) in
        subst (λ t. IsVaried question t most said out) (take_all 1048577 text short) h

-- ---- It was written, a part of it, or nothing

pub whole_told : (question : Question) (text : List ℕ) (most : ℕ) (old new : Option (List ℕ)) (out : List ℕ) (said : Option Ruling) → IsVaried question text most said out
    → Appends old new out → TellsVaried question text most old new (Ok said)
whole_told question text most old new out said tells whole = (out, tells, whole)

pub part_told : (question : Question) (text : List ℕ) (most : ℕ) (old new : Option (List ℕ)) (out : List ℕ) (said : Option Ruling) (fault : DriveFault)
    → IsVaried question text most said out → fault ≡ Write → AppendsProperPrefix old new out → TellsVaried question text most old new (Err fault)
part_told question text most old new out said fault tells is part =
    subst (λ f. TellsVaried question text most old new (Err f)) (sym is) (out, said, tells, (part.0, part.1, part.2, part.3))

nothing_told : (question : Question) (text : List ℕ) (most : ℕ) (old : Option (List ℕ)) (fault : DriveFault) → (fault ≡ Write → ⊥) → TellsVaried question text most old old (Err fault)
nothing_told question text most old Read other = ([], [], refl, Appends-nil old)
nothing_told question text most old Write other = absurd (other refl)
nothing_told question text most old Memory other = ([], [], refl, Appends-nil old)

pub none_told : (question : Question) (text : List ℕ) (most : ℕ) (old new : Option (List ℕ)) (fault : DriveFault) → (fault ≡ Write → ⊥) → new ≡ old
    → TellsVaried question text most old new (Err fault)
none_told question text most old new fault other same = subst (λ n. TellsVaried question text most old n (Err fault)) (sym same) (nothing_told question text most old fault other)

pub unread_told : (question : Question) (known old new : Option (List ℕ)) (most : ℕ) (fault : DriveFault) → (fault ≡ Write → ⊥) → new ≡ old
    → IfSome known (λ input. TellsVaried question input most old new (Err fault))
unread_told question None old new most fault other same = tt
unread_told question (Some input) old new most fault other same = none_told question input most old new fault other same

front_of_told : (question : Question) (text : List ℕ) (most : ℕ) (old new : Option (List ℕ)) (result : Result (Option Ruling) DriveFault)
    → TellsVaried question (take 1048577 text) most old new result → TellsVaried question text most old new result
front_of_told question text most old new (Ok said) h = (h.0, front_told question text most said h.0 h.1, h.2)
front_of_told question text most old new (Err Write) h = (h.0, h.1, front_told question text most h.1 h.0 h.2, h.3)
front_of_told question text most old new (Err Read) h = h
front_of_told question text most old new (Err Memory) h = h

pub kept_told : (question : Question) (known old new : Option (List ℕ)) (most : ℕ) (kept text : List ℕ) (result : Result (Option Ruling) DriveFault)
    → text ≡ kept → IfSome known (λ input. kept ≡ take 1048577 input) → TellsVaried question text most old new result
    → IfSome known (λ input. TellsVaried question input most old new result)
kept_told question None old new most kept text result same cut tells = tt
kept_told question (Some input) old new most kept text result same cut tells =
    front_of_told question input most old new result (subst (λ t. TellsVaried question t most old new result) (same ∙ cut) tells)
