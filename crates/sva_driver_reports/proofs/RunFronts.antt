-- A text of which a part is kept: what comes of it comes of the whole.
use Rattle.std.proofs.Common.{◌≡◌, ◌∙◌, ◌<◌, ◌≤◌, ap, arith, cond, refl, sym, subst, ℕ, List, []}
use Rattle.std.proofs.Common.{Bool, true, false, ◌||◌, ltb, length, take, Option, Some, None, IfSome, Result, Ok, Err}
use Rattle.std.proofs.KnownBytes.{Appends-nil}
use Rattle.std.proofs.lemmas.Bool.{lt-ltb, ltb-false, ltb-true}
use Rattle.std.proofs.lemmas.List.{length-take, take_all}
use Rattle.std.specs.Io.KnownBytes.{Appends}
use Rattle.sva_grammar.specs.Grammar.{lines_of}
use Rattle.sva_streams.specs.declared.streams.DriveFault.{DriveFault}
use Rattle.sva_streams.specs.declared.streams.DriveFault.TheVariants.{Read, Write, Memory}
use Rattle.sva_streams.specs.Streams.{AppendsProperPrefix}
use Rattle.sva_script_reading.specs.Begins.{config_in, lines_from}
use Rattle.sva_driver_texts.specs.Texts.{ReadsDriver, ReadsText, driver_behind, driver_of, too_large}
use Rattle.sva_driver_reports.specs.declared.reports.Ruling.{Ruling}
use Rattle.sva_driver_reports.specs.Judged.{IsTextJudged, IsTextRun, Judges, Runs}
use Rattle.sva_driver_reports.specs.declared.wanted.Wanted.{Wanted}

-- ---- More than the first 1,048,577 bytes don't matter: the text is too large anyhow

large : (text : List ℕ) → 1048576 < length text → driver_of text ≡ Err too_large
large text long =
    ap (λ t. cond (t || ltb 65536 (length (lines_of text))) (Err too_large) (driver_behind (lines_from 1 text) (config_in 0 (lines_from 1 text))))
    (lt-ltb 1048576 (length text) long)

same_front : (text : List ℕ) → driver_of (take 1048577 text) ≡ driver_of text
same_front text = by_size (ltb 1048576 (length text)) refl
  where
    by_size : (long : Bool) → ltb 1048576 (length text) ≡ long → driver_of (take 1048577 text) ≡ driver_of text
    by_size true e =
        let long : 1048576 < length text = ltb-true _ _ e in
        let more : 1048576 < length (take 1048577 text) = omega (arith, length-take 1048577 text) in
        large (take 1048577 text) more ∙ sym (large text long)
    by_size false e =
        let short : length text ≤ 1048577 = omega (arith, ltb-false 1048576 (length text) e) in
        ap driver_of (take_all 1048577 text short)

front_judged : (text : List ℕ) (wanted : Wanted) (said : Option Ruling) (out : List ℕ) → IsTextJudged (take 1048577 text) wanted said out
    → IsTextJudged text wanted said out
front_judged text wanted said out h = record {
  to = h.to;
  wrongs = h.wrongs;
  reads = subst (λ d. ReadsDriver d h.to h.wrongs) (same_front text) h.reads;
  told = h.told;
}

front_run : (text : List ℕ) (said : Option Ruling) (out : List ℕ) → IsTextRun (take 1048577 text) said out → IsTextRun text said out
front_run text said out h = record {
  read = h.read;
  wrongs = h.wrongs;
  reads = subst (λ d. ReadsText d h.read h.wrongs) (same_front text) h.reads;
  ran = h.ran;
}

-- ---- It was written, a part of it, or nothing

pub whole_judged : (text : List ℕ) (wanted : Wanted) (old new : Option (List ℕ)) (out : List ℕ) (said : Option Ruling) → IsTextJudged text wanted said out
    → Appends old new out → Judges text wanted old new (Ok said)
whole_judged text wanted old new out said tells whole = (out, tells, whole)

pub part_judged : (text : List ℕ) (wanted : Wanted) (old new : Option (List ℕ)) (out : List ℕ) (said : Option Ruling) (fault : DriveFault)
    → IsTextJudged text wanted said out → fault ≡ Write → AppendsProperPrefix old new out → Judges text wanted old new (Err fault)
part_judged text wanted old new out said fault tells is part =
    subst (λ f. Judges text wanted old new (Err f)) (sym is) (out, said, tells, (part.0, part.1, part.2, part.3))

nothing_judged : (text : List ℕ) (wanted : Wanted) (old : Option (List ℕ)) (fault : DriveFault) → (fault ≡ Write → ⊥) → Judges text wanted old old (Err fault)
nothing_judged text wanted old Read other = ([], [], refl, Appends-nil old)
nothing_judged text wanted old Write other = absurd (other refl)
nothing_judged text wanted old Memory other = ([], [], refl, Appends-nil old)

pub none_judged : (text : List ℕ) (wanted : Wanted) (old new : Option (List ℕ)) (fault : DriveFault) → (fault ≡ Write → ⊥) → new ≡ old
    → Judges text wanted old new (Err fault)
none_judged text wanted old new fault other same = subst (λ n. Judges text wanted old n (Err fault)) (sym same) (nothing_judged text wanted old fault other)

pub unread_judged : (known old new : Option (List ℕ)) (wanted : Wanted) (fault : DriveFault) → (fault ≡ Write → ⊥) → new ≡ old
    → IfSome known (λ input. Judges input wanted old new (Err fault))
unread_judged None old new wanted fault other same = tt
unread_judged (Some input) old new wanted fault other same = none_judged input wanted old new fault other same

front_of_judged : (text : List ℕ) (wanted : Wanted) (old new : Option (List ℕ)) (result : Result (Option Ruling) DriveFault)
    → Judges (take 1048577 text) wanted old new result → Judges text wanted old new result
front_of_judged text wanted old new (Ok said) h = (h.0, front_judged text wanted said h.0 h.1, h.2)
front_of_judged text wanted old new (Err Write) h = (h.0, h.1, front_judged text wanted h.1 h.0 h.2, h.3)
front_of_judged text wanted old new (Err Read) h = h
front_of_judged text wanted old new (Err Memory) h = h

pub kept_judged : (known old new : Option (List ℕ)) (wanted : Wanted) (kept text : List ℕ) (result : Result (Option Ruling) DriveFault)
    → text ≡ kept → IfSome known (λ input. kept ≡ take 1048577 input) → Judges text wanted old new result
    → IfSome known (λ input. Judges input wanted old new result)
kept_judged None old new wanted kept text result same cut tells = tt
kept_judged (Some input) old new wanted kept text result same cut tells =
    front_of_judged input wanted old new result (subst (λ t. Judges t wanted old new result) (same ∙ cut) tells)

pub whole_run : (text : List ℕ) (old new : Option (List ℕ)) (out : List ℕ) (said : Option Ruling) → IsTextRun text said out
    → Appends old new out → Runs text old new (Ok said)
whole_run text old new out said tells whole = (out, tells, whole)

pub part_run : (text : List ℕ) (old new : Option (List ℕ)) (out : List ℕ) (said : Option Ruling) (fault : DriveFault)
    → IsTextRun text said out → fault ≡ Write → AppendsProperPrefix old new out → Runs text old new (Err fault)
part_run text old new out said fault tells is part =
    subst (λ f. Runs text old new (Err f)) (sym is) (out, said, tells, (part.0, part.1, part.2, part.3))

nothing_run : (text : List ℕ) (old : Option (List ℕ)) (fault : DriveFault) → (fault ≡ Write → ⊥) → Runs text old old (Err fault)
nothing_run text old Read other = ([], [], refl, Appends-nil old)
nothing_run text old Write other = absurd (other refl)
nothing_run text old Memory other = ([], [], refl, Appends-nil old)

pub none_run : (text : List ℕ) (old new : Option (List ℕ)) (fault : DriveFault) → (fault ≡ Write → ⊥) → new ≡ old
    → Runs text old new (Err fault)
none_run text old new fault other same = subst (λ n. Runs text old n (Err fault)) (sym same) (nothing_run text old fault other)

pub unread_run : (known old new : Option (List ℕ)) (fault : DriveFault) → (fault ≡ Write → ⊥) → new ≡ old
    → IfSome known (λ input. Runs input old new (Err fault))
unread_run None old new fault other same = tt
unread_run (Some input) old new fault other same = none_run input old new fault other same

front_of_run : (text : List ℕ) (old new : Option (List ℕ)) (result : Result (Option Ruling) DriveFault)
    → Runs (take 1048577 text) old new result → Runs text old new result
front_of_run text old new (Ok said) h = (h.0, front_run text said h.0 h.1, h.2)
front_of_run text old new (Err Write) h = (h.0, h.1, front_run text h.1 h.0 h.2, h.3)
front_of_run text old new (Err Read) h = h
front_of_run text old new (Err Memory) h = h

pub kept_run : (known old new : Option (List ℕ)) (kept text : List ℕ) (result : Result (Option Ruling) DriveFault)
    → text ≡ kept → IfSome known (λ input. kept ≡ take 1048577 input) → Runs text old new result
    → IfSome known (λ input. Runs input old new result)
kept_run None old new kept text result same cut tells = tt
kept_run (Some input) old new kept text result same cut tells =
    front_of_run input old new result (subst (λ t. Runs t old new result) (same ∙ cut) tells)
