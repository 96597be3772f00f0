-- Lines of which none is of a definition, a call or a repeat are read as they stand.
use Rattle.std.proofs.Common.{◌≡◌, ◌∙◌, ap, refl, sym, ℕ, List, [], ◌∷◌, ◌++◌, append-nil, append_assoc, Bool, true, false, cond, map}
use Rattle.std.specs.Prelude.{◌==◌, ◌&&◌, not, Option, None, Some, Ok}
use Rattle.std.specs.List.{list_all}
use Rattle.sva_script.specs.Lines.{script_words}
use Rattle.sva_script_reading.specs.Begins.{Line}
use Rattle.sva_race_texts.specs.Words.{word_at}
use Rattle.sva_driver_words.specs.declared.faults.DriverWrong.{DriverWrong}
use Rattle.sva_driver_texts.specs.WrittenOut.{PlainStay, Worded, Writing, begins_own, behind_line, behind_name, ends_body, ifs_behind, is_bare_end, is_plain}
use Rattle.sva_driver_texts.specs.WrittenOut.{kept, line_wrong, nothing_written, taken, text_itself, told_if, worded, written_from, written_of}

both : (a b : Bool) → (a && b) ≡ true → (a ≡ true) × (b ≡ true)
both true b h = (refl, h)
both false b h = absurd (cc h)

isnt : (a : Bool) → not a ≡ true → a ≡ false
isnt true h = absurd (cc h)
isnt false h = refl

-- such lines so far, and how many `if` are open
abbrev at : (lines : List Worded) → (ifs : ℕ) → Writing
at lines ifs = record nothing_written { body = record text_itself { lines = lines; ifs = ifs } }

not_ended : (a b : Bool) → (a && b && false) ≡ false
not_ended true true = refl
not_ended true false = refl
not_ended false b = refl

-- of such a line nothing is wrong, and it stands as it is
right : (lines : List Worded) (ifs : ℕ) (words : List (List ℕ)) → is_plain words ≡ true → line_wrong (at lines ifs) words ≡ None
right lines ifs words plain =
    let two = both (not (begins_own (word_at 0 words))) (not (begins_own (word_at 0 (behind_name words)))) plain in
    rw (isnt (begins_own (word_at 0 words)) two.0) (rw (isnt (begins_own (word_at 0 (behind_name words))) two.1) refl)

stands : (lines : List Worded) (ifs number : ℕ) (words : List (List ℕ)) → is_plain words ≡ true
    → taken (at lines ifs) number words ≡ at (lines ++ (number, words) ∷ []) (ifs_behind ifs words)
stands lines ifs number words plain =
    let two = both (not (begins_own (word_at 0 words))) (not (begins_own (word_at 0 (behind_name words)))) plain in
    let stays : ends_body (at lines ifs) words ≡ false = not_ended (is_bare_end words) (ifs == 0) in
    rw (isnt (begins_own (word_at 0 (behind_name words))) two.1) (rw stays refl)

one_stays : (lines : List Worded) (ifs number : ℕ) (words : List (List ℕ)) → is_plain words ≡ true
    → behind_line (at lines ifs) number words ≡ at (lines ++ (number, words) ∷ []) (ifs_behind ifs words)
one_stays lines ifs number words plain =
    ap (λ wrong. taken (told_if (at lines ifs) number words wrong) number words) (right lines ifs words plain) ∙ stands lines ifs number words plain

all_stay : (so_far : List Worded) (ifs : ℕ) (lines : List Line) → list_all (λ line. is_plain (script_words line.1)) lines ≡ true
    → (behind : ℕ) × (written_from (at so_far ifs) lines ≡ at (so_far ++ map worded lines) behind)
unfolding written_from
all_stay so_far ifs [] plain = (ifs, ap (λ l. at l ifs) (sym (append-nil so_far)))
all_stay so_far ifs (line ∷ lines) plain =
    let words = script_words line.1 in
    let two = both (is_plain words) (list_all (λ line. is_plain (script_words line.1)) lines) plain in
    let rest = all_stay (so_far ++ worded line ∷ []) (ifs_behind ifs words) lines two.1 in (
      rest.0,
      ap (λ writing. written_from writing lines) (one_stays so_far ifs line.0 words two.0) ∙ rest.1
          ∙ ap (λ l. at l rest.0) (append_assoc so_far (worded line ∷ []) (map worded lines)),
    )

pub plain_stay : PlainStay
plain_stay lines plain =
    let all = all_stay [] 0 lines plain in
    ap written_of all.1
