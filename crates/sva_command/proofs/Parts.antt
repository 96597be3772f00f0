-- Lists that are walked word by word.
use Rattle.std.proofs.Common.{◌≡◌, ◌∙◌, ◌+◌, ◌-◌, ◌==◌, ◌<◌, ◌≤◌, ap, refl, sym, ℕ, false, List, [], ◌∷◌, ◌++◌, append_assoc, append-nil, drop, get_or, length}
use Rattle.std.proofs.lemmas.List.{drop_all, drop_more, map-append}
use Rattle.std.specs.Global.{Global}
use Rattle.std.specs.Prelude.{String, string_bytes}
use Rattle.sva_command.specs.Command.{texts}
use Rattle.sva_command.specs.Files.{Named, every, with_word, with_words}

module _ (words : List (String Global)) (place : ℕ) (word : String Global) (inside : place < length words) (is : word ≡ get_or words place word) where
  next_word : drop place words ≡ word ∷ drop (place + 1) words
  next_word = drop_more words place word inside ∙ ap (λ w. w ∷ drop (place + 1) words) (sym is)

  -- one was taken
  pub taken : (old new whole : Named) → new ≡ with_word old (string_bytes word)
      → with_words old (texts (drop place words)) ≡ whole → with_words new (texts (drop (place + 1) words)) ≡ whole
  unfolding with_words
  taken old new whole step so_far =
      ap (λ n. with_words n (texts (drop (place + 1) words))) step ∙ sym (ap (λ l. with_words old (texts l)) next_word) ∙ so_far

  -- one is of the part
  pub chosen : (count : ℕ) (list whole : List (List ℕ)) → list ++ every count 0 (texts (drop place words)) ≡ whole
      → (list ++ string_bytes word ∷ []) ++ every count (count - 1) (texts (drop (place + 1) words)) ≡ whole
  unfolding every
  chosen count list whole so_far =
      append_assoc list (string_bytes word ∷ []) (every count (count - 1) (texts (drop (place + 1) words)))
      ∙ sym (ap (λ l. list ++ every count 0 (texts l)) next_word) ∙ so_far

  -- one isn't
  pub passed : (count before : ℕ) (list whole : List (List ℕ)) → (before == 0) ≡ false → list ++ every count before (texts (drop place words)) ≡ whole
      → list ++ every count (before - 1) (texts (drop (place + 1) words)) ≡ whole
  unfolding every
  passed count before list whole other so_far =
      sym (ap (λ l. list ++ every count before (texts l)) next_word ∙ rw other refl) ∙ so_far

module _ (words : List (String Global)) (place : ℕ) (past : length words ≤ place) where
  no_word : drop place words ≡ []
  no_word = drop_all place words past

  -- all were taken
  pub all_taken : (new whole : Named) → with_words new (texts (drop place words)) ≡ whole → new ≡ whole
  unfolding with_words
  all_taken new whole so_far = sym (ap (λ l. with_words new (texts l)) no_word) ∙ so_far

  -- all were looked at
  pub all_chosen : (count before : ℕ) (list whole : List (List ℕ)) → list ++ every count before (texts (drop place words)) ≡ whole → list ≡ whole
  unfolding every
  all_chosen count before list whole so_far =
      sym (append-nil list) ∙ sym (ap (λ l. list ++ every count before (texts l)) no_word) ∙ so_far

-- a copy of a word was put behind the others
pub pushed : (list new : List (String Global)) (word copy : String Global) (text : List ℕ) → new ≡ list ++ copy ∷ [] → string_bytes copy ≡ text
    → text ≡ string_bytes word → texts new ≡ texts list ++ string_bytes word ∷ []
pushed list new word copy text is copied read =
    ap texts is ∙ map-append string_bytes list (copy ∷ []) ∙ ap (λ t. texts list ++ t ∷ []) (copied ∙ read)
