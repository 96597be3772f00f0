-- Devices as they are kept; pages, one after another; and lists of what is made of each element.
use Rattle.std.proofs.Common.{◌≡◌, ◌∙◌, ◌<◌, ◌≤◌, ◌+◌, ap, arith, refl, sym, ℕ, zero, suc, List, [], ◌∷◌, ◌++◌, append_assoc, append-nil}
use Rattle.std.proofs.Common.{get_or, length, map, take, drop, replicate, Option, Some, None, is_some}
use Rattle.std.specs.Prelude.{slice_index_or, slice_set}
use Rattle.std.proofs.lemmas.List.{drop_all, drop_more, map_push, replicate_more, take_all, take_more}
use denote.Ref.{Bor}
use Rattle.sva_script.specs.Lines.{script_words}
use Rattle.sva_race_texts.specs.declared.terms.races.Line.{Line}
use Rattle.sva_race_texts.specs.Words.{word_at}
use Rattle.sva_race_texts.proofs.Lists.{said}
use Rattle.sva_race_texts.specs.Seen.{line_seen}
use Rattle.sva_race_texts.specs.declared.devices.DeviceLine.{DeviceLine}
use Rattle.sva_race_texts.specs.Devices.{DeviceHas, device_seen, has_of, line_if, page_before, page_named, page_of, pages_from, pages_in, with_page}

-- ---- Lists of what is made of each element

pub map_twice : {A B C : Type 0} (g : B → C) (f : A → B) (xs : List A) → map g (map f xs) ≡ map (λ x. g (f x)) xs
map_twice g f [] = refl
map_twice g f (x ∷ xs) = ap (λ rest. g (f x) ∷ rest) (map_twice g f xs)

-- one more
map_on : {B C : Type 0} (g : C → B) (xs : List C) (k : ℕ) (x : C) → k < length xs → get_or xs k x ≡ x
    → map g (take (k + 1) xs) ≡ map g (take k xs) ++ g x ∷ []
map_on g xs k x below is =
    ap (map g) (take_more xs k x below) ∙ map_push g (take k xs) (get_or xs k x) ∙ ap (λ y. map g (take k xs) ++ g y ∷ []) is

pub mapped_next : {A B C : Type 0} (f : B → A) (g : C → A) (xs : List C) (k : ℕ) (x : C) (old new : List B) (one : B) → k < length xs
    → get_or xs k x ≡ x → f one ≡ g x → new ≡ old ++ one ∷ [] → map f old ≡ map g (take k xs) → map f new ≡ map g (take (k + 1) xs)
mapped_next f g xs k x old new one below is same pushed was =
    ap (map f) pushed ∙ map_push f old one ∙ (λ i. was i ++ same i ∷ []) ∙ sym (map_on g xs k x below is)

pub mapped_end : {A B C : Type 0} (f : B → A) (g : C → A) (xs : List C) (k : ℕ) (old : List B) → length xs ≤ k
    → map f old ≡ map g (take k xs) → map f old ≡ map g xs
mapped_end f g xs k old past was = was ∙ ap (map g) (take_all k xs past)

pub made_next : {B C : Type 0} (g : C → B) (xs : List C) (k : ℕ) (x : C) (old new : List B) (one : B) → k < length xs → get_or xs k x ≡ x
    → one ≡ g x → new ≡ old ++ one ∷ [] → old ≡ map g (take k xs) → new ≡ map g (take (k + 1) xs)
made_next g xs k x old new one below is same pushed was =
    pushed ∙ (λ i. was i ++ same i ∷ []) ∙ sym (map_on g xs k x below is)

pub made_end : {B C : Type 0} (g : C → B) (xs : List C) (k : ℕ) (old : List B) → length xs ≤ k → old ≡ map g (take k xs) → old ≡ map g xs
made_end g xs k old past was = was ∙ ap (map g) (take_all k xs past)

-- ---- Lines of devices

pub devices_by : (found : List DeviceHas) (pages named : List ℕ) (own lines : List (Option DeviceLine))
    → found ≡ map (λ line. has_of pages (line_if line)) own → pages ≡ named → own ≡ lines → found ≡ map (λ line. has_of named (line_if line)) lines
devices_by found pages named own lines is same all = is ∙ (λ i. map (λ line. has_of (same i) (line_if line)) (all i))

pub no_more_devices : (old new : List (Option DeviceLine)) (k : ℕ) → new ≡ old ++ None ∷ [] → map line_if old ≡ replicate k None
    → map line_if new ≡ replicate (k + 1) None
no_more_devices old new k pushed was =
    ap (map line_if) pushed ∙ map_push line_if old None ∙ ap (λ l. l ++ None ∷ []) was ∙ replicate_more k None

-- whether one is there is seen
pub device_there : (devices : List (Option DeviceLine)) (endpoint : ℕ)
    → is_some (slice_index_or (map line_if devices) endpoint None) ≡ is_some (slice_index_or devices endpoint None)
device_there [] endpoint = refl
device_there (None ∷ devices) zero = refl
device_there (Some device ∷ devices) zero = refl
device_there (device ∷ devices) (suc endpoint) = device_there devices endpoint

pub device_put : (devices : List (Option DeviceLine)) (endpoint : ℕ) (device : DeviceLine)
    → map line_if (slice_set devices endpoint (Some device)) ≡ slice_set (map line_if devices) endpoint (Some (device_seen device))
device_put [] endpoint device = refl
device_put (other ∷ devices) zero device = refl
device_put (other ∷ devices) (suc endpoint) device = ap (λ rest. line_if other ∷ rest) (device_put devices endpoint device)

-- ---- Pages that words begin with

words_by : (words : List (Bor (List ℕ))) (i : ℕ) (read : Option ℕ) → i < length words → read ≡ page_of (word_at i (said words))
    → pages_in (said (drop i words)) ≡ page_before read (pages_in (said (drop (i + 1) words)))
unfolding pages_in
words_by [] i read inside is = absurd (omega (arith, inside))
words_by (word ∷ words) zero read inside is = ap (λ it. page_before it (pages_in (said words))) (sym is)
words_by (word ∷ words) (suc i) read inside is =
    let on : suc i + 1 ≡ suc (i + 1) = omega arith in
    words_by words i read (omega (arith, inside)) is
    ∙ ap (λ n. page_before read (pages_in (said (drop n (word ∷ words))))) (sym on)

pub words_next : (words : List (Bor (List ℕ))) (i : ℕ) (read : Option ℕ) (one : ℕ) (old new all : List ℕ) → i < length words
    → read ≡ page_of (word_at i (said words)) → read ≡ Some one → new ≡ old ++ one ∷ [] → old ++ pages_in (said (drop i words)) ≡ all
    → new ++ pages_in (said (drop (i + 1) words)) ≡ all
words_next words i read one old new all inside is reads pushed was =
    let rest = pages_in (said (drop (i + 1) words)) in
    ap (λ l. l ++ rest) pushed
    ∙ append_assoc old (one ∷ []) rest
    ∙ ap (λ l. old ++ l) (sym (words_by words i read inside is ∙ ap (λ it. page_before it rest) reads))
    ∙ was

pub words_stop : (words : List (Bor (List ℕ))) (i : ℕ) (read : Option ℕ) (old all : List ℕ) → i < length words
    → read ≡ page_of (word_at i (said words)) → read ≡ None → old ++ pages_in (said (drop i words)) ≡ all → old ≡ all
words_stop words i read old all inside is fails was =
    sym (append-nil old)
    ∙ ap (λ l. old ++ l) (sym (words_by words i read inside is ∙ ap (λ it. page_before it (pages_in (said (drop (i + 1) words)))) fails))
    ∙ was

pub words_end : (words : List (Bor (List ℕ))) (i : ℕ) (old all : List ℕ) → length words ≤ i → old ++ pages_in (said (drop i words)) ≡ all
    → old ≡ all
unfolding pages_in
words_end words i old all past was =
    sym (append-nil old) ∙ ap (λ l. old ++ l) (sym (ap (λ left. pages_in (said left)) (drop_all i words past))) ∙ was

-- ---- Pages that lines name

pub pages_next : (lines : List Line) (i : ℕ) (line : Line) (pages next : List ℕ) → i < length lines → get_or lines i line ≡ line
    → next ≡ with_page pages (page_named (script_words (line_seen line).text))
    → pages_from pages (map line_seen (drop i lines)) ≡ pages_from next (map line_seen (drop (i + 1) lines))
unfolding pages_from
pages_next lines i line pages next inside is adds =
    ap (λ left. pages_from pages (map line_seen left)) (drop_more lines i line inside)
    ∙ ap (λ (l : Line). pages_from (with_page pages (page_named (script_words (line_seen l).text))) (map line_seen (drop (i + 1) lines))) is
    ∙ ap (λ p. pages_from p (map line_seen (drop (i + 1) lines))) (sym adds)

pub pages_end : (lines : List Line) (i : ℕ) (pages : List ℕ) → length lines ≤ i → pages_from pages (map line_seen (drop i lines)) ≡ pages
unfolding pages_from
pages_end lines i pages past = ap (λ left. pages_from pages (map line_seen left)) (drop_all i lines past)
