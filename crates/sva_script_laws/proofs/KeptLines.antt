-- A line of a scenario, as a script reads it: it is kept as it is.
use Rattle.std.proofs.Common.{◌≡◌, ◌∙◌, ap, cond, refl, subst, sym, ℕ, ◌&&◌, ◌||◌, Bool, true, false, List, [], ◌∷◌, codes, Option, Some, None}
use Rattle.std.specs.Prelude.{Result, Ok, Err}
use Rattle.std.specs.List.{join_with_byte}
use Rattle.std.specs.Str.{bytes_eq}
use Rattle.std.proofs.lemmas.List.Splits.{join_with_byte-slice_split}
use Rattle.std.proofs.lemmas.Slice.Eq.{bytes_eq-Decides}
use Rattle.sva_step.specs.declared.limits.Config.{Config}
use Rattle.sva_step.specs.declared.steps.Step.{Step}
use Rattle.sva_grammar.specs.declared.faults.Cause.TheVariants.{BadWord}
use Rattle.sva_grammar.specs.Grammar.{◌>>=◌, config_of, config_read, step_of, step_read, word, words_of}
use Rattle.sva_script.specs.declared.places.Field.{Field}
use Rattle.sva_script.specs.declared.places.Field.TheVariants.{Message}
use Rattle.sva_script.specs.declared.faults.Wrong.{Wrong}
use Rattle.sva_script.specs.Lines.{parts_by, parts_of, said, script_words, split_at}
use Rattle.sva_script.specs.Names.{Known}
use Rattle.sva_script.specs.Pieces.{joined, spaced}
use Rattle.sva_script.specs.Places.{places_of, places_of_endpoint, places_of_host}
use Rattle.sva_script.specs.Resolve.{plain_rest}
use Rattle.sva_script.specs.Reserved.{is_kind}
use Rattle.sva_script_reading.specs.Lines.{LineRead, Plain, are_end, is_by_link, line_read, message_by_link, number_text, plain_by, plain_of, plain_read, resolved}
use Rattle.sva_script_reading.specs.Messages.{Link}
use Rattle.sva_script_reading.specs.Begins.{joined_words}
use Rattle.sva_script_reports.specs.Traces.{NoEnd}
use Rattle.sva_script_laws.proofs.ConfigWords.{config_sound}
use Rattle.sva_script_laws.proofs.PlainWords.{all_plain, all_said, joined_line, no_age, no_arrows, no_kind, number_begins, suits_sound}
use Rattle.sva_script_laws.proofs.StepWords.{Placed, Suits, step_places}

-- ---- Its words are the line

pub joined_is : (line word : List ℕ) (words : List (List ℕ)) → words_of line ≡ word ∷ words → joined_words (word ∷ words) ≡ line
joined_is line word words is = joined_line word words ∙ ap (join_with_byte 32) (sym is) ∙ join_with_byte-slice_split 32 line

-- ---- A step

-- what is delivered is a number
same_places : (places others : List Field) → Some places ≡ Some others → places ≡ others
same_places places others is = cc is

by_number : (first : List ℕ) (words : List (List ℕ)) (places : List Field) → places_of first ≡ Some places → Suits places words
    → is_by_link (first ∷ words) ≡ false
unfolding places_of places_of_host places_of_endpoint
by_number first [] places placed suits = refl
by_number first (second ∷ words) places placed suits = by_test (bytes_eq first (codes "deliver")) refl
  where
    others : Bool
    others = bytes_eq second (codes "next") || bytes_eq second (codes "last") || is_kind second

    by_test : (test : Bool) → bytes_eq first (codes "deliver") ≡ test → (bytes_eq first (codes "deliver") && others) ≡ false
    by_test false other = ap (λ t. t && others) other
    by_test true deliver =
        let name : first ≡ codes "deliver" = (bytes_eq-Decides first (codes "deliver")).0 deliver in
        let one : places ≡ Message ∷ [] = same_places places (Message ∷ []) (sym placed ∙ ap places_of name) in
        let digit = number_begins second ((subst (λ ps. Suits ps (second ∷ words)) one suits).0) in
        ap (λ t. t && others) deliver
        ∙ (λ i. no_age second (codes "next") refl digit i || no_age second (codes "last") refl digit i || no_kind second digit i)

-- a line that is read as a step: whatever is known and in flight, it is kept
read_by : (known : Known) (link : Link) (line : List ℕ) (step : Step) (words : List (List ℕ)) → NoEnd line → words_of line ≡ words → step_of words ≡ Ok step
    → Placed (word 0 words) words → line_read known link (parts_of words) ≡ Ok (record { step = Some (record { text = line; step = step }); expected = None })
read_by known link line step [] clean is reads placed = absurd placed.sound
read_by known link line step (first ∷ words) clean is reads placed =
    let parts : parts_of (first ∷ words) ≡ record { name = None; step = first ∷ words; expected = None } =
    ap (parts_by (first ∷ words)) placed.unnamed
    ∙ ap (split_at None (first ∷ words)) (no_arrows (first ∷ words) (placed.sound, suits_sound placed.places words placed.behind)) in
    let plain : plain_of 0 known link (first ∷ words) ≡ Ok line =
    ap (plain_by 0 known link first words) placed.placed
    ∙ ap (λ t. joined (Ok first) (cond t (spaced (number_text (message_by_link 1 link (first ∷ words)))) (plain_rest 1 known placed.places words)))
    (by_number first words placed.places placed.placed placed.behind)
    ∙ ap (joined (Ok first)) (all_plain 1 known placed.places words placed.behind)
    ∙ ap Ok (joined_is line first words is) in
    let writes : step_read line ≡ Ok step = ap (λ t. cond t (Err BadWord) (step_of (words_of line))) clean ∙ ap step_of is ∙ reads in
    let step_is : resolved 0 known link (first ∷ words) ≡ Ok (record { text = line; step = step }) =
    ap (λ text. text >>= λ t. plain_read 0 t (step_read t)) plain ∙ ap (plain_read 0 line) writes in
    let no_end : (are_end (first ∷ words) && false) ≡ false = never_both (are_end (first ∷ words)) in
    ap (line_read known link) parts
    ∙ ap (λ t. cond t (Ok None) (resolved 0 known link (first ∷ words) >>= λ p. Ok (Some p)) >>= λ s. as_read s) no_end
    ∙ ap (λ r. (r >>= λ p. Ok (Some p)) >>= λ s. as_read s) step_is
  where
    never_both : (test : Bool) → (test && false) ≡ false
    never_both true = refl
    never_both false = refl

    as_read : Option Plain → Result LineRead Wrong
    as_read step = Ok (record { step = step; expected = None })

-- such a line
pub record StepLine (line : List ℕ) (step : Step) : Type 0 where
  pub first : List ℕ
  pub words : List (List ℕ)
  pub said : script_words line ≡ first ∷ words
  pub reads : (known : Known) (link : Link)
      → line_read known link (parts_of (first ∷ words)) ≡ Ok (record { step = Some (record { text = line; step = step }); expected = None })

pub step_line_is : (line : List ℕ) (step : Step) → NoEnd line → step_of (words_of line) ≡ Ok step → StepLine line step
step_line_is line step clean reads = by_words (words_of line) refl reads
  where
    by_words : (words : List (List ℕ)) → words_of line ≡ words → step_of words ≡ Ok step → StepLine line step
    by_words [] is reads = absurd ((step_places [] step reads).sound)
    by_words (first ∷ words) is reads =
        let placed = step_places (first ∷ words) step reads in
        record {
          first = first;
          words = words;
          said = ap said is ∙ all_said (first ∷ words) (placed.sound, suits_sound placed.places words placed.behind);
          reads = λ known link. read_by known link line step (first ∷ words) clean is reads placed;
        }

-- ---- The config

-- a line that is read as one
pub record ConfigLine (line : List ℕ) (config : Config) : Type 0 where
  pub first : List ℕ
  pub words : List (List ℕ)
  pub said : script_words line ≡ first ∷ words
  pub joined : joined_words (first ∷ words) ≡ line
  pub reads : config_read line ≡ Ok config

no_words : (config : Config) → config_of [] ≡ Ok config → ⊥
unfolding config_of
no_words config is = cc is

pub config_line_is : (line : List ℕ) (config : Config) → NoEnd line → config_of (words_of line) ≡ Ok config → ConfigLine line config
config_line_is line config clean reads = by_words (words_of line) refl reads
  where
    by_words : (words : List (List ℕ)) → words_of line ≡ words → config_of words ≡ Ok config → ConfigLine line config
    by_words [] is found = absurd (no_words config found)
    by_words (first ∷ words) is found =
        record {
          first = first;
          words = words;
          said = ap said is ∙ all_said (first ∷ words) (config_sound (first ∷ words) config found);
          joined = joined_is line first words is;
          reads = ap (λ t. cond t (Err BadWord) (config_of (words_of line))) clean ∙ reads;
        }
