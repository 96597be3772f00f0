-- What was said of the texts without a line.
use Rattle.std.proofs.Common.{◌≡◌, ◌∙◌, ◌++◌, ◌+◌, ◌<◌, ap, subst, sym, ℕ, List, [], ◌∷◌, get_or, length, map, take, Option, Some}
use Rattle.std.proofs.lemmas.List.{take_more}
use Rattle.std.proofs.lemmas.Slice.Zip.{all_zipped_more}
use Rattle.std.specs.List.{AllZip}
use Rattle.sva_driver_reports.specs.declared.reports.Ruling.{Ruling}
use Rattle.sva_driver_reports.specs.declared.wanted.Wanted.{Wanted}
use Rattle.sva_driver_reports.specs.Judged.{IsTextJudged}
use Rattle.sva_variants.specs.Cuts.{CutSaid, cut_seen, cuts_of, without}
use Rattle.sva_variants.specs.declared.cuts.Cut.{Cut}
use Rattle.sva_variants.specs.declared.trying.Tried.{Tried}
use Rattle.sva_variants.specs.declared.platforms.Platform.{Platform}
use Rattle.sva_variants.specs.Needed.{AreTried, IsTried, IsTriedBy, first_line, tried_text, wanted_of}
use Rattle.sva_variants.specs.Needed as needed
use Rattle.sva_variants.specs.Platforms.{AreOn, IsOn, label_of, others_of, own_settings, row_text, settings_of, under}
use Rattle.sva_variants.specs.Platforms as platforms

-- ---- What was said of each

pub is_tried : (text : List ℕ) (most : ℕ) (cut : CutSaid) (wanted : Wanted) (left report line before told : List ℕ) (tried : Tried)
    → left ≡ without cut text → wanted ≡ wanted_of most → IsTextJudged left wanted tried.said report → line ≡ first_line report → before ≡ []
    → told ≡ before ++ tried_text cut tried.said line → tried.text.items ≡ told → IsTried text most cut tried
is_tried text most cut wanted left report line before told tried is asks judged first none puts same = (
  report,
  subst (λ t. IsTextJudged t (wanted_of most) tried.said report) is (subst (λ w. IsTextJudged left w tried.said report) asks judged),
  same ∙ puts ∙ ap (λ l. l ++ tried_text cut tried.said line) none ∙ ap (tried_text cut tried.said) first,
)

pub tried_seen : (text : List ℕ) (most : ℕ) (cuts : List Cut) (all : List Tried) → AllZip (IsTriedBy text most) cuts all
    → AllZip (IsTried text most) (map cut_seen cuts) all
tried_seen text most [] [] h = h
tried_seen text most [] (tried ∷ all) h = h
tried_seen text most (cut ∷ cuts) [] h = h
tried_seen text most (cut ∷ cuts) (tried ∷ all) h = (h.0, tried_seen text most cuts all h.1)

pub are_tried : (text : List ℕ) (most : ℕ) (own : List ℕ) (cuts : List Cut) (all : List Tried) (said : Option Ruling) (before out : List ℕ)
    → map cut_seen cuts ≡ cuts_of text → AllZip (IsTriedBy text most) cuts all → said ≡ Some (needed.ruling_of all) → before ≡ []
    → out ≡ before ++ needed.report_text own all → AreTried text most own said out
are_tried text most own cuts all said before out seen tried ruled none puts = record {
  all = all;
  tried = subst (λ list. AllZip (IsTried text most) list all) seen (tried_seen text most cuts all tried);
  ruling = ruled;
  report = puts ∙ ap (λ l. l ++ needed.report_text own all) none;
}

-- ---- What is said on each platform

pub is_on : (text : List ℕ) (most : ℕ) (platform : Platform) (wanted : Wanted) (settings other report label line before told : List ℕ)
    (tried : Tried) → settings ≡ settings_of platform → other ≡ under settings text → wanted ≡ wanted_of most
    → IsTextJudged other wanted tried.said report → label ≡ label_of platform → line ≡ first_line report → before ≡ []
    → told ≡ before ++ row_text label line → tried.text.items ≡ told → IsOn text most platform tried
is_on text most platform wanted settings other report label line before told tried are is asks judged named first none puts same = (
  report,
  subst (λ t. IsTextJudged t (wanted_of most) tried.said report) (is ∙ ap (λ s. under s text) are)
      (subst (λ w. IsTextJudged other w tried.said report) asks judged),
  same ∙ puts ∙ ap (λ l. l ++ row_text label line) none ∙ ap (λ n. row_text n line) named ∙ ap (row_text (label_of platform)) first,
)

pub on_more : (text : List ℕ) (most : ℕ) (platforms : List Platform) (place : ℕ) (blank : Platform) (all new : List Tried) (tried : Tried)
    → place < length platforms → AllZip (IsOn text most) (take place platforms) all → IsOn text most (get_or platforms place blank) tried
    → new ≡ all ++ tried ∷ [] → AllZip (IsOn text most) (take (place + 1) platforms) new
on_more text most platforms place blank all new tried inside so_far is puts =
    subst (λ front. AllZip (IsOn text most) front new) (sym (take_more platforms place blank inside))
    (subst (AllZip (IsOn text most) (take place platforms ++ get_or platforms place blank ∷ [])) (sym puts)
    (all_zipped_more (IsOn text most) (take place platforms) all (get_or platforms place blank) tried so_far is))

pub are_on : (text : List ℕ) (most : ℕ) (first : Option Ruling) (own settings : List ℕ) (others : List Platform) (all : List Tried)
    (said : Option Ruling) (before out : List ℕ) → settings ≡ own_settings text → others ≡ others_of settings
    → AllZip (IsOn text most) others all → said ≡ platforms.ruling_of first all → before ≡ []
    → out ≡ before ++ platforms.report_text own all → AreOn text most first own said out
are_on text most first own settings others all said before out are is tried ruled none puts = record {
  all = all;
  tried = subst (λ list. AllZip (IsOn text most) list all) (is ∙ ap others_of are) tried;
  ruling = ruled;
  report = puts ∙ ap (λ l. l ++ platforms.report_text own all) none;
}
