-- Threads and ways, line by line.
use Rattle.std.proofs.Common.{◌≡◌, ◌∙◌, ◌<◌, ◌≤◌, ◌+◌, ap, refl, sym, ℕ, suc, Bool, true, false, cond, List, [], ◌∷◌, ◌++◌, append-nil, append_assoc}
use Rattle.std.proofs.Common.{length, get_or, drop, map, Option, Some, None}
use Rattle.std.specs.Global.{Global}
use Rattle.std.specs.Prelude.{Vec}
use Rattle.std.proofs.lemmas.List.{drop_all, drop_more, length-map}
use Rattle.sva_driver_words.specs.Awaits.{LineSaid, line_seen}
use Rattle.sva_driver_words.specs.declared.kept.LineRead.{LineRead}
use Rattle.sva_driver_texts.specs.declared.ways.Way.{Way}
use Rattle.sva_driver_texts.specs.Ways.{first_from, first_of, firsts_of, threads_by, threads_of, way_of, ways_from, ways_of, with_thread}
use Rattle.sva_driver_texts.proofs.Anys.{map_twice}

abbrev pub seen : List LineRead → List LineSaid
seen lines = map line_seen lines

abbrev pub own : Vec ℕ Global → List ℕ
own thread = thread.items

-- threads so far, line by line
pub thread_next : (lines : List LineRead) (i : ℕ) (blank : LineRead) (old new : List (List ℕ)) → i < length lines
    → new ≡ with_thread old (line_seen (get_or lines i blank)).thread
    → threads_by old (seen (drop i lines)) ≡ threads_by new (seen (drop (i + 1) lines))
unfolding threads_by
thread_next lines i blank old new inside is =
    ap (λ left. threads_by old (seen left)) (drop_more lines i blank inside)
    ∙ ap (λ threads. threads_by threads (seen (drop (i + 1) lines))) (sym is)

pub threads_end : (lines : List LineRead) (i : ℕ) (old : List (List ℕ)) → length lines ≤ i → threads_by old (seen (drop i lines)) ≡ old
unfolding threads_by
threads_end lines i old past = ap (λ left. threads_by old (seen left)) (drop_all i lines past)

-- the first lines of all
pub firsts_by : (lines : List LineSaid) (now threads : List (Vec ℕ Global)) (firsts : List (Option ℕ))
    → firsts ≡ map (λ thread. first_of lines (own thread)) now → now ≡ threads → map own threads ≡ threads_of lines → firsts ≡ firsts_of lines
firsts_by lines now threads firsts is same these =
    is ∙ map_twice (first_of lines) own now ∙ (λ i. map (first_of lines) (map own (same i))) ∙ ap (map (first_of lines)) these

-- the first line that is such, from a place on
module _ (is_such : LineSaid → Bool) (lines : List LineRead) (i : ℕ) where
  by_first : (blank : LineRead) (so : Bool) → i < length lines → is_such (line_seen (get_or lines i blank)) ≡ so
      → first_from is_such i (seen (drop i lines)) ≡ cond so (Some i) (first_from is_such (i + 1) (seen (drop (i + 1) lines)))
  unfolding first_from
  by_first blank so inside is =
      ap (λ left. first_from is_such i (seen left)) (drop_more lines i blank inside)
      ∙ ap (λ so. cond so (Some i) (first_from is_such (i + 1) (seen (drop (i + 1) lines)))) is

  pub first_here : (blank : LineRead) → i < length lines → is_such (line_seen (get_or lines i blank)) ≡ true
      → first_from is_such i (seen (drop i lines)) ≡ Some i
  first_here blank inside is = by_first blank true inside is

  pub first_later : (blank : LineRead) → i < length lines → is_such (line_seen (get_or lines i blank)) ≡ false
      → first_from is_such i (seen (drop i lines)) ≡ first_from is_such (i + 1) (seen (drop (i + 1) lines))
  first_later blank inside is = by_first blank false inside is

  pub first_none : length lines ≤ i → first_from is_such i (seen (drop i lines)) ≡ None
  unfolding first_from
  first_none past = ap (λ left. first_from is_such i (seen left)) (drop_all i lines past)

-- as many ways as lines
pub ways_count : (threads : List (List ℕ)) (place : ℕ) (lines : List LineSaid) → length (ways_from threads place lines) ≡ length lines
unfolding ways_from
ways_count threads place [] = refl
ways_count threads place (line ∷ lines) = ap suc (ways_count threads (place + 1) lines)

pub as_many_ways : (lines : List LineRead) (now ways : List Way) (acts : List LineRead) → now ≡ ways → ways ≡ ways_of (seen acts) → acts ≡ lines
    → length now ≡ length lines
as_many_ways lines now ways acts same is these =
    ap length same ∙ ap length is ∙ ways_count (threads_of (seen acts)) 0 (seen acts) ∙ length-map acts line_seen ∙ ap length these

-- ways so far, line by line
pub way_next : (threads : List (List ℕ)) (lines : List LineRead) (i : ℕ) (blank : LineRead) (way : Way) (old new whole : List Way)
    → i < length lines → way ≡ way_of threads i (line_seen (get_or lines i blank)) (seen (drop (i + 1) lines)) → new ≡ old ++ way ∷ []
    → old ++ ways_from threads i (seen (drop i lines)) ≡ whole
    → new ++ ways_from threads (i + 1) (seen (drop (i + 1) lines)) ≡ whole
unfolding ways_from
way_next threads lines i blank way old new whole inside is grown so_far =
    let left = ways_from threads (i + 1) (seen (drop (i + 1) lines)) in
    ap (λ l. l ++ left) grown ∙ append_assoc old (way ∷ []) left ∙ ap (λ (w : Way). old ++ (w ∷ left)) is
    ∙ sym (ap (λ l. old ++ ways_from threads i (seen l)) (drop_more lines i blank inside)) ∙ so_far

pub ways_end : (threads : List (List ℕ)) (lines : List LineRead) (i : ℕ) (old whole : List Way) → length lines ≤ i
    → old ++ ways_from threads i (seen (drop i lines)) ≡ whole → old ≡ whole
unfolding ways_from
ways_end threads lines i old whole past so_far =
    sym (append-nil old) ∙ sym (ap (λ l. old ++ ways_from threads i (seen l)) (drop_all i lines past)) ∙ so_far
