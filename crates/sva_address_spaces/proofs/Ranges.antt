-- The mapped pages of a range: taken out of it the lowest first, counted, and whether there are any.
use Rattle.std.proofs.Common.{◌≡◌, ℕ, zero, suc, ◌+◌, ◌<◌, ◌≤◌, Bool, true, false, cond, List, Option, Some, None, [], ◌∷◌, ◌++◌, length, set, slice_get, refl}
use Rattle.std.proofs.Common.{sym, ap, subst, ◌∙◌, arith, add-one, if◌then◌else◌}
use Rattle.std.specs.Prelude.{filter, find, is_some, not, ◌&&◌, nat_lt, option_map}
use Rattle.std.proofs.lemmas.Bool.Decides.{nat_tests}
use Rattle.std.proofs.lemmas.List.{length-append}
use Rattle.std.proofs.lemmas.Option.{slice_get_within}
use Rattle.sva_space.specs.Pages.{IsRising, without_page, mappings_between}
use Rattle.sva_space.specs.Pages as space
use Rattle.sva_space.proofs.Ranges.{lowest_found, first_of}
use Rattle.sva_space.proofs.Rows.{found_behind, none_below, none_left_below}
use Rattle.sva_frames.specs.declared.waits.Target.{Target}
use Rattle.sva_frames.specs.Frames.{Holding, Mapped, after_waits}
use Rattle.sva_frames.specs.Room.{HaveRoom}
use Rattle.sva_model.specs.Unmappings.{in_range}
use Rattle.sva_model.specs.Wire.{PageWire}
use Rattle.sva_labels.specs.Finding.{page_at}
use Rattle.sva_labels.specs.Moves.{is_between, placed, place_for, without_pages}
use Rattle.sva_address_spaces.specs.Seen.{page_seen, pages_seen, places_seen, targets_seen}
use Rattle.sva_address_spaces.specs.Owned.{Owns, Balanced}
use Rattle.sva_address_spaces.specs.Pieces.{is_some_mapped, count_mapped}
use Rattle.sva_address_spaces.proofs.PageLists.{pages_seen-remove}
use Rattle.sva_address_spaces.proofs.FrameLists.{places_seen-set}
use Rattle.sva_address_spaces.proofs.Counting.{balanced-none, balanced-on, balanced-is, balanced-unmap, owns-on, owned-mapped}
use Rattle.sva_address_spaces.proofs.Rows.{listed, between-none, between-more, count_mapped-none, count_mapped-more, some_mapped-none, some_mapped-more}
use Rattle.sva_address_spaces.proofs.Waiting.{place-after, none-after, room_kept}

-- the mapped pages of a range, as they are seen
abbrev pub in_row : (page count : ℕ) → List (ℕ × (ℕ × Bool)) → List PageWire
in_row q n ms = filter (is_between q n) (pages_seen ms)

between-seen : (q n : ℕ) (ms : List (ℕ × (ℕ × Bool))) → pages_seen (mappings_between q (q + n) ms) ≡ in_row q n ms
between-seen q n [] = refl
between-seen q n (m ∷ ms) = by_test (space.is_between q (q + n) m) refl (between-seen q n ms)
  where
    same : (q n k : ℕ) → (not (nat_lt k q) && nat_lt k (q + n)) ≡ in_range q n k
    same q n k = grind (arith, nat_tests)

    by_test : (b : Bool) → space.is_between q (q + n) m ≡ b → pages_seen (mappings_between q (q + n) ms) ≡ in_row q n ms
        → pages_seen (cond (space.is_between q (q + n) m) (m ∷ mappings_between q (q + n) ms) (mappings_between q (q + n) ms))
        ≡ cond (in_range q n m.0) (page_seen m ∷ in_row q n ms) (in_row q n ms)
    by_test true is rest =
        ap (λ b. pages_seen (cond b (m ∷ mappings_between q (q + n) ms) (mappings_between q (q + n) ms))) is ∙ ap (λ ps. page_seen m ∷ ps) rest
        ∙ sym (ap (λ b. cond b (page_seen m ∷ in_row q n ms) (in_row q n ms)) (sym (same q n m.0) ∙ is))
    by_test false is rest =
        ap (λ b. pages_seen (cond b (m ∷ mappings_between q (q + n) ms) (mappings_between q (q + n) ms))) is ∙ rest
        ∙ sym (ap (λ b. cond b (page_seen m ∷ in_row q n ms) (in_row q n ms)) (sym (same q n m.0) ∙ is))

-- Whether there is one, and how many there are.

pub some_in_row : (ms : List (ℕ × (ℕ × Bool))) (q n : ℕ) → IsRising ms → is_some_mapped (pages_seen ms) q n ≡ is_some (slice_get (in_row q n ms) 0)
some_in_row ms q zero rising =
    some_mapped-none (pages_seen ms) q ∙ sym (ap (λ (ps : List PageWire). is_some (slice_get ps 0)) (between-none q (pages_seen ms)))
some_in_row ms q (suc n) rising =
    ap (is_some_mapped (pages_seen ms) q) (sym (add-one n))
    ∙ some_mapped-more (pages_seen ms) q n
    ∙ by_page (page_at (pages_seen ms) (q + n)) (in_row q n ms) (some_in_row ms q n rising)
    ∙ sym (ap (λ (ps : List PageWire). is_some (slice_get ps 0)) (between-more q n ms rising))
    ∙ ap (λ (k : ℕ). is_some (slice_get (in_row q k ms) 0)) (add-one n)
  where
    by_page : (o : Option PageWire) (ps : List PageWire) → is_some_mapped (pages_seen ms) q n ≡ is_some (slice_get ps 0)
        → (if is_some o then true else is_some_mapped (pages_seen ms) q n) ≡ is_some (slice_get (ps ++ listed o) 0)
    by_page None [] rest = rest
    by_page None (p ∷ ps) rest = rest
    by_page (Some e) [] rest = refl
    by_page (Some e) (p ∷ ps) rest = refl

none_longer : (ps : List PageWire) → length ps ≡ length (ps ++ [])
none_longer ps = omega (arith, length-append ps [])

one_longer : (n : ℕ) (ps : List PageWire) (e : PageWire) → n ≡ length ps → suc n ≡ length (ps ++ e ∷ [])
one_longer n ps e is = omega (arith, is, length-append ps (e ∷ []))

pub count_in_row : (ms : List (ℕ × (ℕ × Bool))) (q n : ℕ) → IsRising ms → count_mapped (pages_seen ms) q n ≡ length (in_row q n ms)
count_in_row ms q zero rising =
    count_mapped-none (pages_seen ms) q ∙ sym (ap (λ (ps : List PageWire). length ps) (between-none q (pages_seen ms)))
count_in_row ms q (suc n) rising =
    ap (count_mapped (pages_seen ms) q) (sym (add-one n))
    ∙ count_mapped-more (pages_seen ms) q n _ refl
    ∙ by_page (page_at (pages_seen ms) (q + n)) (in_row q n ms) (count_in_row ms q n rising)
    ∙ sym (ap (λ (ps : List PageWire). length ps) (between-more q n ms rising))
    ∙ ap (λ (k : ℕ). length (in_row q k ms)) (add-one n)
  where
    by_page : (o : Option PageWire) (ps : List PageWire) → count_mapped (pages_seen ms) q n ≡ length ps
        → (if is_some o then suc (count_mapped (pages_seen ms) q n) else count_mapped (pages_seen ms) q n) ≡ length (ps ++ listed o)
    by_page None ps rest = rest ∙ none_longer ps
    by_page (Some e) ps rest = one_longer _ ps e rest

none_most : (k : ℕ) → k ≡ 0 → k ≤ 0
none_most k is = omega (arith, is)

few_in_row : (ms : List (ℕ × (ℕ × Bool))) (q n : ℕ) → IsRising ms → length (in_row q n ms) ≤ n
few_in_row ms q zero rising = none_most (length (in_row q 0 ms)) (ap (λ (ps : List PageWire). length ps) (between-none q (pages_seen ms)))
few_in_row ms q (suc n) rising =
    subst (λ (k : ℕ). length (in_row q k ms) ≤ k) (add-one n)
    (next (length (in_row q (n + 1) ms)) (in_row q n ms) (page_at (pages_seen ms) (q + n))
    (ap (λ (ps : List PageWire). length ps) (between-more q n ms rising)) (few_in_row ms q n rising))
  where
    next : (k : ℕ) (ps : List PageWire) (o : Option PageWire) → k ≡ length (ps ++ listed o) → length ps ≤ n → k ≤ n + 1
    next k ps None is most = omega (arith, is, none_longer ps, most)
    next k ps (Some e) is most = omega (arith, is, one_longer (length ps) ps e refl, most)

-- One less, the lowest.

pub lowest_of_row : (ms : List (ℕ × (ℕ × Bool))) (q n : ℕ) (m : ℕ × (ℕ × Bool)) → IsRising ms → find (space.is_between q (q + n)) ms ≡ Some m
    → in_row q n ms ≡ page_seen m ∷ in_row q n (without_page ms m.0)
lowest_of_row ms q n m rising first =
    let lowest = lowest_found q (q + n) ms m rising first in
    sym (between-seen q n ms) ∙ ap pages_seen lowest.others ∙ ap (λ ps. page_seen m ∷ ps) (between-seen q n (without_page ms m.0))

none_of_row : (ms : List (ℕ × (ℕ × Bool))) (q n : ℕ) → find (space.is_between q (q + n)) ms ≡ None → in_row q n ms ≡ []
none_of_row ms q n none = sym (between-seen q n ms) ∙ ap pages_seen (empty (mappings_between q (q + n) ms) (first_of (space.is_between q (q + n)) ms ∙ none))
  where
    empty : (es : List (ℕ × (ℕ × Bool))) → slice_get es 0 ≡ None → es ≡ []
    empty [] h = refl
    empty (e ∷ es) h = absurd (cc (h))

-- the code's test
pub some_found : (ms : List (ℕ × (ℕ × Bool))) (q n : ℕ) → IsRising ms
    → is_some (option_map (λ (m : ℕ × (ℕ × Bool)). m.0) (find (space.is_between q (q + n)) ms)) ≡ is_some_mapped (pages_seen ms) q n
some_found ms q n rising =
    by_result (find (space.is_between q (q + n)) ms) refl
  where
    by_result : (o : Option (ℕ × (ℕ × Bool))) → find (space.is_between q (q + n)) ms ≡ o
        → is_some (option_map (λ (m : ℕ × (ℕ × Bool)). m.0) o) ≡ is_some_mapped (pages_seen ms) q n
    by_result None is = sym (some_in_row ms q n rising ∙ ap (λ (ps : List PageWire). is_some (slice_get ps 0)) (none_of_row ms q n is))
    by_result (Some m) is = sym (some_in_row ms q n rising ∙ ap (λ (ps : List PageWire). is_some (slice_get ps 0)) (lowest_of_row ms q n m rising is))

-- a page of the range goes with it
without_inside : (q n p : ℕ) (ps : List PageWire) → q ≤ p → p < q + n → without_pages q n (without_pages p 1 ps) ≡ without_pages q n ps
without_inside q n p [] low high = refl
without_inside q n p (e ∷ ps) low high = by_test (in_range p 1 e.page) refl (without_inside q n p ps low high)
  where
    inside : (q n p k : ℕ) → q ≤ p → p < q + n → in_range p 1 k ≡ true → not (in_range q n k) ≡ false
    inside q n p k low high is = grind (arith, nat_tests)

    by_test : (b : Bool) → in_range p 1 e.page ≡ b → without_pages q n (without_pages p 1 ps) ≡ without_pages q n ps
        → without_pages q n (cond (not (in_range p 1 e.page)) (e ∷ without_pages p 1 ps) (without_pages p 1 ps))
        ≡ cond (not (in_range q n e.page)) (e ∷ without_pages q n ps) (without_pages q n ps)
    by_test true is rest =
        ap (λ b. without_pages q n (cond (not b) (e ∷ without_pages p 1 ps) (without_pages p 1 ps))) is ∙ rest
        ∙ sym (ap (λ b. cond b (e ∷ without_pages q n ps) (without_pages q n ps)) (inside q n p e.page low high is))
    by_test false is rest =
        ap (λ b. without_pages q n (cond (not b) (e ∷ without_pages p 1 ps) (without_pages p 1 ps))) is
        ∙ ap (λ (qs : List PageWire). cond (not (in_range q n e.page)) (e ∷ qs) qs) rest

without_none : (q n : ℕ) (ps : List PageWire) → filter (is_between q n) ps ≡ [] → without_pages q n ps ≡ ps
without_none q n [] none = refl
without_none q n (e ∷ ps) none = by_test (in_range q n e.page) refl none (without_none q n ps)
  where
    by_test : (b : Bool) → in_range q n e.page ≡ b → cond (in_range q n e.page) (e ∷ filter (is_between q n) ps) (filter (is_between q n) ps) ≡ []
        → (filter (is_between q n) ps ≡ [] → without_pages q n ps ≡ ps)
        → cond (not (in_range q n e.page)) (e ∷ without_pages q n ps) (without_pages q n ps) ≡ e ∷ ps
    by_test true is none rest = absurd (cc (sym (ap (λ b. cond b (e ∷ filter (is_between q n) ps) (filter (is_between q n) ps)) is) ∙ none))
    by_test false is none rest =
        ap (λ b. cond (not b) (e ∷ without_pages q n ps) (without_pages q n ps)) is
        ∙ ap (λ qs. e ∷ qs) (rest (sym (ap (λ b. cond b (e ∷ filter (is_between q n) ps) (filter (is_between q n) ps)) is) ∙ none))

-- What is left of the range is still to be taken out, to wait for these targets, and to be counted.
pub record Leaving (old : List (ℕ × (ℕ × Bool))) (frames_old : List Holding) (waits : List (Option Target)) (page number : ℕ)
    (ms : List (ℕ × (ℕ × Bool))) (frames : List Holding) (count : ℕ) : Type 0 where
  pub pages : without_pages page number (pages_seen ms) ≡ without_pages page number (pages_seen old)
  pub places : placed (place_for (targets_seen waits)) (in_row page number ms) (places_seen frames)
      ≡ placed (place_for (targets_seen waits)) (in_row page number old) (places_seen frames_old)
  pub counted : count + length (in_row page number ms) ≡ length (in_row page number old)
  pub few : count + length (in_row page number ms) ≤ number
  pub rising : IsRising ms
  pub balanced : Balanced old frames_old ms frames
  pub room : HaveRoom frames waits

none_yet : (k : ℕ) → 0 + k ≡ k
none_yet k = omega arith

few_yet : (k n : ℕ) → k ≤ n → 0 + k ≤ n
few_yet k n most = omega (arith, most)

pub all_left : (ms : List (ℕ × (ℕ × Bool))) (frames : List Holding) (waits : List (Option Target)) (q n : ℕ) → IsRising ms → HaveRoom frames waits
    → Leaving ms frames waits q n ms frames 0
all_left ms frames waits q n rising room = record {
  pages = refl;
  places = refl;
  counted = none_yet (length (in_row q n ms));
  few = few_yet (length (in_row q n ms)) n (few_in_row ms q n rising);
  rising = rising;
  balanced = balanced-none ms frames;
  room = room;
}

pub lowest_mapped : (old ms : List (ℕ × (ℕ × Bool))) (frames_old frames : List Holding) (waits : List (Option Target)) (q n count : ℕ)
    (m : ℕ × (ℕ × Bool)) → Owns old frames_old → Leaving old frames_old waits q n ms frames count → find (space.is_between q (q + n)) ms ≡ Some m
    → slice_get frames m.1.0 ≡ Some Mapped
lowest_mapped old ms frames_old frames waits q n count m owned left first =
    owned-mapped ms frames m.0 m.1 (owns-on old ms frames_old frames owned left.balanced) (lowest_found q (q + n) ms m left.rising first).mapped

one_longer_row : (e : PageWire) (ps : List PageWire) → length (e ∷ ps) ≡ suc (length ps)
one_longer_row e ps = omega arith

one_counted : (count after left less all : ℕ) → count + left ≡ all → left ≡ suc less → after ≡ count + 1 → after + less ≡ all
one_counted count after left less all e f g = omega (arith, e, f, g)

few_more : (count after left less n : ℕ) → count + left ≤ n → left ≡ suc less → after ≡ count + 1 → after + less ≤ n
few_more count after left less n e f g = omega (arith, e, f, g)

pub one_less : (old ms ms_after : List (ℕ × (ℕ × Bool))) (frames_old frames frames_after : List Holding) (waits : List (Option Target))
    (q n count count_after : ℕ) (m : ℕ × (ℕ × Bool)) → Owns old frames_old → Leaving old frames_old waits q n ms frames count
    → find (space.is_between q (q + n)) ms ≡ Some m → ms_after ≡ without_page ms m.0 → IsRising ms_after
    → frames_after ≡ set frames m.1.0 (after_waits waits) → count_after ≡ count + 1
    → Leaving old frames_old waits q n ms_after frames_after count_after
one_less old ms ms_after frames_old frames frames_after waits q n count count_after m owned left first removed rising gave counted =
    let lowest = lowest_found q (q + n) ms m left.rising first in
    let place = place_for (targets_seen waits) in
    let row : in_row q n ms ≡ page_seen m ∷ in_row q n ms_after =
    lowest_of_row ms q n m left.rising first ∙ sym (ap (λ ns. page_seen m ∷ in_row q n ns) removed) in
    let shorter : length (in_row q n ms) ≡ suc (length (in_row q n ms_after)) =
    ap (λ (ps : List PageWire). length ps) row ∙ one_longer_row (page_seen m) (in_row q n ms_after) in
    record {
      pages =
          ap (λ ns. without_pages q n (pages_seen ns)) removed ∙ ap (without_pages q n) (pages_seen-remove ms m.0 left.rising)
          ∙ without_inside q n m.0 (pages_seen ms) lowest.from_first lowest.below_end ∙ left.pages;
      places =
          ap (placed place (in_row q n ms_after))
          (ap places_seen gave ∙ places_seen-set frames m.1.0 (after_waits waits) ∙ ap (set (places_seen frames) m.1.0) (place-after waits))
          ∙ sym (ap (λ (ps : List PageWire). placed place ps (places_seen frames)) row) ∙ left.places;
      counted = one_counted count count_after _ _ _ left.counted shorter counted;
      few = few_more count count_after _ _ n left.few shorter counted;
      rising = rising;
      balanced =
          balanced-on old ms ms_after frames_old frames frames_after left.balanced
          (balanced-is ms (without_page ms m.0) ms_after frames (set frames m.1.0 (after_waits waits)) frames_after removed gave
          (balanced-unmap ms frames m.0 m.1 (after_waits waits) (none-after waits) (owns-on old ms frames_old frames owned left.balanced) lowest.mapped));
      room =
          subst (λ (fs : List Holding). HaveRoom fs waits) (sym gave)
          (room_kept frames waits m.1.0
          (slice_get_within frames m.1.0 Mapped (lowest_mapped old ms frames_old frames waits q n count m owned left first)) left.room);
    }

pub shorter_row : (ms ms_after : List (ℕ × (ℕ × Bool))) (q n : ℕ) (m : ℕ × (ℕ × Bool)) → IsRising ms → find (space.is_between q (q + n)) ms ≡ Some m
    → ms_after ≡ without_page ms m.0 → length (in_row q n ms_after) < length (in_row q n ms)
shorter_row ms ms_after q n m rising first removed =
    let shorter : length (in_row q n ms) ≡ suc (length (in_row q n ms_after)) =
    ap (λ (ps : List PageWire). length ps) (lowest_of_row ms q n m rising first ∙ sym (ap (λ ns. page_seen m ∷ in_row q n ns) removed))
    ∙ one_longer_row (page_seen m) (in_row q n ms_after) in
    below (length (in_row q n ms)) (length (in_row q n ms_after)) shorter
  where
    below : (a b : ℕ) → a ≡ suc b → b < a
    below a b is = omega (arith, is)

-- Nothing is left of it.
pub record AllOut (old : List (ℕ × (ℕ × Bool))) (frames_old : List Holding) (waits : List (Option Target)) (page number : ℕ)
    (ms : List (ℕ × (ℕ × Bool))) (frames : List Holding) (count : ℕ) : Type 0 where
  pub pages : pages_seen ms ≡ without_pages page number (pages_seen old)
  pub places : places_seen frames ≡ placed (place_for (targets_seen waits)) (in_row page number old) (places_seen frames_old)
  pub counted : count ≡ count_mapped (pages_seen old) page number

row_left : (old ms : List (ℕ × (ℕ × Bool))) (frames_old frames : List Holding) (waits : List (Option Target)) (q n count : ℕ)
    → IsRising old → Leaving old frames_old waits q n ms frames count → in_row q n ms ≡ []
    → AllOut old frames_old waits q n ms frames count
row_left old ms frames_old frames waits q n count old_rising left row =
    let empty : length (in_row q n ms) ≡ 0 = ap (λ (ps : List PageWire). length ps) row in
    record {
      pages = sym (without_none q n (pages_seen ms) row) ∙ left.pages;
      places = sym (ap (λ (ps : List PageWire). placed (place_for (targets_seen waits)) ps (places_seen frames)) row) ∙ left.places;
      counted =
          all_counted count (length (in_row q n ms)) (length (in_row q n old)) left.counted empty ∙ sym (count_in_row old q n old_rising);
    }
  where
    all_counted : (count left all : ℕ) → count + left ≡ all → left ≡ 0 → count ≡ all
    all_counted count left all e f = omega (arith, e, f)

pub none_left : (old ms : List (ℕ × (ℕ × Bool))) (frames_old frames : List Holding) (waits : List (Option Target)) (q n count : ℕ)
    → IsRising old → Leaving old frames_old waits q n ms frames count → find (space.is_between q (q + n)) ms ≡ None
    → AllOut old frames_old waits q n ms frames count
none_left old ms frames_old frames waits q n count old_rising left none =
    row_left old ms frames_old frames waits q n count old_rising left (none_of_row ms q n none)

-- The lowest page of the range, and how many there are, as they are told.

abbrev pub told : (q n : ℕ) → List (ℕ × (ℕ × Bool)) → Option (ℕ × (ℕ × Bool)) → Option (ℕ × ℕ)
told q n ms found = option_map {T = ℕ × (ℕ × Bool)} {U = ℕ × ℕ} (λ m. (m.0, length (mappings_between q (q + n) ms))) found

pub none_told : (ms : List (ℕ × (ℕ × Bool))) (q n : ℕ) → None ≡ told q n ms (find (space.is_between q (q + n)) ms)
    → find (space.is_between q (q + n)) ms ≡ None
none_told ms q n is = by_result (find (space.is_between q (q + n)) ms) is
  where
    by_result : (o : Option (ℕ × (ℕ × Bool))) → None ≡ told q n ms o → o ≡ None
    by_result None h = refl
    by_result (Some m) h = absurd (cc (h))

record IsTold (ms : List (ℕ × (ℕ × Bool))) (q n lowest number : ℕ) : Type 0 where
  value : ℕ × Bool
  found : find (space.is_between q (q + n)) ms ≡ Some (lowest, value)
  counted : number ≡ length (in_row q n ms)

as_told : (ms : List (ℕ × (ℕ × Bool))) (q n lowest number : ℕ)
    → Some (lowest, number) ≡ told q n ms (find (space.is_between q (q + n)) ms) → IsTold ms q n lowest number
as_told ms q n lowest number is = by_result (find (space.is_between q (q + n)) ms) refl is
  where
    longer : (es : List (ℕ × (ℕ × Bool))) → length es ≡ length (pages_seen es)
    longer [] = refl
    longer (e ∷ es) = ap suc (longer es)

    by_result : (o : Option (ℕ × (ℕ × Bool))) → find (space.is_between q (q + n)) ms ≡ o → Some (lowest, number) ≡ told q n ms o
        → IsTold ms q n lowest number
    by_result None e h = absurd (cc (h))
    by_result (Some m) e h =
        let both : ◌≡◌ {A = ℕ × ℕ} (lowest, number) (m.0, length (mappings_between q (q + n) ms)) = cc (h) in
        record {
          value = m.1;
          found = e ∙ (λ i. Some ((sym both i).0, m.1));
          counted = (λ i. (both i).1) ∙ longer (mappings_between q (q + n) ms)
              ∙ ap (λ (ps : List PageWire). length ps) (between-seen q n ms);
        }

pub told_most : (ms : List (ℕ × (ℕ × Bool))) (q n lowest number : ℕ) → IsRising ms
    → Some (lowest, number) ≡ told q n ms (find (space.is_between q (q + n)) ms) → number ≤ n
told_most ms q n lowest number rising is =
    let few = few_in_row ms q n rising in let counted = (as_told ms q n lowest number is).counted in omega (arith, few, counted)

-- What is left of the range stands from a page on: those below it are out.
pub record LeavingFrom (old : List (ℕ × (ℕ × Bool))) (frames_old : List Holding) (waits : List (Option Target)) (page number : ℕ)
    (ms : List (ℕ × (ℕ × Bool))) (frames : List Holding) (count next : ℕ) : Type 0 where
  pub leaving : Leaving old frames_old waits page number ms frames count
  pub low : page ≤ next
  pub out : find (space.is_between page next) ms ≡ None

pub left_from : (ms : List (ℕ × (ℕ × Bool))) (frames : List Holding) (waits : List (Option Target)) (q n lowest number : ℕ)
    → IsRising ms → HaveRoom frames waits → Some (lowest, number) ≡ told q n ms (find (space.is_between q (q + n)) ms)
    → LeavingFrom ms frames waits q n ms frames 0 lowest
left_from ms frames waits q n lowest number rising room is =
    let own = as_told ms q n lowest number is in
    record {
      leaving = all_left ms frames waits q n rising room;
      low = (lowest_found q (q + n) ms (lowest, own.value) rising own.found).from_first;
      out = none_below q (q + n) (lowest, own.value) ms rising own.found;
    }

-- so what is found from there on is the lowest of the range
pub found_from : (old ms : List (ℕ × (ℕ × Bool))) (frames_old frames : List Holding) (waits : List (Option Target)) (q n count next : ℕ)
    (found : Option (ℕ × (ℕ × Bool))) → LeavingFrom old frames_old waits q n ms frames count next
    → find (space.is_between next (q + n)) ms ≡ found → find (space.is_between q (q + n)) ms ≡ found
found_from old ms frames_old frames waits q n count next found left is =
    found_behind q next (q + n) ms left.low left.out ∙ is

pub below_end : (old ms : List (ℕ × (ℕ × Bool))) (frames_old frames : List Holding) (waits : List (Option Target)) (q n count next : ℕ)
    (m : ℕ × (ℕ × Bool)) → LeavingFrom old frames_old waits q n ms frames count next
    → find (space.is_between next (q + n)) ms ≡ Some m → m.0 < q + n
below_end old ms frames_old frames waits q n count next m left is =
    (lowest_found q (q + n) ms m left.leaving.rising
    (found_from old ms frames_old frames waits q n count next (Some m) left is)).below_end

-- some are left as long as not all are counted
pub more_from : (old ms : List (ℕ × (ℕ × Bool))) (frames_old frames : List Holding) (waits : List (Option Target))
    (q n count next lowest number : ℕ) → LeavingFrom old frames_old waits q n ms frames count next
    → Some (lowest, number) ≡ told q n old (find (space.is_between q (q + n)) old) → count < number
    → find (space.is_between next (q + n)) ms ≡ None → ⊥
more_from old ms frames_old frames waits q n count next lowest number left is more none =
    let row = none_of_row ms q n (found_from old ms frames_old frames waits q n count next None left none) in
    let empty : length (in_row q n ms) ≡ 0 = ap (λ (ps : List PageWire). length ps) row in
    let counted = (as_told old q n lowest number is).counted in
    absurd (omega (arith, empty, counted, left.leaving.counted, more))

-- one less, and the next one is behind it
pub next_from : (old ms ms_after : List (ℕ × (ℕ × Bool))) (frames_old frames frames_after : List Holding) (waits : List (Option Target))
    (q n count next : ℕ) (m : ℕ × (ℕ × Bool)) → Owns old frames_old → LeavingFrom old frames_old waits q n ms frames count next
    → find (space.is_between next (q + n)) ms ≡ Some m → ms_after ≡ without_page ms m.0 → IsRising ms_after
    → frames_after ≡ set frames m.1.0 (after_waits waits)
    → LeavingFrom old frames_old waits q n ms_after frames_after (count + 1) (m.0 + 1)
next_from old ms ms_after frames_old frames frames_after waits q n count next m owned left is removed rising gave =
    let first = found_from old ms frames_old frames waits q n count next (Some m) left is in
    let low = (lowest_found q (q + n) ms m left.leaving.rising first).from_first in
    record {
      leaving = one_less old ms ms_after frames_old frames frames_after waits q n count (count + 1) m owned left.leaving first removed
          rising gave refl;
      low = omega (arith, low);
      out = ap (find (space.is_between q (m.0 + 1))) removed ∙ none_left_below q (q + n) m ms left.leaving.rising first;
    }

-- none is left once all are counted
pub all_from : (old ms : List (ℕ × (ℕ × Bool))) (frames_old frames : List Holding) (waits : List (Option Target))
    (q n count next lowest number : ℕ) → IsRising old → LeavingFrom old frames_old waits q n ms frames count next
    → Some (lowest, number) ≡ told q n old (find (space.is_between q (q + n)) old) → number ≤ count
    → AllOut old frames_old waits q n ms frames number
all_from old ms frames_old frames waits q n count next lowest number rising left is whole =
    let counted = (as_told old q n lowest number is).counted in
    let all : count ≡ number = omega (arith, counted, left.leaving.counted, whole) in
    let none : length (in_row q n ms) ≡ 0 = omega (arith, counted, left.leaving.counted, whole) in
    subst (AllOut old frames_old waits q n ms frames) all
    (row_left old ms frames_old frames waits q n count rising left.leaving (empty (in_row q n ms) none))
  where
    empty : (ps : List PageWire) → length ps ≡ 0 → ps ≡ []
    empty [] h = refl
    empty (p ∷ ps) h = absurd (omega (arith, h))
