-- One page after another of a job is mapped to the lowest free frame, or taken back.
use Rattle.std.proofs.Common.{◌≡◌, ℕ, suc, ◌+◌, ◌<◌, ◌≤◌, ◌==◌, Bool, false, List, Option, Some, None, [], ◌∷◌, ◌++◌, length, set, slice_get, get_or, take}
use Rattle.std.proofs.Common.{drop, drop-cons, add-one, add-zero, refl, sym, ap, subst, ◌∙◌, arith}
use Rattle.std.specs.Prelude.{◌||◌, filter, map, is_some, IsSome, option_map}
use Rattle.std.specs.List.{position}
use Rattle.std.proofs.lemmas.List.{take_more, take_all, drop_all}
use Rattle.std.proofs.lemmas.Option.{slice_get_within}
use Rattle.sva_space.specs.Pages.{IsRising, mapping_at, with_page, without_page}
use Rattle.sva_frames.specs.Frames.{Holding, Free, Mapped, is_free}
use Rattle.sva_model.specs.Wire.{PageWire, AskWire, insert_by, is_lower_page}
use Rattle.sva_model.specs.Wire.PlaceWire.{FreeWire, MappedWire}
use Rattle.sva_labels.specs.Finding.{page_at, is_mapped, free_from}
use Rattle.sva_labels.specs.Replying.{is_write_asked}
use Rattle.sva_labels.specs.Moves.{is_between, without_pages, placed}
use Rattle.sva_address_spaces.specs.Seen.{page_seen, pages_seen, places_seen}
use Rattle.sva_address_spaces.specs.Owned.{Owns, Balanced}
use Rattle.sva_address_spaces.specs.Asked.{pages_mapped, places_mapped, pages_back, places_back, MapsNew, MapsAll}
use Rattle.sva_labels.specs.Replying.{new_among}
use Rattle.sva_address_spaces.proofs.PageLists.{page_at-seen, is_mapped-seen, pages_seen-insert, pages_seen-remove}
use Rattle.sva_address_spaces.proofs.FrameLists.{lowest_free-some, lowest_free-none, places_seen-set}
use Rattle.sva_address_spaces.proofs.Counting.{balanced-none, balanced-on, balanced-is, balanced-map, balanced-unmap, owns-on}
use Rattle.sva_address_spaces.proofs.Rows.{listed, between-none, between-more, without-missing}
use Rattle.sva_address_spaces.proofs.NewPages.{AreNew, unseen_new, page_of}
use Rattle.sva_address_spaces.proofs.FreeFrames.{IsFirst, first_is, free_again}
use Rattle.sva_address_spaces.proofs.MappedInTurn.{page_out, page_between, new_rest, pages_back_more, places_back_more}

-- the pages of a space
abbrev pub Pages : Type 0
Pages = List (ℕ × (ℕ × Bool))

-- The first so many pages are mapped.

pub record AreMapped (asks : List AskWire) (qs : List ℕ) (old : Pages) (frames_old : List Holding) (number : ℕ) (ms : Pages)
    (frames : List Holding) : Type 0 where
  pub rising : IsRising ms
  pub new : AreNew (is_mapped (pages_seen ms)) (drop number qs)
  pub enough : length (drop number qs) ≤ length (free_from 0 (places_seen frames))
  pub ahead : pages_mapped asks (drop number qs) (free_from 0 (places_seen frames)) (pages_seen ms)
      ≡ pages_mapped asks qs (free_from 0 (places_seen frames_old)) (pages_seen old)
  pub taken : places_mapped (drop number qs) (free_from 0 (places_seen frames)) (places_seen frames)
      ≡ places_mapped qs (free_from 0 (places_seen frames_old)) (places_seen frames_old)
  pub behind : pages_back (take number qs) (pages_seen ms) ≡ pages_seen old
  pub given : places_back (take number qs) (pages_seen ms) (places_seen frames) ≡ places_seen frames_old
  pub balanced : Balanced old frames_old ms frames

pub none_mapped : (asks : List AskWire) (qs : List ℕ) (ms : Pages) (frames : List Holding) → qs ≡ new_among (pages_seen ms) asks → IsRising ms
    → length (new_among (pages_seen ms) asks) ≤ length (free_from 0 (places_seen frames)) → AreMapped asks qs ms frames 0 ms frames
none_mapped asks qs ms frames is rising enough = record {
  rising = rising;
  new = subst (AreNew (is_mapped (pages_seen ms))) (sym is) (unseen_new (is_mapped (pages_seen ms)) (map (λ (a : AskWire). a.page) asks));
  enough = subst (λ (ps : List ℕ). length ps ≤ length (free_from 0 (places_seen frames))) (sym is) enough;
  ahead = refl;
  taken = refl;
  behind = refl;
  given = refl;
  balanced = balanced-none ms frames;
}

is_none : (ms : Pages) (q : ℕ) → is_mapped (pages_seen ms) q ≡ false → mapping_at ms q ≡ None
is_none ms q missing = go (mapping_at ms q) refl (sym (is_mapped-seen ms q) ∙ missing)
  where
    go : (o : Option (ℕ × Bool)) → mapping_at ms q ≡ o → is_some o ≡ false → mapping_at ms q ≡ None
    go None is h = is
    go (Some m) is h = absurd (cc (h))

-- The next page, and the lowest free frame for it.

record HasFirst (numbers : List ℕ) : Type 0 where
  first : ℕ
  others : List ℕ
  all : numbers ≡ first ∷ others

has_first : (numbers : List ℕ) (n : ℕ) → suc n ≤ length numbers → HasFirst numbers
has_first [] n some = absurd (omega (arith, some))
has_first (k ∷ ks) n some = record { first = k; others = ks; all = refl }

-- what is mapped then
record IsNext (ms : Pages) (frames : List Holding) (q : ℕ) (x : Bool) (ms_after : Pages) (frames_after : List Holding) (fs : List ℕ) : Type 0 where
  frame : ℕ
  free : free_from 0 (places_seen frames) ≡ frame ∷ fs
  was_free : slice_get (places_seen frames) frame ≡ Some FreeWire
  pages : pages_seen ms_after ≡ insert_by is_lower_page (page_of q frame x) (pages_seen ms)
  places : places_seen frames_after ≡ set (places_seen frames) frame MappedWire
  later : free_from 0 (places_seen frames_after) ≡ fs

next_is : (ms : Pages) (frames : List Holding) (q : ℕ) (x : Bool) (ms_after : Pages) (frames_after : List Holding) (f : ℕ) (fs : List ℕ)
    → is_mapped (pages_seen ms) q ≡ false
    → free_from 0 (places_seen frames) ≡ f ∷ fs → MapsNew ms frames q x ms_after frames_after → IsNext ms frames q x ms_after frames_after fs
next_is ms frames q x ms_after frames_after f fs missing free maps = record {
  frame = f;
  free = free;
  was_free = ap (slice_get (places_seen frames)) at ∙ first.free;
  pages = ap pages_seen maps.mapped ∙ pages_seen-insert ms q maps.frame x (is_none ms q missing)
      ∙ ap (λ (k : ℕ). insert_by is_lower_page (page_of q k x) (pages_seen ms)) same;
  places = placed_now;
  later = ap (free_from 0) placed_now ∙ ap (λ (k : ℕ). free_from 0 (set (places_seen frames) k MappedWire)) at ∙ first.others;
}
  where
    first : IsFirst 0 (places_seen frames) f fs
    first = first_is 0 (places_seen frames) f fs free

    at : f ≡ first.place
    at = let number = first.number in omega (arith, number)

    same : maps.frame ≡ f
    same = sym (lowest_free-some frames maps.frame maps.lowest) ∙ first.lowest ∙ sym at

    placed_now : places_seen frames_after ≡ set (places_seen frames) f MappedWire
    placed_now = ap places_seen maps.taken ∙ places_seen-set frames maps.frame Mapped ∙ ap (λ (k : ℕ). set (places_seen frames) k MappedWire) same

-- One page more is mapped.

pub one_more_mapped : (asks : List AskWire) (qs : List ℕ) (old : Pages) (frames_old : List Holding) (number : ℕ) (ms : Pages) (frames : List Holding) (q : ℕ)
    (ms_after : Pages) (frames_after : List Holding)
    → number < length qs → q ≡ get_or qs number 0 → AreMapped asks qs old frames_old number ms frames
    → MapsNew ms frames q (is_write_asked asks q) ms_after frames_after → IsRising ms_after
    → AreMapped asks qs old frames_old (number + 1) ms_after frames_after
one_more_mapped asks qs old frames_old number ms frames q ms_after frames_after within read are maps rising = record {
  rising = rising;
  new = subst (λ (ps : List PageWire). AreNew (is_mapped ps) later) (sym next.pages) (new_rest q next.frame x (pages_seen ms) later new.1);
  enough = enough_later;
  ahead =
      (λ i. pages_mapped asks later (next.later i) (next.pages i))
      ∙ sym (λ i. pages_mapped asks (dropped i) (next.free i) (pages_seen ms))
      ∙ are.ahead;
  taken =
      (λ i. places_mapped later (next.later i) (next.places i))
      ∙ sym (λ i. places_mapped (dropped i) (next.free i) (places_seen frames))
      ∙ are.taken;
  behind = ap (λ (ps : List ℕ). pages_back ps (pages_seen ms_after)) taken ∙ pages_back_more (take number qs) q (pages_seen ms_after)
      ∙ ap (pages_back (take number qs)) out ∙ are.behind;
  given =
      ap (λ (ps : List ℕ). places_back ps (pages_seen ms_after) (places_seen frames_after)) taken
      ∙ places_back_more (take number qs) q (pages_seen ms_after) (places_seen frames_after)
      ∙ (λ i. places_back (take number qs) (out i) (again i))
      ∙ are.given;
  balanced =
      balanced-on old ms ms_after frames_old frames frames_after are.balanced
      (balanced-is ms (with_page ms q maps.frame x) ms_after frames (set frames maps.frame Mapped) frames_after maps.mapped maps.taken
      (balanced-map ms frames q maps.frame x are.rising (is_none ms q new.0) maps.lowest));
}
  where
    x : Bool
    x = is_write_asked asks q

    later : List ℕ
    later = drop (number + 1) qs

    dropped : drop number qs ≡ q ∷ later
    dropped = drop-cons qs number 0 within ∙ (λ i. sym read i ∷ drop (sym (add-one number) i) qs)

    taken : take (number + 1) qs ≡ take number qs ++ q ∷ []
    taken = take_more qs number 0 within ∙ ap (λ (k : ℕ). take number qs ++ k ∷ []) (sym read)

    new : (is_mapped (pages_seen ms) q ≡ false) × AreNew (λ y. y == q || is_mapped (pages_seen ms) y) later
    new = subst (AreNew (is_mapped (pages_seen ms))) dropped are.new

    some : suc (length later) ≤ length (free_from 0 (places_seen frames))
    some = subst (λ (ps : List ℕ). length ps ≤ length (free_from 0 (places_seen frames))) dropped are.enough

    there : HasFirst (free_from 0 (places_seen frames))
    there = has_first (free_from 0 (places_seen frames)) (length later) some

    next : IsNext ms frames q x ms_after frames_after there.others
    next = next_is ms frames q x ms_after frames_after there.first there.others new.0 there.all maps

    enough_later : length later ≤ length (free_from 0 (places_seen frames_after))
    enough_later =
        let more : suc (length later) ≤ suc (length there.others) = subst (λ (fs : List ℕ). suc (length later) ≤ length fs) there.all some in
        subst (λ (fs : List ℕ). length later ≤ length fs) (sym next.later) (omega (arith, more))

    out : without_pages q 1 (pages_seen ms_after) ≡ pages_seen ms
    out = ap (without_pages q 1) next.pages ∙ page_out q next.frame x (pages_seen ms) new.0

    again : placed FreeWire (filter (is_between q 1) (pages_seen ms_after)) (places_seen frames_after) ≡ places_seen frames
    again =
        (λ i. placed FreeWire (filter (is_between q 1) (next.pages i)) (next.places i))
        ∙ ap (λ es. placed FreeWire es (set (places_seen frames) next.frame MappedWire)) (page_between q next.frame x (pages_seen ms) new.0)
        ∙ free_again (places_seen frames) next.frame next.was_free

-- there is a frame for the next page
pub has_frame : (asks : List AskWire) (qs : List ℕ) (old : Pages) (frames_old : List Holding) (number : ℕ) (ms : Pages) (frames : List Holding)
    → number < length qs
    → AreMapped asks qs old frames_old number ms frames → IsSome (position is_free frames)
has_frame asks qs old frames_old number ms frames within are = go (position is_free frames) refl
  where
    some : suc (length (drop (suc number) qs)) ≤ length (free_from 0 (places_seen frames))
    some = subst (λ (ps : List ℕ). length ps ≤ length (free_from 0 (places_seen frames))) (drop-cons qs number 0 within) are.enough

    there : HasFirst (free_from 0 (places_seen frames))
    there = has_first (free_from 0 (places_seen frames)) (length (drop (suc number) qs)) some

    first : IsFirst 0 (places_seen frames) there.first there.others
    first = first_is 0 (places_seen frames) there.first there.others there.all

    go : (o : Option ℕ) → position is_free frames ≡ o → IsSome (position is_free frames)
    go (Some f) is = subst (λ (o : Option ℕ). IsSome o) (sym is) refl
    go None is =
        let past : first.place ≡ length (places_seen frames) = sym first.lowest ∙ lowest_free-none frames is in
        let inside : first.place < length (places_seen frames) = slice_get_within (places_seen frames) first.place FreeWire first.free in
        absurd (omega (arith, past, inside))

-- the next page isn't mapped yet
pub next_missing : (asks : List AskWire) (qs : List ℕ) (old : Pages) (frames_old : List Holding) (number : ℕ) (ms : Pages) (frames : List Holding)
    → number < length qs
    → AreMapped asks qs old frames_old number ms frames → mapping_at ms (get_or qs number 0) ≡ None
next_missing asks qs old frames_old number ms frames within are =
    let new : (is_mapped (pages_seen ms) (get_or qs number 0) ≡ false)
    × AreNew (λ y. y == get_or qs number 0 || is_mapped (pages_seen ms) y) (drop (suc number) qs) =
    subst (AreNew (is_mapped (pages_seen ms))) (drop-cons qs number 0 within) are.new in
    is_none ms (get_or qs number 0) new.0

-- All of them are mapped.

pub all_mapped : (asks : List AskWire) (qs : List ℕ) (old : Pages) (frames_old : List Holding) (number : ℕ) (ms : Pages) (frames : List Holding)
    → qs ≡ new_among (pages_seen old) asks
    → length qs ≤ number → AreMapped asks qs old frames_old number ms frames
    → MapsAll (pages_seen old) (places_seen frames_old) asks (pages_seen ms) (places_seen frames)
all_mapped asks qs old frames_old number ms frames is end are = record {
  mapped =
      sym (ap (λ (ps : List ℕ). pages_mapped asks ps (free_from 0 (places_seen frames)) (pages_seen ms)) none) ∙ are.ahead
      ∙ ap (λ (ps : List ℕ). pages_mapped asks ps (free_from 0 (places_seen frames_old)) (pages_seen old)) is;
  taken =
      sym (ap (λ (ps : List ℕ). places_mapped ps (free_from 0 (places_seen frames)) (places_seen frames)) none) ∙ are.taken
      ∙ ap (λ (ps : List ℕ). places_mapped ps (free_from 0 (places_seen frames_old)) (places_seen frames_old)) is;
  pages_return = ap (λ (ps : List ℕ). pages_back ps (pages_seen ms)) (sym is ∙ sym all) ∙ are.behind;
  places_return = ap (λ (ps : List ℕ). places_back ps (pages_seen ms) (places_seen frames)) (sym is ∙ sym all) ∙ are.given;
}
  where
    none : drop number qs ≡ []
    none = drop_all number qs (omega (arith, end))

    all : take number qs ≡ qs
    all = take_all number qs (omega (arith, end))

-- The last so many pages are taken back.

pub record AreBack (qs : List ℕ) (old : Pages) (frames_old : List Holding) (number : ℕ) (ms : Pages) (frames : List Holding) : Type 0 where
  pub rising : IsRising ms
  pub pages : pages_back (take number qs) (pages_seen ms) ≡ pages_back qs (pages_seen old)
  pub places : places_back (take number qs) (pages_seen ms) (places_seen frames) ≡ places_back qs (pages_seen old) (places_seen frames_old)
  pub balanced : Balanced old frames_old ms frames

pub none_back : (qs : List ℕ) (ms : Pages) (frames : List Holding) (number : ℕ) → number ≡ length qs → IsRising ms → AreBack qs ms frames number ms frames
none_back qs ms frames number end rising = record {
  rising = rising;
  pages = ap (λ (ps : List ℕ). pages_back ps (pages_seen ms)) all;
  places = ap (λ (ps : List ℕ). places_back ps (pages_seen ms) (places_seen frames)) all;
  balanced = balanced-none ms frames;
}
  where
    all : take number qs ≡ qs
    all = take_all number qs (omega (arith, end))

between_one : (q : ℕ) (ms : Pages) → IsRising ms
    → filter (is_between q 1) (pages_seen ms) ≡ listed (option_map (λ (m : ℕ × Bool). page_seen (q, m)) (mapping_at ms q))
between_one q ms rising =
    between-more q 0 ms rising
    ∙ (λ i. between-none q (pages_seen ms) i ++ listed (page_at (pages_seen ms) (add-zero q i)))
    ∙ ap listed (page_at-seen ms q)

-- a page that is there
pub one_more_back : (qs : List ℕ) (old : Pages) (frames_old : List Holding) (number : ℕ) (ms : Pages) (frames : List Holding) (q f : ℕ) (x : Bool)
    (ms_after : Pages) (frames_after : List Holding)
    → number < length qs → q ≡ get_or qs number 0 → Owns old frames_old → AreBack qs old frames_old (number + 1) ms frames → mapping_at ms q ≡ Some (f, x)
    → ms_after ≡ without_page ms q → IsRising ms_after → frames_after ≡ set frames f Free
    → AreBack qs old frames_old number ms_after frames_after
one_more_back qs old frames_old number ms frames q f x ms_after frames_after within read owned are there removed rising gave = record {
  rising = rising;
  pages = ap (pages_back (take number qs)) pages ∙ sym (pages_back_more (take number qs) q (pages_seen ms))
      ∙ sym (ap (λ (ps : List ℕ). pages_back ps (pages_seen ms)) taken) ∙ are.pages;
  places =
      (λ i. places_back (take number qs) (pages i) (places i))
      ∙ sym (places_back_more (take number qs) q (pages_seen ms) (places_seen frames))
      ∙ sym (ap (λ (ps : List ℕ). places_back ps (pages_seen ms) (places_seen frames)) taken)
      ∙ are.places;
  balanced =
      balanced-on old ms ms_after frames_old frames frames_after are.balanced
      (balanced-is ms (without_page ms q) ms_after frames (set frames f Free) frames_after removed gave
      (balanced-unmap ms frames q (f, x) Free refl (owns-on old ms frames_old frames owned are.balanced) there));
}
  where
    taken : take (number + 1) qs ≡ take number qs ++ q ∷ []
    taken = take_more qs number 0 within ∙ ap (λ (k : ℕ). take number qs ++ k ∷ []) (sym read)

    pages : pages_seen ms_after ≡ without_pages q 1 (pages_seen ms)
    pages = ap pages_seen removed ∙ pages_seen-remove ms q are.rising

    places : places_seen frames_after ≡ placed FreeWire (filter (is_between q 1) (pages_seen ms)) (places_seen frames)
    places =
        ap places_seen gave ∙ places_seen-set frames f Free
        ∙ sym (ap (λ es. placed FreeWire es (places_seen frames))
        (between_one q ms are.rising ∙ ap (λ o. listed (option_map (λ (m : ℕ × Bool). page_seen (q, m)) o)) there))

-- a page that isn't there
pub none_more_back : (qs : List ℕ) (old : Pages) (frames_old : List Holding) (number : ℕ) (ms : Pages) (frames : List Holding) (q : ℕ) (ms_after : Pages)
    (frames_after : List Holding)
    → number < length qs → q ≡ get_or qs number 0 → AreBack qs old frames_old (number + 1) ms frames → mapping_at ms q ≡ None → ms_after ≡ without_page ms q
    → IsRising ms_after → frames_after ≡ frames
    → AreBack qs old frames_old number ms_after frames_after
none_more_back qs old frames_old number ms frames q ms_after frames_after within read are missing removed rising kept = record {
  rising = rising;
  pages = ap (pages_back (take number qs)) pages ∙ sym (pages_back_more (take number qs) q (pages_seen ms))
      ∙ sym (ap (λ (ps : List ℕ). pages_back ps (pages_seen ms)) taken) ∙ are.pages;
  places =
      (λ i. places_back (take number qs) (pages i) (places i))
      ∙ sym (places_back_more (take number qs) q (pages_seen ms) (places_seen frames))
      ∙ sym (ap (λ (ps : List ℕ). places_back ps (pages_seen ms) (places_seen frames)) taken)
      ∙ are.places;
  balanced = balanced-is old ms ms_after frames_old frames frames_after (removed ∙ without-missing ms q missing) kept are.balanced;
}
  where
    taken : take (number + 1) qs ≡ take number qs ++ q ∷ []
    taken = take_more qs number 0 within ∙ ap (λ (k : ℕ). take number qs ++ k ∷ []) (sym read)

    pages : pages_seen ms_after ≡ without_pages q 1 (pages_seen ms)
    pages = ap pages_seen removed ∙ pages_seen-remove ms q are.rising

    places : places_seen frames_after ≡ placed FreeWire (filter (is_between q 1) (pages_seen ms)) (places_seen frames)
    places =
        ap places_seen kept
        ∙ sym (ap (λ es. placed FreeWire es (places_seen frames))
        (between_one q ms are.rising ∙ ap (λ o. listed (option_map (λ (m : ℕ × Bool). page_seen (q, m)) o)) missing))

pub pages_all_back : (qs : List ℕ) (old : Pages) (frames_old : List Holding) (number : ℕ) (ms : Pages) (frames : List Holding) → number ≡ 0
    → AreBack qs old frames_old number ms frames → pages_seen ms ≡ pages_back qs (pages_seen old)
pages_all_back qs old frames_old number ms frames end are = sym (ap (λ (k : ℕ). pages_back (take k qs) (pages_seen ms)) end) ∙ are.pages

pub places_all_back : (qs : List ℕ) (old : Pages) (frames_old : List Holding) (number : ℕ) (ms : Pages) (frames : List Holding) → number ≡ 0
    → AreBack qs old frames_old number ms frames → places_seen frames ≡ places_back qs (pages_seen old) (places_seen frames_old)
places_all_back qs old frames_old number ms frames end are = sym (ap (λ (k : ℕ). places_back (take k qs) (pages_seen ms) (places_seen frames)) end)
    ∙ are.places
