-- Pages that are taken out in a row, one after another, those of them that are mapped.
use Rattle.std.proofs.Common.{◌≡◌, ◌≢◌, ℕ, ◌+◌, ◌<◌, Bool, true, false, List, Option, Some, None, [], ◌∷◌, ◌++◌, length, set, slice_get}
use Rattle.std.proofs.Common.{sym, ap, subst, ◌∙◌, arith}
use Rattle.std.specs.Prelude.{filter, is_some, option_map}
use Rattle.std.proofs.lemmas.List.{length-append}
use Rattle.std.proofs.lemmas.Option.{slice_get_within}
use Rattle.sva_space.specs.Pages.{IsRising, mapping_at, without_page}
use Rattle.sva_frames.specs.declared.waits.Target.{Target}
use Rattle.sva_frames.specs.Frames.{Holding, Mapped, after_waits}
use Rattle.sva_frames.specs.Room.{HaveRoom}
use Rattle.sva_model.specs.Wire.{PageWire, PlaceWire}
use Rattle.sva_labels.specs.Finding.{is_mapped, page_at, frame_or_0, frames_of}
use Rattle.sva_labels.specs.Moves.{is_between, placed, place_for, without_pages}
use Rattle.sva_address_spaces.specs.Seen.{page_seen, pages_seen, places_seen, targets_seen}
use Rattle.sva_address_spaces.specs.Owned.{Owns, Balanced}
use Rattle.sva_address_spaces.specs.Pieces.{are_mapped}
use Rattle.sva_address_spaces.proofs.PageLists.{page_at-seen, without-none, without-more, page_at-without, pages_seen-remove, frames_of-none, frames_of-more}
use Rattle.sva_address_spaces.proofs.PageLists.{are_mapped-at}
use Rattle.sva_address_spaces.proofs.FrameLists.{places_seen-set}
use Rattle.sva_address_spaces.proofs.Counting.{balanced-none, balanced-on, balanced-is, balanced-unmap, owns-on, owned-mapped}
use Rattle.sva_address_spaces.proofs.Rows.{listed, between-none, between-more, placed-more}
use Rattle.sva_address_spaces.proofs.Waiting.{place-after, none-after, room_kept}

-- of so many pages from one on, those that were mapped are out of the space, and their frames wait for these targets
pub record Went (old : List (ℕ × (ℕ × Bool))) (frames_old : List Holding) (waits : List (Option Target)) (page number : ℕ)
    (ms : List (ℕ × (ℕ × Bool))) (frames : List Holding) : Type 0 where
  pub pages : pages_seen ms ≡ without_pages page number (pages_seen old)
  pub places : places_seen frames ≡ placed (place_for (targets_seen waits)) (filter (is_between page number) (pages_seen old)) (places_seen frames_old)
  pub rising : IsRising ms
  pub balanced : Balanced old frames_old ms frames
  pub room : HaveRoom frames waits

pub none_went : (ms : List (ℕ × (ℕ × Bool))) (frames : List Holding) (waits : List (Option Target)) (q : ℕ) → IsRising ms → HaveRoom frames waits
    → Went ms frames waits q 0 ms frames
none_went ms frames waits q rising room = record {
  pages = sym (without-none q (pages_seen ms));
  places = sym (ap (λ (es : List PageWire). placed (place_for (targets_seen waits)) es (places_seen frames)) (between-none q (pages_seen ms)));
  rising = rising;
  balanced = balanced-none ms frames;
  room = room;
}

-- the next page is as it was
next_page : (old ms : List (ℕ × (ℕ × Bool))) (q j : ℕ) → pages_seen ms ≡ without_pages q j (pages_seen old) → page_at (pages_seen old) (q + j)
    ≡ option_map (λ (m : ℕ × Bool). page_seen (q + j, m)) (mapping_at ms (q + j))
next_page old ms q j is = sym (page_at-without q j (pages_seen old)) ∙ sym (ap (λ (ps : List PageWire). page_at ps (q + j)) is) ∙ page_at-seen ms (q + j)

pub next_mapped : (old ms : List (ℕ × (ℕ × Bool))) (frames_old frames : List Holding) (waits : List (Option Target)) (q j f : ℕ) (x : Bool)
    → Owns old frames_old → Went old frames_old waits q j ms frames → mapping_at ms (q + j) ≡ Some (f, x) → slice_get frames f ≡ Some Mapped
next_mapped old ms frames_old frames waits q j f x owned went there =
    owned-mapped ms frames (q + j) (f, x) (owns-on old ms frames_old frames owned went.balanced) there

-- a page that is there goes
pub one_more_went : (old ms ms_after : List (ℕ × (ℕ × Bool))) (frames_old frames frames_after : List Holding) (waits : List (Option Target))
    (q j f : ℕ) (x : Bool) → IsRising old → Owns old frames_old → Went old frames_old waits q j ms frames → mapping_at ms (q + j) ≡ Some (f, x)
    → ms_after ≡ without_page ms (q + j) → IsRising ms_after → frames_after ≡ set frames f (after_waits waits)
    → Went old frames_old waits q (j + 1) ms_after frames_after
one_more_went old ms ms_after frames_old frames frames_after waits q j f x old_rising owned went there removed rising gave =
    let here : page_at (pages_seen old) (q + j) ≡ Some (page_seen (q + j, (f, x))) =
    next_page old ms q j went.pages ∙ ap (option_map (λ (m : ℕ × Bool). page_seen (q + j, m))) there in
    let place = place_for (targets_seen waits) in
    record {
      pages = ap pages_seen removed ∙ pages_seen-remove ms (q + j) went.rising ∙ ap (without_pages (q + j) 1) went.pages
          ∙ sym (without-more q j (pages_seen old));
      places =
          ap places_seen gave ∙ places_seen-set frames f (after_waits waits) ∙ ap (set (places_seen frames) f) (place-after waits)
          ∙ ap (λ (ps : List PlaceWire). set ps f place) went.places
          ∙ sym (placed-more place (filter (is_between q j) (pages_seen old)) (page_seen (q + j, (f, x))) (places_seen frames_old))
          ∙ sym (ap (λ (es : List PageWire). placed place es (places_seen frames_old)) (between-more q j old old_rising
          ∙ ap (λ (o : Option PageWire). filter (is_between q j) (pages_seen old) ++ listed o) here));
      rising = rising;
      balanced =
          balanced-on old ms ms_after frames_old frames frames_after went.balanced
          (balanced-is ms (without_page ms (q + j)) ms_after frames (set frames f (after_waits waits)) frames_after removed gave
          (balanced-unmap ms frames (q + j) (f, x) (after_waits waits) (none-after waits) (owns-on old ms frames_old frames owned went.balanced) there));
      room =
          subst (λ (fs : List Holding). HaveRoom fs waits) (sym gave)
          (room_kept frames waits f (slice_get_within frames f Mapped (next_mapped old ms frames_old frames waits q j f x owned went there)) went.room);
    }

-- Where each of them is mapped, their frames are listed.

pub record Out (old : List (ℕ × (ℕ × Bool))) (frames_old : List Holding) (waits : List (Option Target)) (page number : ℕ)
    (ms : List (ℕ × (ℕ × Bool))) (frames : List Holding) (taken : List ℕ) : Type 0 where
  pub went : Went old frames_old waits page number ms frames
  pub taken_is : taken ≡ frames_of (pages_seen old) page number
  pub count : length taken ≡ number

pub none_out : (ms : List (ℕ × (ℕ × Bool))) (frames : List Holding) (waits : List (Option Target)) (q : ℕ) (taken : List ℕ) → taken ≡ []
    → IsRising ms → HaveRoom frames waits → Out ms frames waits q 0 ms frames taken
none_out ms frames waits q taken none rising room = record {
  went = none_went ms frames waits q rising room;
  taken_is = none ∙ sym (frames_of-none (pages_seen ms) q);
  count = ap length none;
}

pub never_missing : (old ms : List (ℕ × (ℕ × Bool))) (q j n : ℕ) → pages_seen ms ≡ without_pages q j (pages_seen old)
    → are_mapped (pages_seen old) q n ≡ true → j < n → mapping_at ms (q + j) ≢ None
never_missing old ms q j n is all within none =
    let there : is_mapped (pages_seen old) (q + j) ≡ true = are_mapped-at (pages_seen old) q n j all within in
    let missing : is_mapped (pages_seen old) (q + j) ≡ false =
    ap is_some (next_page old ms q j is ∙ ap (option_map (λ (m : ℕ × Bool). page_seen (q + j, m))) none) in
    cc (sym there ∙ missing)

pub one_more_out : (old ms ms_after : List (ℕ × (ℕ × Bool))) (frames_old frames frames_after : List Holding) (waits : List (Option Target))
    (q j f number : ℕ) (x : Bool) (taken taken_after : List ℕ) → IsRising old → Owns old frames_old → Out old frames_old waits q j ms frames taken
    → mapping_at ms (q + j) ≡ Some (f, x) → number ≡ f
    → taken_after ≡ taken ++ number ∷ [] → ms_after ≡ without_page ms (q + j) → IsRising ms_after → frames_after ≡ set frames f (after_waits waits)
    → Out old frames_old waits q (j + 1) ms_after frames_after taken_after
one_more_out old ms ms_after frames_old frames frames_after waits q j f number x taken taken_after old_rising owned out there is_number pushed
    removed rising gave =
    let here : frame_or_0 (page_at (pages_seen old) (q + j)) ≡ f =
    ap frame_or_0 (next_page old ms q j out.went.pages ∙ ap (option_map (λ (m : ℕ × Bool). page_seen (q + j, m))) there) in
    record {
      went = one_more_went old ms ms_after frames_old frames frames_after waits q j f x old_rising owned out.went there removed rising gave;
      taken_is =
          pushed ∙ ap (λ (fs : List ℕ). fs ++ number ∷ []) out.taken_is
          ∙ ap (λ (g : ℕ). frames_of (pages_seen old) q j ++ g ∷ []) (is_number ∙ sym here)
          ∙ sym (frames_of-more (pages_seen old) q j);
      count = ap length pushed ∙ longer taken number j out.count;
    }
  where
    longer : (fs : List ℕ) (g j : ℕ) → length fs ≡ j → length (fs ++ g ∷ []) ≡ j + 1
    longer fs g j is = omega (arith, length-append fs (g ∷ []))
